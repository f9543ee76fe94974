use mathlib.Core.Path.{◌∙◌}
use native.Mathlib.Omega.{arith}
use Rattle.clusters.proofs.PairList.{row_lt, score_symm}
use Rattle.links.proofs.Rows.{holds_next, own_next}
use Rattle.links.proofs.fill.Goals as goal

pub fill_row-requires : goal.fill_row-requires
fill_row-requires c = let a = c.loop-a.a in (
  omega arith,
  c.row_start.ensures,
  omega (arith, c.requires.1, c.row_start.ensures, row_lt c.args.n a a (omega arith) (omega arith)),
  omega (arith, c.requires.2, c.loop-a.invariant.3),
)

pub loop-a-preserved : goal.loop-a-preserved
loop-a-preserved c = let d = c.fill_row.ensures in
    let i = c.loop-a.invariant in (
      omega arith,
      holds_next (score_symm c.args.pairs.now) (omega arith) (omega (arith, c.requires.2, i.3)) i.1 d,
      own_next i.2 d,
      d.size ∙ i.3,
    )
