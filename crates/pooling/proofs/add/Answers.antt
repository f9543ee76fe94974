use mathlib.Core.Path.{◌≡◌, refl, ◌∙◌}
use native.Mathlib.Omega.{arith}
use Rattle.clusters.proofs.Rows.{rows_none, rows_row, rows_all}
use Rattle.pooling.proofs.add.Goals as goal

-- the row that is written
pub loop-i-preserved : goal.loop-i-preserved
loop-i-preserved c = let v = c.loop-i.invariant in
    (omega arith, c.add_row.auto.out ∙ v.1, rows_row v.2 c.add_row.ensures)

pub loop-i-init : goal.loop-i-init
loop-i-init c = (omega arith, refl, rows_none)

pub returns : goal.returns
returns c =
    let e : c.loop-i.i ≡ c.args.n = omega arith in
    rows_all c.args.n c.loop-i.invariant.2 e c.requires.1
