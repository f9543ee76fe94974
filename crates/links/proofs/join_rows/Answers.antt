use mathlib.Core.Path.{◌≡◌, ◌∙◌, ap₂}
use native.Mathlib.Omega.{arith}
use mir.Syntax.{w64}
use mir.Val.{of_z, to_z}
use Rattle.integers.proofs.Held.{passed}
use Rattle.links.specs.Table.{entry, joined, joined_row}
use Rattle.links.proofs.Rows.{written_left, written_next}
use Rattle.links.proofs.join_rows.Goals.{After-get-in-loop-q}
use Rattle.links.proofs.join_rows.Goals as goal

-- what the two reads gave
first : (c : After-get-in-loop-q) → to_z w64 (of_z w64 c.get.result) ≡ entry c.args.t.now c.args.i c.loop-q.q
first c = passed w64 c.get.type_inv (c.get.ensures ∙ written_left c.loop-q.invariant.1 c.args.i (omega arith) (omega arith) (omega arith))

second : (c : After-get-in-loop-q) → to_z w64 (of_z w64 c.get-in-loop-q.result) ≡ entry c.args.t.now c.args.j c.loop-q.q
second c = passed w64 c.get-in-loop-q.type_inv
    (c.get-in-loop-q.ensures ∙ written_left c.loop-q.invariant.1 c.args.j (omega arith) (omega arith) (omega arith))

pub loop-q-preserved : goal.loop-q-preserved
unfolding joined_row
loop-q-preserved c = let g = (goal.at.loop-q-preserved c).After-get-in-loop-q in
    let e = c.requires.3.size in (
      omega arith,
      rw c.put.ensures (written_next c.loop-q.invariant.1
          (passed w64 c.join.type_inv (c.join.ensures ∙ ap₂ (joined c.args.method) (first g) (second g)))
          (omega arith) (omega arith) (omega (arith, e)) (omega (arith, e))),
    )
