use mathlib.Core.Path.{◌∙◌}
use native.Mathlib.Omega.{arith}
use mir.Syntax.{w64}
use Rattle.integers.proofs.Held.{passed}
use Rattle.links.proofs.Rows.{written_left, written_next}
use Rattle.links.proofs.move_row.Goals as goal

pub loop-q-preserved : goal.loop-q-preserved
loop-q-preserved c = let w = c.loop-q.invariant.1 in (
  omega arith,
  rw c.put.ensures (written_next w (passed w64 c.get.type_inv
      (c.get.ensures ∙ written_left w c.args.last (omega arith) (omega arith) (omega arith))) (omega arith) (omega arith) (omega arith) (omega arith)),
)
