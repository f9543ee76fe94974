use native.Mathlib.Omega.{arith}
use Rattle.lists.proofs.Tested.{test_started, test_next, test_ended}
use Rattle.text.proofs.all_bytes.Goals as goal

pub loop-b-init : goal.loop-b-init
loop-b-init g c = λ p d. test_started

pub loop-b-preserved : goal.loop-b-preserved
loop-b-preserved g c = λ p d. test_next (c.loop-b.invariant p d) 0 (omega arith) (d _ (c.type_inv.s c.loop-b.b-index).fits _ c.test-good.ensures)

pub returns : goal.returns
returns g c = λ p d. test_ended (c.loop-b.invariant p d) (omega arith)
