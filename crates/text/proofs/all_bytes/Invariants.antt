use mathlib.Core.Bool.{Bool}
use Prim.Native.Nat.{ℕ}
use Rattle.lists.proofs.Tested.{Tested}
use Rattle.text.specs.Reading.{Decides}
use Rattle.text.proofs.all_bytes.Given as goal

abbrev pub invariant-loop-b : goal.invariant-loop-b
invariant-loop-b g l = (p : ℕ → Bool) → Decides (goal.F-post g l.test) p → Tested p l.s l.good l.b-index
