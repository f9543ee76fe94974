-- A test of every element of a list, made from the front without an early exit: `good` tells whether those before place i
-- have passed.
use mathlib.Core.Path.{◌≡◌, sym}
use mathlib.Core.Bool.{Bool, true, false, not, ◌&&◌}
use mathlib.Core.List.{List}
use Prim.Native.Nat.{ℕ, ◌+◌, ◌≤◌, ◌<◌}
use lib.Dec.{T}
use lib.ListN.{length, get_or}
use Rattle.lists.specs.Lists.{all}
use Rattle.lists.proofs.Walk.{Passed, started, next, failed, ended}

pub record Tested {A : Type 0} (p : A → Bool) (l : List A) (good : Bool) (i : ℕ) : Type 0 where
  pub pass : T good → Passed p l i
  pub fail : T (not good) → false ≡ all p l

pub test_started : {A : Type 0} {p : A → Bool} {l : List A} → Tested p l true 0
test_started = record { pass = λ _. started; fail = λ t. absurd t }

pub test_next : {A : Type 0} {p : A → Bool} {l : List A} {good t : Bool} {i : ℕ} → Tested p l good i → (d : A) → i < length l → t ≡ p (get_or l i d) → Tested p l (good && t) (i + 1)
test_next {good = true} {t = true} s d h e = record { pass = λ _. next (s.pass tt) d h (sym e); fail = λ t. absurd t }
test_next {good = true} {t = false} s d h e = record { pass = λ t. absurd t; fail = λ _. failed (s.pass tt) d h (sym e) }
test_next {good = false} s d h e = record { pass = λ t. absurd t; fail = s.fail }

pub test_ended : {A : Type 0} {p : A → Bool} {l : List A} {good : Bool} {i : ℕ} → Tested p l good i → length l ≤ i → good ≡ all p l
test_ended {good = true} s h = ended (s.pass tt) h
test_ended {good = false} s h = s.fail tt
