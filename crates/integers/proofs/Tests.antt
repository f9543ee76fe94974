-- The tests of order as a branch of the code leaves them, equations with true or false; and back.
use mathlib.Core.Path.{◌≡◌, sym, ◌∙◌}
use mathlib.Core.Bool.{Bool, true, false, not, ◌&&◌}
use mathlib.Core.Logic.{◌⊎◌, inl, inr}
use lib.Dec.{T}
use lib.IntN.{ℤ}
use lib.Signed.{◌≤ℤ◌, ◌<ℤ◌, le_z, le_z_yes, clash_ℤ}
use Rattle.lists.proofs.Tests.{T_true, true_T, T_false, false_T, T_or_not}
use Rattle.integers.proofs.Linear.{le_z_no}

pub le_z_true : {a b : ℤ} → le_z a b ≡ true → a ≤ℤ b
le_z_true e = le_z_yes (true_T e)

pub le_z_false : {a b : ℤ} → le_z a b ≡ false → b <ℤ a
le_z_false e = le_z_no (false_T e)

pub true_le_z : {a b : ℤ} → a ≤ℤ b → le_z a b ≡ true
true_le_z h = T_true h.le

pub false_le_z : {a b : ℤ} → b <ℤ a → le_z a b ≡ false
false_le_z {a} {b} h = go (T_or_not (le_z a b))
  where
    go : T (le_z a b) ⊎ T (not (le_z a b)) → le_z a b ≡ false
    go (inl t) = clash_ℤ h (le_z_yes t)
    go (inr t) = T_false t

-- what `a && b` answers for two calls a and b: the second is made only if the first holds
pub and_second : {a b p q : Bool} → a ≡ p → a ≡ true → b ≡ q → b ≡ p && q
and_second e t f = rw (sym e ∙ t) f

pub and_first : {a p : Bool} (q : Bool) → a ≡ p → a ≡ false → a ≡ p && q
and_first q e t = rw (sym e ∙ t) t
