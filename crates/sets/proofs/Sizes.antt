-- The size of a set as the count of its binary digits 1, and for more entries than the set has.
use mathlib.Core.Path.{◌≡◌, sym, ap, ◌∙◌}
use Prim.Native.Nat.{ℕ, zero, suc, ◌+◌, ◌/◌, ◌^◌, ◌≤◌, ◌<◌}
use native.Mathlib.Nat.{div-one, div-eq_of_lt, lt_of_lt_of_le}
use native.Mathlib.Numerals.{add-one}
use native.Mathlib.Omega.{arith}
use lib.Count.{ones, ones_in, ones_step}
use lib.Pow.{shr-shr, pow_mono}
use Rattle.lists.specs.Lists.{below, keep}
use Rattle.sets.specs.Sets.{members, size}
use Rattle.sets.proofs.Sets.{size_suc}

-- the entries below n, and those from n on
size_rest : (n A : ℕ) → size n A + ones (A / 2 ^ n) ≡ ones A
unfolding size members below keep
size_rest zero A = omega (arith, ap ones (div-one A))
size_rest (suc n) A = omega (arith, size_suc n A, size_rest n A, ones_step (A / 2 ^ n), ap ones (shr-shr A n 1 ∙ ap (λ (k : ℕ). A / 2 ^ k) (add-one n)))

pub size_ones : (n A : ℕ) → A < 2 ^ n → size n A ≡ ones A
unfolding ones ones_in
size_ones n A h = omega (arith, size_rest n A, ap ones (div-eq_of_lt h))

-- entries that no member is among do not count
pub size_wide : (n m A : ℕ) → A < 2 ^ n → n ≤ m → size m A ≡ size n A
size_wide n m A h l = size_ones m A (lt_of_lt_of_le h (pow_mono l)) ∙ sym (size_ones n A h)
