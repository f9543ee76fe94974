-- Laws of halves.
use mathlib.Core.Path.{◌≡◌, ap}
use Prim.Native.Nat.{ℕ, suc, ◌+◌, ◌/◌}
use native.Mathlib.Omega.{arith}
use lib.IntN.{ℤ, pos, negsuc, neg_ℤ, ◌+ℤ◌}
use lib.Dec.{T}
use Rattle.integers.specs.Integers.{half, even}
use Rattle.integers.proofs.Linear.{eq_z_yes, yes_eq_z}

pub half_twice : (z : ℤ) → half (z +ℤ z) ≡ z
unfolding half
half_twice (pos a) = ap pos (omega arith)
half_twice (negsuc a) = let e : suc (suc (a + a)) / 2 ≡ suc a = omega arith in ap (λ (k : ℕ). neg_ℤ (pos k)) e

pub even_half : (z : ℤ) → T (even z) → half z +ℤ half z ≡ z
unfolding even
even_half z t = eq_z_yes (half z +ℤ half z) z t

pub even_twice : (z : ℤ) → T (even (z +ℤ z))
unfolding even
even_twice z = yes_eq_z (half (z +ℤ z) +ℤ half (z +ℤ z)) (z +ℤ z) (ap (λ y. y +ℤ y) (half_twice z))
