-- What the operators and methods of signed numbers give, in the words of the definitions.
use mathlib.Core.Path.{◌≡◌}
use mathlib.Core.Bool.{not}
use Prim.Native.Nat.{ℕ}
use native.Mathlib.Omega.{arith}
use lib.IntN.{ℤ, pos}
use lib.Signed.{le_z, lt_z, rem_z}
use lib.Dec.{eqb}
use mir.Syntax.{Width}
use mir.Val.{SFits, of_z}
use Rattle.std.proofs.lemmas.Int.{ints}
use Rattle.std.specs.Int.{int_min, int_max}
use Rattle.integers.specs.Integers.{min_z, max_z, eq_z, half, even}

pub not_less : (a b : ℤ) → not (lt_z b a) ≡ le_z a b
not_less a b = grind (arith, ints)

pub min_is : (a b : ℤ) → int_min a b ≡ min_z a b
unfolding min_z
min_is a b = grind (arith, ints)

pub max_is : (a b : ℤ) → int_max a b ≡ max_z a b
unfolding max_z
max_is a b = grind (arith, ints)

-- `x == y` compares the bits; those of a literal are a number
pub same_bits : (w : Width) (a b : ℤ) (n : ℕ) → SFits w a → SFits w b → n ≡ of_z w b → eqb (of_z w a) n ≡ eq_z a b
unfolding eq_z
same_bits w a b n f g e = rw e (grind (arith, ints))

-- `x % 2 == 0`
pub even_is : (w : Width) (z : ℤ) → SFits w z → eqb (of_z w (rem_z z (pos 2))) 0 ≡ even z
unfolding even half eq_z
even_is w z f = grind (arith, ints)
