-- "A pair carries either a score or the mark unscored." (document 02, 2.2): `Scored` with its number, or `Unscored`.
use Rattle.std.specs.Prelude.{Bool, true, false, cond, ℤ, pos, neg_ℤ}
use Rattle.integers.specs.Integers.{eq_z}
use Rattle.pairs.specs.declared.Carried.{Carried}
use Rattle.pairs.specs.declared.Carried.TheVariants.{Scored, Unscored}
use Rattle.pairs.specs.declared.Pair.{Pair}

-- "in the pair list it is −2,147,483,648"
unfoldable pub mark : ℤ
mark = neg_ℤ (pos 2147483648)

-- the number of a pair in the pair list, for each case
unfoldable pub number_for : Carried → ℤ
number_for (Scored z) = z
number_for Unscored = mark

unfoldable pub list_number : Pair → ℤ
list_number p = number_for p.carries

-- the pair that a number of the pair list stands for
unfoldable pub carried : ℤ → Carried
carried z = cond (eq_z z mark) Unscored (Scored z)

unfoldable pub pair_of : ℤ → Pair
pair_of z = record { carries = carried z }

unfoldable pub is_scored : Carried → Bool
is_scored (Scored z) = true
is_scored Unscored = false
