-- The sheet (document 01), as a list of bytes: its names and values, its lines, its pair list.
use Rattle.std.specs.Prelude.{Bool, true, false, not, cond, ◌&&◌, ◌||◌, List, [], ◌∷◌, ℕ, suc, ◌+◌, ◌-◌, ◌*◌, ℤ, pos}
use Rattle.std.specs.Prelude.{neg_ℤ, eqb, leb, length, get_or}
use Rattle.lists.specs.Lists.{below, all}
use Rattle.integers.specs.Integers.{eq_z}
use Rattle.pairs.specs.declared.Carried.TheVariants.{Scored, Unscored}
use Rattle.pairs.specs.declared.Pair.{Pair}
use Rattle.pairs.specs.Pairs.{list_number}
use Rattle.clusters.specs.PairList.{Similarity, one_point, pair_list}

abbrev pub line_feed : ℕ
line_feed = 10

abbrev pub space : ℕ
space = 32

abbrev pub minus : ℕ
minus = 45

abbrev pub point : ℕ
point = 46

-- two equal byte lists
unfoldable pub same_bytes : List ℕ → List ℕ → Bool
same_bytes [] [] = true
same_bytes [] (y ∷ t) = false
same_bytes (x ∷ s) [] = false
same_bytes (x ∷ s) (y ∷ t) = eqb x y && same_bytes s t

-- "A to Z"; "0 to 9"
unfoldable pub is_upper : ℕ → Bool
is_upper b = leb 65 b && leb b 90

unfoldable pub is_digit : ℕ → Bool
is_digit b = leb 48 b && leb b 57

-- "A name is 1 to 8 bytes, first A to Z, then A to Z or 0 to 9."
unfoldable pub is_name : List ℕ → Bool
is_name [] = false
is_name (b ∷ w) = is_upper b && all (λ c. is_upper c || is_digit c) w && leb (length w) 7

-- "1 to 7 decimal digits, without a leading zero unless it is `0`"
unfoldable pub is_numeral : List ℕ → Bool
is_numeral [] = false
is_numeral (b ∷ w) = all is_digit (b ∷ w) && leb (length w) 6 && (not (eqb b 48) || eqb (length w) 0)

-- "A value may end in `.5`" (document 02, 2.6): a word up to its first point, and from there on; it ends in `.5`; it
-- has no point, or ends so
unfoldable pub whole_part : List ℕ → List ℕ
whole_part [] = []
whole_part (b ∷ w) = cond (eqb b point) [] (b ∷ whole_part w)

unfoldable pub fraction : List ℕ → List ℕ
fraction [] = []
fraction (b ∷ w) = cond (eqb b point) (b ∷ w) (fraction w)

unfoldable pub half_text : List ℕ
half_text = point ∷ 53 ∷ []

unfoldable pub has_half : List ℕ → Bool
has_half w = same_bytes (fraction w) half_text

unfoldable pub is_whole_or_half : List ℕ → Bool
is_whole_or_half w = eqb (length (fraction w)) 0 || has_half w

-- a value without its sign
unfoldable pub is_points : List ℕ → Bool
is_points w = is_numeral (whole_part w) && is_whole_or_half w

-- "A value is an optional minus and .. digits ..; `-0` is ill-formed."
unfoldable pub is_value : List ℕ → Bool
is_value [] = false
is_value (b ∷ w) = cond (eqb b minus) (is_points w && not (same_bytes w (48 ∷ []))) (is_points (b ∷ w))

-- "On the sheet the mark is a lone minus" (document 02, 2.2)
unfoldable pub is_lone_minus : List ℕ → Bool
is_lone_minus [] = false
is_lone_minus (b ∷ w) = eqb b minus && eqb (length w) 0

-- what is well formed where a value stands: a value, or the mark
unfoldable pub is_cell : List ℕ → Bool
is_cell w = is_lone_minus w || is_value w

-- what a digit stands for: 0 to 9, and in base 16 a to f; the number that digits stand for in a base, read on from k
unfoldable pub digit_value : ℕ → ℕ
digit_value b = cond (is_digit b) (b - 48) (b - 87)

unfoldable pub number_from : ℕ → ℕ → List ℕ → ℕ
number_from base k [] = k
number_from base k (b ∷ w) = number_from base (k * base + digit_value b) w

-- the value that a word stands for, "in half points" (document 02, 2.6): `.5` is one of them
unfoldable pub half_points : List ℕ → ℕ
half_points w = number_from 10 0 (whole_part w) * one_point + cond (has_half w) 1 0

unfoldable pub value_of : List ℕ → ℤ
value_of [] = pos 0
value_of (b ∷ w) = cond (eqb b minus) (neg_ℤ (pos (half_points w))) (pos (half_points (b ∷ w)))

-- the pair that a word stands for
unfoldable pub pair_said : List ℕ → Pair
pair_said w = record { carries = cond (is_lone_minus w) Unscored (Scored (value_of w)) }

-- the pieces between the bytes that equal c, the empty ones too: one more than there are such bytes
unfoldable pub longer : ℕ → List (List ℕ) → List (List ℕ)
longer b [] = (b ∷ []) ∷ []
longer b (w ∷ ws) = (b ∷ w) ∷ ws

unfoldable pub cut : ℕ → List ℕ → List (List ℕ)
cut c [] = [] ∷ []
cut c (b ∷ s) = cond (eqb b c) ([] ∷ cut c s) (longer b (cut c s))

-- "Line 1 holds the n entry names, single spaces between. Then n lines of n values .. Each line ends with a line feed."
unfoldable pub lines : List ℕ → List (List ℕ)
lines s = cut line_feed s

unfoldable pub names : List ℕ → List (List ℕ)
names s = cut space (get_or (lines s) 0 [])

-- n
unfoldable pub entries : List ℕ → ℕ
entries s = length (names s)

-- the values of line i of the n value lines, counted from 0, as they are written
unfoldable pub words : List ℕ → ℕ → List (List ℕ)
words s i = cut space (get_or (lines s) (suc i) [])

-- row i, column j, by its number in the pair list
unfoldable pub value : List ℕ → Similarity
value s i j = list_number (pair_said (get_or (words s i) j []))

-- "Row i column j equals row j column i."; "Mirrored cells must both have" the mark, which is no value's number
unfoldable pub mirrored : ℕ → Similarity → Bool
mirrored n v = all (λ i. all (λ j. eq_z (v i j) (v j i)) (below n)) (below n)

-- "The pair list is the lower triangle with own pairs, row by row"
unfoldable pub pairs : List ℕ → List ℤ
pairs s = pair_list (entries s) (value s)

-- a byte list among others; two equal ones among byte lists
unfoldable pub is_among : List ℕ → List (List ℕ) → Bool
is_among w [] = false
is_among w (x ∷ l) = same_bytes w x || is_among w l

unfoldable pub has_equal : List (List ℕ) → Bool
has_equal [] = false
has_equal (w ∷ l) = is_among w l || has_equal l
