-- What is written (document 01), as a list of bytes, and how it is read back.
use Rattle.std.specs.Prelude.{Bool, false, not, cond, ◌&&◌, ◌||◌, List, [], ◌∷◌, ◌++◌, map, ℕ, zero, suc, ◌+◌, ◌-◌, ◌/◌}
use Rattle.std.specs.Prelude.{◌%◌, ℤ, pos, negsuc, eqb, leb, ltb, length, get_or, take, drop}
use Rattle.std.proofs.Math.Option.{Option, none, some}
use Rattle.lists.specs.Lists.{each, all}
use Rattle.sets.specs.Sets.{size}
use Rattle.clusters.specs.PairList.{one_point, score}
use Rattle.clusters.specs.Groups.{kind_of, groups}
use Rattle.clusters.specs.declared.Group.{Group}
use Rattle.interface.specs.Sheet.{line_feed, space, minus, is_digit, number_from, cut}
use Rattle.interface.specs.Sheet.{whole_part, half_text, is_whole_or_half, half_points}
use Rattle.interface.specs.Sheet.{lines, entries, pairs, same_bytes}

-- a line says "the set ..; the number of members; the index"
pub record Line : Type 0 where
  pub set : ℕ
  pub size : ℕ
  pub index : ℤ

-- the line of a group, or a split; and what a line says of it
unfoldable pub line_of : ℕ → Group → Line
line_of n g = record { set = g.set; size = size n g.set; index = g.index }

unfoldable pub group_of : Line → Group
group_of l = record { set = l.set; index = l.index }

-- Written.
-- a digit: 0 to 9, then a to f
unfoldable pub digit : ℕ → ℕ
digit k = cond (ltb k 10) (48 + k) (87 + k)

-- the last k digits of a number in a base
unfoldable pub digits : ℕ → ℕ → ℕ → List ℕ
digits base zero n = []
digits base (suc k) n = digits base k (n / base) ++ (digit (n % base) ∷ [])

-- "8 lower-case hexadecimal digits, where entry i, counted from 0, weighs 2 to the power i"
unfoldable pub hexadecimal : ℕ → List ℕ
hexadecimal A = digits 16 8 A

-- "decimal": a number below 10 is one digit, any other the digits of a tenth of it and one more. The first argument is
-- at least the number of digits.
unfoldable pub decimal_from : ℕ → ℕ → List ℕ
decimal_from zero n = []
decimal_from (suc k) n =
    let front = decimal_from k (n / 10) in
    cond (ltb n 10) (digit n ∷ []) (front ++ (digit (n % 10) ∷ []))

unfoldable pub decimal : ℕ → List ℕ
decimal n = decimal_from (suc n) n

-- "Indices are written in points, with `.5` where needed" (document 02, 2.6): a number of half points, without a sign
-- and with one
unfoldable pub points_text : ℕ → List ℕ
points_text k = decimal (k / one_point) ++ cond (eqb (k % one_point) 0) [] half_text

unfoldable pub signed_points : ℤ → List ℕ
signed_points (pos k) = points_text k
signed_points (negsuc k) = minus ∷ points_text (suc k)

-- "First line `set size index`."
unfoldable pub first_text : List ℕ
first_text = 115 ∷ 101 ∷ 116 ∷ 32 ∷ 115 ∷ 105 ∷ 122 ∷ 101 ∷ 32 ∷ 105 ∷ 110 ∷ 100 ∷ 101 ∷ 120 ∷ []

-- "Then a line per group: the set ..; the number of members; the index; both decimal, single spaces"
unfoldable pub line_text : Line → List ℕ
line_text l = hexadecimal l.set ++ (space ∷ []) ++ decimal l.size ++ (space ∷ []) ++ signed_points l.index

-- "a line feed after each"
unfoldable pub first_line : List ℕ
first_line = first_text ++ (line_feed ∷ [])

unfoldable pub listing : List Line → List ℕ
listing ls = first_line ++ each ls (λ l. line_text l ++ (line_feed ∷ []))

-- the groups or splits of a kind number, of n entries and their pair list; their listing; the listing of a sheet
unfoldable pub groups_found : ℤ → ℕ → List ℤ → List Group
groups_found kind n l = groups (kind_of kind) n (score l)

unfoldable pub pairs_listing : ℤ → ℕ → List ℤ → List ℕ
pairs_listing kind n l = listing (map (line_of n) (groups_found kind n l))

unfoldable pub sheet_listing : ℤ → List ℕ → List ℕ
sheet_listing kind s = pairs_listing kind (entries s) (pairs s)

-- Read back, by none of the definitions from `digit` on.
-- "lower-case hexadecimal digits": 0 to 9, a to f
unfoldable pub is_hex_digit : ℕ → Bool
is_hex_digit b = is_digit b || leb 97 b && leb b 102

-- "the set as 8 lower-case hexadecimal digits"
unfoldable pub is_set : List ℕ → Bool
is_set w = eqb (length w) 8 && all is_hex_digit w

-- "decimal": digits, without a leading zero unless it is `0`
unfoldable pub is_decimal : List ℕ → Bool
is_decimal [] = false
is_decimal (b ∷ w) = all is_digit (b ∷ w) && (not (eqb b 48) || eqb (length w) 0)

-- an index, "in points, with `.5` where needed". One that is listed is half a point or more, so it has no sign.
unfoldable pub is_index : List ℕ → Bool
is_index w = is_decimal (whole_part w) && is_whole_or_half w

-- a line by its words: is it of the form, and what does it say, the index in half points?
unfoldable pub is_line : List (List ℕ) → Bool
is_line ws = eqb (length ws) 3 && is_set (get_or ws 0 []) && is_decimal (get_or ws 1 []) && is_index (get_or ws 2 [])

unfoldable pub line_read : List (List ℕ) → Line
line_read ws = record {
  set = number_from 16 0 (get_or ws 0 []);
  size = number_from 10 0 (get_or ws 1 []);
  index = pos (half_points (get_or ws 2 []));
}

-- "First line `set size index`.", by its words
unfoldable pub is_first : List (List ℕ) → Bool
is_first ws =
    eqb (length ws) 3
    && same_bytes (get_or ws 0 []) (115 ∷ 101 ∷ 116 ∷ [])
    && same_bytes (get_or ws 1 []) (115 ∷ 105 ∷ 122 ∷ 101 ∷ [])
    && same_bytes (get_or ws 2 []) (105 ∷ 110 ∷ 100 ∷ 101 ∷ 120 ∷ [])

-- "a line feed after each", "single spaces": the text's lines, cut at line feeds, are the first line, a line per group
-- and an empty piece behind the last line feed; the words of the lines between the first and the last
unfoldable pub line_words : List ℕ → List (List (List ℕ))
line_words s = map (cut space) (take (length (lines s) - 2) (drop 1 (lines s)))

-- the bytes are of the written form
unfoldable pub is_listing : List ℕ → Bool
is_listing s =
    leb 2 (length (lines s))
    && is_first (cut space (get_or (lines s) 0 []))
    && all is_line (line_words s)
    && eqb (length (get_or (lines s) (length (lines s) - 1) [])) 0

-- the lines of a listing; what is not of the form is not read
unfoldable pub listing_read : List ℕ → Option (List Line)
listing_read s = cond (is_listing s) (some (map line_read (line_words s))) none
