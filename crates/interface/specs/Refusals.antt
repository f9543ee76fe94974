-- Where a call is turned away (document 01), as tests, which the contracts of the code cite: the table, one check for
-- each line, in its order; and which call makes which checks. Nobody need believe it: demands/specs/Sentences and
-- Tables say the same in words, and that both agree is proved (demands/proofs/AgreeTables; of a request's call in its
-- file of requests/proofs).
use Rattle.std.specs.Prelude.{Bool, not, cond, ◌&&◌, ◌||◌, List, [], ◌∷◌, ◌++◌, ℕ, ◌+◌, ◌-◌, ◌*◌, ◌^◌, ℤ, pos, eqb, leb}
use Rattle.std.specs.Prelude.{ltb, length, get_or}
use Rattle.lists.specs.Lists.{below, all}
use Rattle.integers.specs.Integers.{eq_z}
use Rattle.sets.specs.Sets.{size, complement}
use Rattle.clusters.specs.PairList.{row_start, has_length, scores_in_range, has_unscored, are_distances}
use Rattle.clusters.specs.Farris.{is_anchored}
use Rattle.interface.specs.Sheet.{
  line_feed,
  space,
  minus,
  point,
  is_upper,
  is_digit,
  is_name,
  is_cell,
  lines,
  names,
  entries,
  words,
  value,
  mirrored,
  pairs,
  is_among,
  has_equal,
}
use Rattle.interface.specs.Listing.{sheet_listing}
use Rattle.interface.specs.Pool.{pool_pairs, pool_text}

-- a check: the number of a line of the table, and whether its condition holds
abbrev pub Check : Type 0
Check = ℕ × Bool

-- "Checks run down the table": the first number whose condition holds, 0 if none does
unfoldable pub first_of : List Check → ℕ
first_of [] = 0
first_of ((number, holds) ∷ checks) = cond holds number (first_of checks)

-- no condition holds
abbrev pub none : List Check → Bool
none checks = all (λ (number, holds). not holds) checks

-- The table. Two of its limits have a name, and the range of 11 has one in clusters/specs/PairList.
unfoldable pub most_bytes : ℕ
most_bytes = 12288

unfoldable pub most_entries : ℕ
most_entries = 32

-- kind | 1 | "not 1, 2 or 3"
unfoldable pub wrong_kind : ℤ → Bool
wrong_kind kind = not (eq_z kind (pos 1) || eq_z kind (pos 2) || eq_z kind (pos 3))

abbrev pub check1 : ℤ → Check
check1 kind = (1, wrong_kind kind)

-- "Kind 3 gets 1 here" (document 02, 2.1)
unfoldable pub wrong_group_kind : ℤ → Bool
wrong_group_kind kind = wrong_kind kind || eq_z kind (pos 3)

abbrev pub check1_groups : ℤ → Check
check1_groups kind = (1, wrong_group_kind kind)

-- whole sheet | 2 | "0 bytes, or over 12,288"
unfoldable pub wrong_length : List ℕ → Bool
wrong_length s = eqb (length s) 0 || ltb most_bytes (length s)

-- whole sheet | 3 | "a byte that is not A to Z, 0 to 9, minus, space or line feed"; "the point joins the bytes that
-- check 3 allows" (document 02, 2.6)
unfoldable pub is_allowed : ℕ → Bool
is_allowed b = is_upper b || is_digit b || eqb b minus || eqb b point || eqb b space || eqb b line_feed

unfoldable pub wrong_byte : List ℕ → Bool
wrong_byte s = not (all is_allowed s)

-- line 1 | 4 | "no line feed, or not one or more names as above"
unfoldable pub wrong_names : List ℕ → Bool
wrong_names s = eqb (length (lines s)) 1 || not (all is_name (names s))

-- line 1 | 5 | "two equal names"
unfoldable pub equal_names : List ℕ → Bool
equal_names s = has_equal (names s)

-- entries | 6 | "n is 0 or over 32"
unfoldable pub wrong_count : ℕ → Bool
wrong_count n = eqb n 0 || ltb most_entries n

abbrev pub check6 : ℕ → Check
check6 n = (6, wrong_count n)

-- after line 1 | 7 | "not n line feeds, or the last byte is none": the pieces are line 1, the n value lines and an
-- empty piece behind the last line feed
unfoldable pub wrong_lines : List ℕ → Bool
wrong_lines s =
    not (eqb (length (lines s)) (entries s + 2))
    || not (eqb (length (get_or (lines s) (entries s + 1) [])) 0)

-- value lines | 8 | "a line without exactly n well-formed values and single spaces between"
unfoldable pub is_row : ℕ → List (List ℕ) → Bool
is_row n ws = eqb (length ws) n && all is_cell ws

unfoldable pub wrong_values : List ℕ → Bool
wrong_values s = not (all (λ i. is_row (entries s) (words s i)) (below (entries s)))

-- pair list | 10 | "length is not n(n+1)/2"
abbrev pub check10 : ℕ → List ℤ → Check
check10 n l = (10, not (has_length n l))

-- pair list | 11 | "a value below −1,000,000 or above 1,000,000", in points; the mark is exempt
abbrev pub check11 : List ℤ → Check
check11 l = (11, not (scores_in_range l))

-- "Kinds 2 and 3, the linkage calls and the anchored scores get 16 for a sheet with an unscored pair, placed right
-- after 11." (document 02, 2.2)
abbrev pub check16 : List ℤ → Check
check16 l = (16, has_unscored l)

-- of a call that takes a kind
unfoldable pub wrong_unscored : ℤ → List ℤ → Bool
wrong_unscored kind l = not (eq_z kind (pos 1)) && has_unscored l

abbrev pub check16_of : ℤ → List ℤ → Check
check16_of kind l = (16, wrong_unscored kind l)

-- pair list, kind 3 | 12 | "a negative value, or an own value that is not 0"
unfoldable pub wrong_distances : ℤ → ℕ → List ℤ → Bool
wrong_distances kind n l = eq_z kind (pos 3) && not (are_distances n l)

abbrev pub check12 : ℤ → ℕ → List ℤ → Check
check12 kind n l = (12, wrong_distances kind n l)

-- result slices | 13 | "either has fewer than 2n slots"
unfoldable pub few_slots : ℕ → (sets indices : ℕ) → Bool
few_slots n sets indices = ltb sets (2 * n) || ltb indices (2 * n)

abbrev pub check13 : ℕ → (sets indices : ℕ) → Check
check13 n sets indices = (13, few_slots n sets indices)

-- output buffer | 14 | "the listing has more bytes than the buffer"
abbrev pub check14 : (buffer : ℕ) → (text : List ℕ) → Check
check14 buffer text = (14, ltb buffer (length text))

-- linkage and anchored calls | 15 | "an anchor of n or more; a result slice shorter than the result; in the way back, a
-- list that is not the anchored scores, at that anchor, of any distances passing 11 and 12": a call has those of the
-- three that speak of it
unfoldable pub wrong_anchor : ℕ → (anchor : ℕ) → Bool
wrong_anchor n x = leb n x

unfoldable pub short_slice : (slots result : ℕ) → Bool
short_slice slots result = ltb slots result

unfoldable pub not_anchored : ℕ → (anchor : ℕ) → List ℤ → Bool
not_anchored n x l = not (is_anchored n x l)

-- "an entry number of n or more" (document 02, 2.1), of two entries
unfoldable pub wrong_entries : ℕ → (i j : ℕ) → Bool
wrong_entries n i j = wrong_anchor n i || wrong_anchor n j

abbrev pub check15 : Bool → Check
check15 holds = (15, holds)

-- "17 means the two name sets differ" (document 02, 2.4): a name of one sheet is not among those of the other
unfoldable pub names_differ : (first second : List (List ℕ)) → Bool
names_differ first second = not (all (λ w. is_among w second) first && all (λ w. is_among w first) second)

abbrev pub check17 : (first second : List ℕ) → Check
check17 first second = (17, names_differ (names first) (names second))

-- "18 a sum out of range": that of 11; an unscored pair has no sum
abbrev pub check18 : (sums : List ℤ) → Check
check18 sums = (18, not (scores_in_range sums))

-- "a side with fewer than two, or a member numbered n or more, gives 19" (document 02, 2.5): the side handed in or the
-- other
unfoldable pub wrong_side : ℕ → (side : ℕ) → Bool
wrong_side n A = ltb (size n A) 2 || ltb (size n (complement n A)) 2 || leb (2 ^ n) A

abbrev pub check19 : ℕ → (side : ℕ) → Check
check19 n A = (19, wrong_side n A)

-- Which call makes which: parts that several calls make, and each call's list, in which 16 stands "right after 11".
-- of a sheet: "if checks 2 to 9 refuse the sheet" (The sheet), and with 11; 9 is "two mirrored values differ"
unfoldable pub reader_checks : List ℕ → List Check
reader_checks s =
    (2, wrong_length s)
    ∷ (3, wrong_byte s)
    ∷ (4, wrong_names s)
    ∷ (5, equal_names s)
    ∷ check6 (entries s)
    ∷ (7, wrong_lines s)
    ∷ (8, wrong_values s)
    ∷ (9, not (mirrored (entries s) (value s)))
    ∷ []

unfoldable pub sheet_checks : List ℕ → List Check
sheet_checks s = reader_checks s ++ (check11 (pairs s) ∷ [])

-- of a pair list: 6 and 10; with 11; with 16, of the calls that take scores only; with 12, of those that take distances
abbrev pub length_checks : ℕ → List ℤ → List Check
length_checks n l = check6 n ∷ check10 n l ∷ []

abbrev pub pair_checks : ℕ → List ℤ → List Check
pair_checks n l = length_checks n l ++ (check11 l ∷ [])

abbrev pub scored_checks : ℕ → List ℤ → List Check
scored_checks n l = pair_checks n l ++ (check16 l ∷ [])

abbrev pub distance_checks : ℕ → List ℤ → List Check
distance_checks n l = scored_checks n l ++ (check12 (pos 3) n l ∷ [])

-- of a kind, after 11
abbrev pub kind_checks : ℤ → ℕ → List ℤ → List Check
kind_checks kind n l = check16_of kind l ∷ check12 kind n l ∷ []

-- "The sheet and C calls make checks 1 to 9, 11, 12, 14"
unfoldable pub sheet_call_checks : ℤ → List ℕ → (buffer : ℕ) → List Check
sheet_call_checks kind s buffer =
    (check1 kind ∷ sheet_checks s) ++ kind_checks kind (entries s) (pairs s)
    ++ (check14 buffer (sheet_listing kind s) ∷ [])

-- "the numbers call 1, 6, 10 to 13"
unfoldable pub numbers_checks : ℤ → ℕ → List ℤ → (sets indices : ℕ) → List Check
numbers_checks kind n l sets indices =
    (check1 kind ∷ pair_checks n l) ++ kind_checks kind n l ++ (check13 n sets indices ∷ [])

-- "the linkage calls 6, 10, 11, 15"; the result has n − 1 blocks
unfoldable pub linkage_checks : ℕ → List ℤ → (slots : ℕ) → List Check
linkage_checks n l slots = scored_checks n l ++ (check15 (short_slice slots (n - 1)) ∷ [])

-- "the anchored scores 6, 10, 11, 12, 15, judged as kind 3"; the result has as many numbers as the pair list
unfoldable pub anchored_checks : ℕ → (anchor : ℕ) → List ℤ → (slots : ℕ) → List Check
anchored_checks n x l slots =
    distance_checks n l ++ (check15 (wrong_anchor n x || short_slice slots (row_start n)) ∷ [])

-- "the way back 6, 10, 15"
unfoldable pub back_checks : ℕ → (anchor : ℕ) → List ℤ → (slots : ℕ) → List Check
back_checks n x l slots =
    length_checks n l ++ (check15 (wrong_anchor n x || short_slice slots (row_start n) || not_anchored n x l) ∷ [])

-- of a score looked up in C: the checks of a pair list's length, and 15 for an entry number of n or more
unfoldable pub score_checks : ℕ → List ℤ → (a b : ℕ) → List Check
score_checks n l a b = length_checks n l ++ (check15 (wrong_entries n a b) ∷ [])

-- of the smallest group that two entries share: "after the numbers call's checks, 13 left out, an entry number of n or
-- more gets 15" (document 02, 2.1)
unfoldable pub shared_checks : ℤ → ℕ → List ℤ → (i j : ℕ) → List Check
shared_checks kind n l i j =
    (check1_groups kind ∷ pair_checks n l) ++ kind_checks kind n l ++ (check15 (wrong_entries n i j) ∷ [])

-- of the pool of two sheets: "The first sheet passes 2 to 9 and 11, then the second; after them 17 .., 18 .., and 14 a
-- short buffer." (document 02, 2.4)
abbrev pub both_checks : (first second : List ℕ) → (buffer : ℕ) → List Check
both_checks first second buffer =
    check17 first second
    ∷ check18 (pool_pairs first second)
    ∷ check14 buffer (pool_text first second)
    ∷ []

unfoldable pub pool_checks : (first second : List ℕ) → (buffer : ℕ) → List Check
pool_checks first second buffer = sheet_checks first ++ (sheet_checks second ++ both_checks first second buffer)

-- of the refined weight of a split: "after 6, 10, 11, 16 and 12, judged as kind 3", 19 (document 02, 2.5)
unfoldable pub refined_checks : ℕ → List ℤ → (side : ℕ) → List Check
refined_checks n l A = distance_checks n l ++ (check19 n A ∷ [])

-- the number of the refusal that each call gives, 0 if none
unfoldable pub sheet_refusal : ℤ → List ℕ → (buffer : ℕ) → ℕ
sheet_refusal kind s buffer = first_of (sheet_call_checks kind s buffer)

unfoldable pub numbers_refusal : ℤ → ℕ → List ℤ → (sets indices : ℕ) → ℕ
numbers_refusal kind n l sets indices = first_of (numbers_checks kind n l sets indices)

unfoldable pub linkage_refusal : ℕ → List ℤ → (slots : ℕ) → ℕ
linkage_refusal n l slots = first_of (linkage_checks n l slots)

unfoldable pub anchored_refusal : ℕ → (anchor : ℕ) → List ℤ → (slots : ℕ) → ℕ
anchored_refusal n x l slots = first_of (anchored_checks n x l slots)

unfoldable pub back_refusal : ℕ → (anchor : ℕ) → List ℤ → (slots : ℕ) → ℕ
back_refusal n x l slots = first_of (back_checks n x l slots)

unfoldable pub reader_refusal : List ℕ → ℕ
reader_refusal s = first_of (reader_checks s)

unfoldable pub score_refusal : ℕ → List ℤ → (a b : ℕ) → ℕ
score_refusal n l a b = first_of (score_checks n l a b)

unfoldable pub shared_refusal : ℤ → ℕ → List ℤ → (i j : ℕ) → ℕ
shared_refusal kind n l i j = first_of (shared_checks kind n l i j)

unfoldable pub pool_refusal : (first second : List ℕ) → (buffer : ℕ) → ℕ
pool_refusal first second buffer = first_of (pool_checks first second buffer)

unfoldable pub refined_refusal : ℕ → List ℤ → (side : ℕ) → ℕ
refined_refusal n l A = first_of (refined_checks n l A)
