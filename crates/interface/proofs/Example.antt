-- Document 01's worked example, from the sheet's bytes to the listing's bytes, and one refusal of each number of the C call: by computing.
use mathlib.Core.Path.{◌≡◌, refl, ap, ap₂, ◌∙◌}
use mathlib.Core.Bool.{not, xor}
use mathlib.Core.List.{List, [], ◌∷◌, ◌++◌, map, append-nil}
use mathlib.Core.Option.{some}
use Prim.Native.Nat.{ℕ, ◌+◌, ◌/◌, ◌%◌, ◌<◌, ◌≤◌}
use native.Mathlib.Omega.{arith}
use lib.Dec.{T, ltb, ltb→lt}
use lib.IntN.{ℤ, pos, negsuc, neg_ℤ}
use lib.ListN.{length, take, drop, drop_of_length-le}
use Rattle.lists.specs.Lists.{◌∈◌, below, each, keep, all}
use Rattle.lists.proofs.Lists.{all_in, of_map_cong}
use Rattle.integers.specs.Integers.{min_z, max_z, eq_z, least}
use Rattle.sets.specs.Sets.{has, members, others, size}
use Rattle.pairs.specs.Pairs.{mark, number_for, list_number, carried, is_scored}
use Rattle.clusters.specs.PairList.{row_start, place, score, pair_list, one_point, point_limit, score_limit, is_in_range, is_allowed_pair, scores_in_range, has_unscored, are_distances}
use Rattle.clusters.specs.Indices.{strong_values, strong_index}
use Rattle.clusters.specs.Fillings.{low, high, worst, filled_index}
use Rattle.clusters.specs.Groups.{kind_of, index, proper, speaks_of, positive, listed, sets, sets_by, groups_by, groups}
use Rattle.std.specs.Prelude.{Ok}
use Rattle.answers.specs.Answers.{Answer, slots}
use Rattle.answers.proofs.Answers.{slots_refused, slots_written}
use Rattle.interface.specs.Sheet.{
  is_upper,
  is_digit,
  is_name,
  is_numeral,
  whole_part,
  fraction,
  half_text,
  has_half,
  is_whole_or_half,
  is_points,
  is_value,
  is_lone_minus,
  is_cell,
  digit_value,
  number_from,
  half_points,
  value_of,
  pair_said,
  longer,
  cut,
  lines,
  names,
  entries,
  words,
  value,
  mirrored,
  pairs,
  same_bytes,
  is_among,
  has_equal,
}
use Rattle.interface.specs.Listing.{
  Line,
  line_of,
  digit,
  digits,
  hexadecimal,
  decimal_from,
  decimal,
  points_text,
  signed_points,
  first_text,
  line_text,
  first_line,
  listing,
  groups_found,
  pairs_listing,
  sheet_listing,
  is_hex_digit,
  is_set,
  is_decimal,
  is_index,
  is_line,
  line_read,
  is_first,
  line_words,
  is_listing,
  listing_read,
}
use Rattle.interface.specs.Refusals.{
  first_of,
  most_bytes,
  most_entries,
  wrong_kind,
  wrong_length,
  is_allowed,
  wrong_byte,
  wrong_names,
  equal_names,
  wrong_count,
  wrong_lines,
  is_row,
  wrong_values,
  wrong_unscored,
  wrong_distances,
  sheet_call_checks,
  sheet_refusal,
  reader_checks,
  reader_refusal,
  sheet_checks,
}
use Rattle.interface.specs.Calls.{c_number, CCall, has_name, ReaderCall, name_of, start_of, name_start, NameInC}
use Rattle.interface.proofs.Outcomes.{refused_number}

-- Program strong, standard input, and whole output
unfoldable pub sheet : List ℕ
sheet =
    65 ∷ 32 ∷ 66 ∷ 32 ∷ 67 ∷ 32 ∷ 68 ∷ 10
    ∷ 57 ∷ 32 ∷ 56 ∷ 32 ∷ 54 ∷ 32 ∷ 50 ∷ 10
    ∷ 56 ∷ 32 ∷ 57 ∷ 32 ∷ 53 ∷ 32 ∷ 51 ∷ 10
    ∷ 54 ∷ 32 ∷ 53 ∷ 32 ∷ 57 ∷ 32 ∷ 49 ∷ 10
    ∷ 50 ∷ 32 ∷ 51 ∷ 32 ∷ 49 ∷ 32 ∷ 57 ∷ 10
    ∷ []

unfoldable pub text : List ℕ
text =
    115 ∷ 101 ∷ 116 ∷ 32 ∷ 115 ∷ 105 ∷ 122 ∷ 101 ∷ 32 ∷ 105 ∷ 110 ∷ 100 ∷ 101 ∷ 120 ∷ 10
    ∷ 48 ∷ 48 ∷ 48 ∷ 48 ∷ 48 ∷ 48 ∷ 48 ∷ 49 ∷ 32 ∷ 49 ∷ 32 ∷ 49 ∷ 10
    ∷ 48 ∷ 48 ∷ 48 ∷ 48 ∷ 48 ∷ 48 ∷ 48 ∷ 50 ∷ 32 ∷ 49 ∷ 32 ∷ 49 ∷ 10
    ∷ 48 ∷ 48 ∷ 48 ∷ 48 ∷ 48 ∷ 48 ∷ 48 ∷ 52 ∷ 32 ∷ 49 ∷ 32 ∷ 51 ∷ 10
    ∷ 48 ∷ 48 ∷ 48 ∷ 48 ∷ 48 ∷ 48 ∷ 48 ∷ 56 ∷ 32 ∷ 49 ∷ 32 ∷ 54 ∷ 10
    ∷ 48 ∷ 48 ∷ 48 ∷ 48 ∷ 48 ∷ 48 ∷ 48 ∷ 51 ∷ 32 ∷ 50 ∷ 32 ∷ 50 ∷ 10
    ∷ 48 ∷ 48 ∷ 48 ∷ 48 ∷ 48 ∷ 48 ∷ 48 ∷ 55 ∷ 32 ∷ 51 ∷ 32 ∷ 50 ∷ 10
    ∷ []

-- the first line and six lines, as they are read, the index in half points
unfoldable pub six : List Line
six =
    record { set = 1; size = 1; index = pos 2 }
    ∷ record { set = 2; size = 1; index = pos 2 }
    ∷ record { set = 4; size = 1; index = pos 6 }
    ∷ record { set = 8; size = 1; index = pos 12 }
    ∷ record { set = 3; size = 2; index = pos 4 }
    ∷ record { set = 7; size = 3; index = pos 4 }
    ∷ []

-- a negative value: `A B`, `0 -5`, `-5 0`
unfoldable pub signed : List ℕ
signed = 65 ∷ 32 ∷ 66 ∷ 10 ∷ 48 ∷ 32 ∷ 45 ∷ 53 ∷ 10 ∷ 45 ∷ 53 ∷ 32 ∷ 48 ∷ 10 ∷ []

-- document 01's example, with C and D never compared, and what is then listed: no set that has C or D
unfoldable pub unscored : List ℕ
unscored =
    65 ∷ 32 ∷ 66 ∷ 32 ∷ 67 ∷ 32 ∷ 68 ∷ 10
    ∷ 57 ∷ 32 ∷ 56 ∷ 32 ∷ 54 ∷ 32 ∷ 50 ∷ 10
    ∷ 56 ∷ 32 ∷ 57 ∷ 32 ∷ 53 ∷ 32 ∷ 51 ∷ 10
    ∷ 54 ∷ 32 ∷ 53 ∷ 32 ∷ 57 ∷ 32 ∷ 45 ∷ 10
    ∷ 50 ∷ 32 ∷ 51 ∷ 32 ∷ 45 ∷ 32 ∷ 57 ∷ 10
    ∷ []

unfoldable pub unscored_text : List ℕ
unscored_text =
    115 ∷ 101 ∷ 116 ∷ 32 ∷ 115 ∷ 105 ∷ 122 ∷ 101 ∷ 32 ∷ 105 ∷ 110 ∷ 100 ∷ 101 ∷ 120 ∷ 10
    ∷ 48 ∷ 48 ∷ 48 ∷ 48 ∷ 48 ∷ 48 ∷ 48 ∷ 49 ∷ 32 ∷ 49 ∷ 32 ∷ 49 ∷ 10
    ∷ 48 ∷ 48 ∷ 48 ∷ 48 ∷ 48 ∷ 48 ∷ 48 ∷ 50 ∷ 32 ∷ 49 ∷ 32 ∷ 49 ∷ 10
    ∷ 48 ∷ 48 ∷ 48 ∷ 48 ∷ 48 ∷ 48 ∷ 48 ∷ 51 ∷ 32 ∷ 50 ∷ 32 ∷ 50 ∷ 10
    ∷ []

-- half points: `A B`, `1 -0.5`, `-0.5 0`, and what is listed: `00000001 1 1.5`, `00000002 1 0.5`
unfoldable pub halves : List ℕ
halves = 65 ∷ 32 ∷ 66 ∷ 10 ∷ 49 ∷ 32 ∷ 45 ∷ 48 ∷ 46 ∷ 53 ∷ 10 ∷ 45 ∷ 48 ∷ 46 ∷ 53 ∷ 32 ∷ 48 ∷ 10 ∷ []

unfoldable pub halves_text : List ℕ
halves_text =
    115 ∷ 101 ∷ 116 ∷ 32 ∷ 115 ∷ 105 ∷ 122 ∷ 101 ∷ 32 ∷ 105 ∷ 110 ∷ 100 ∷ 101 ∷ 120 ∷ 10
    ∷ 48 ∷ 48 ∷ 48 ∷ 48 ∷ 48 ∷ 48 ∷ 48 ∷ 49 ∷ 32 ∷ 49 ∷ 32 ∷ 49 ∷ 46 ∷ 53 ∷ 10
    ∷ 48 ∷ 48 ∷ 48 ∷ 48 ∷ 48 ∷ 48 ∷ 48 ∷ 50 ∷ 32 ∷ 49 ∷ 32 ∷ 48 ∷ 46 ∷ 53 ∷ 10
    ∷ []

-- `0.5`, `-0.5`, `7.5`, `9999999.5`, `1000000`, each with its half points
unfoldable pub half_words : List (List ℕ × ℤ)
half_words =
    (48 ∷ 46 ∷ 53 ∷ [], pos 1)
    ∷ (45 ∷ 48 ∷ 46 ∷ 53 ∷ [], negsuc 0)
    ∷ (55 ∷ 46 ∷ 53 ∷ [], pos 15)
    ∷ (57 ∷ 57 ∷ 57 ∷ 57 ∷ 57 ∷ 57 ∷ 57 ∷ 46 ∷ 53 ∷ [], pos 19999999)
    ∷ (49 ∷ 48 ∷ 48 ∷ 48 ∷ 48 ∷ 48 ∷ 48 ∷ [], pos 2000000)
    ∷ []

-- `.5`, `-.5`, `5.`, `5.0`, `00.5`, `-0`, `0.50`, `12345678.5`, `5.5.5`
unfoldable pub ill_formed : List (List ℕ)
ill_formed =
    (46 ∷ 53 ∷ [])
    ∷ (45 ∷ 46 ∷ 53 ∷ [])
    ∷ (53 ∷ 46 ∷ [])
    ∷ (53 ∷ 46 ∷ 48 ∷ [])
    ∷ (48 ∷ 48 ∷ 46 ∷ 53 ∷ [])
    ∷ (45 ∷ 48 ∷ [])
    ∷ (48 ∷ 46 ∷ 53 ∷ 48 ∷ [])
    ∷ (49 ∷ 50 ∷ 51 ∷ 52 ∷ 53 ∷ 54 ∷ 55 ∷ 56 ∷ 46 ∷ 53 ∷ [])
    ∷ (53 ∷ 46 ∷ 53 ∷ 46 ∷ 53 ∷ [])
    ∷ []

-- names of which one is a part of the other: `BA A`, `0 0`, `0 0`
unfoldable pub parted : List ℕ
parted = 66 ∷ 65 ∷ 32 ∷ 65 ∷ 10 ∷ 48 ∷ 32 ∷ 48 ∷ 10 ∷ 48 ∷ 32 ∷ 48 ∷ 10 ∷ []

-- 33 names: A, A0 to A9, B0 to B9, C0 to C9, D0, D1
unfoldable pub many : List ℕ
many = 65 ∷ (each (below 32) (λ i. 32 ∷ (65 + i / 10) ∷ (48 + i % 10) ∷ []) ++ (10 ∷ []))

-- a call that is refused: the kind, the sheet, the bytes of the buffer, and the number
pub record Case : Type 0 where
  pub kind : ℤ
  pub sheet : List ℕ
  pub buffer : ℕ
  pub number : ℕ

unfoldable pub refused : List Case
refused =
    -- kind 0
    record { kind = pos 0; sheet = 65 ∷ 10 ∷ 48 ∷ 10 ∷ []; buffer = 15; number = 1 }
    -- no byte
    ∷ record { kind = pos 1; sheet = []; buffer = 15; number = 2 }
    -- the byte `a`
    ∷ record { kind = pos 1; sheet = 97 ∷ 10 ∷ []; buffer = 15; number = 3 }
    -- `A` and no line feed
    ∷ record { kind = pos 1; sheet = 65 ∷ []; buffer = 15; number = 4 }
    -- the name `A.5`
    ∷ record { kind = pos 1; sheet = 65 ∷ 46 ∷ 53 ∷ 10 ∷ 48 ∷ 10 ∷ []; buffer = 15; number = 4 }
    -- the names `A A`
    ∷ record { kind = pos 1; sheet = 65 ∷ 32 ∷ 65 ∷ 10 ∷ []; buffer = 15; number = 5 }
    -- 33 names
    ∷ record { kind = pos 1; sheet = many; buffer = 15; number = 6 }
    -- no value line
    ∷ record { kind = pos 1; sheet = 65 ∷ 10 ∷ []; buffer = 15; number = 7 }
    -- the value `-0`
    ∷ record { kind = pos 1; sheet = 65 ∷ 10 ∷ 45 ∷ 48 ∷ 10 ∷ []; buffer = 15; number = 8 }
    -- two minus signs; the digits of the mark's number
    ∷ record { kind = pos 1; sheet = 65 ∷ 10 ∷ 45 ∷ 45 ∷ 10 ∷ []; buffer = 15; number = 8 }
    ∷ record { kind = pos 1; sheet = 65 ∷ 10 ∷ 45 ∷ 50 ∷ 49 ∷ 52 ∷ 55 ∷ 52 ∷ 56 ∷ 51 ∷ 54 ∷ 52 ∷ 56 ∷ 10 ∷ []; buffer = 15; number = 8 }
    -- the value `5.0`
    ∷ record { kind = pos 1; sheet = 65 ∷ 10 ∷ 53 ∷ 46 ∷ 48 ∷ 10 ∷ []; buffer = 15; number = 8 }
    -- one mirrored mark
    ∷ record { kind = pos 1; sheet = 65 ∷ 32 ∷ 66 ∷ 10 ∷ 48 ∷ 32 ∷ 45 ∷ 10 ∷ 48 ∷ 32 ∷ 48 ∷ 10 ∷ []; buffer = 15; number = 9 }
    -- mirrored values `1` and `2`
    ∷ record { kind = pos 1; sheet = 65 ∷ 32 ∷ 66 ∷ 10 ∷ 48 ∷ 32 ∷ 49 ∷ 10 ∷ 50 ∷ 32 ∷ 48 ∷ 10 ∷ []; buffer = 15; number = 9 }
    -- the value `1000001`
    ∷ record { kind = pos 1; sheet = 65 ∷ 10 ∷ 49 ∷ 48 ∷ 48 ∷ 48 ∷ 48 ∷ 48 ∷ 49 ∷ 10 ∷ []; buffer = 15; number = 11 }
    -- the values `1000000.5` and `-1000000.5`
    ∷ record { kind = pos 1; sheet = 65 ∷ 10 ∷ 49 ∷ 48 ∷ 48 ∷ 48 ∷ 48 ∷ 48 ∷ 48 ∷ 46 ∷ 53 ∷ 10 ∷ []; buffer = 15; number = 11 }
    ∷ record { kind = pos 1; sheet = 65 ∷ 10 ∷ 45 ∷ 49 ∷ 48 ∷ 48 ∷ 48 ∷ 48 ∷ 48 ∷ 48 ∷ 46 ∷ 53 ∷ 10 ∷ []; buffer = 15; number = 11 }
    -- kind 2, the mark
    ∷ record { kind = pos 2; sheet = 65 ∷ 10 ∷ 45 ∷ 10 ∷ []; buffer = 0; number = 16 }
    -- kind 3, the mark, and an own value `1`
    ∷ record { kind = pos 3; sheet = 65 ∷ 32 ∷ 66 ∷ 10 ∷ 49 ∷ 32 ∷ 45 ∷ 10 ∷ 45 ∷ 32 ∷ 48 ∷ 10 ∷ []; buffer = 15; number = 16 }
    -- kind 3, an own value `1`
    ∷ record { kind = pos 3; sheet = 65 ∷ 10 ∷ 49 ∷ 10 ∷ []; buffer = 15; number = 12 }
    -- a buffer of 14 bytes
    ∷ record { kind = pos 1; sheet = 65 ∷ 10 ∷ 48 ∷ 10 ∷ []; buffer = 14; number = 14 }
    ∷ []

record Computed : Type 0 where
  written : sheet_listing (pos 1) sheet ≡ text
  passes : sheet_refusal (pos 1) sheet 93 ≡ 0
  long : length text ≡ 93
  read : listing_read text ≡ some six
  given : map (λ c. sheet_refusal c.kind c.sheet c.buffer) refused ≡ map (λ c. c.number) refused
  numbers : map (λ c. c.number) refused ≡ 1 ∷ 2 ∷ 3 ∷ 4 ∷ 4 ∷ 5 ∷ 6 ∷ 7 ∷ 8 ∷ 8 ∷ 8 ∷ 8 ∷ 9 ∷ 9 ∷ 11 ∷ 11 ∷ 11 ∷ 16 ∷ 16 ∷ 12 ∷ 14 ∷ []
  positive : T (all (λ c. ltb 0 c.number) refused)
  signed_is : pairs signed ≡ pos 0 ∷ negsuc 9 ∷ pos 0 ∷ []
  signed_passes : reader_refusal signed ≡ 0
  signed_two : entries signed ≡ 2
  unscored_written : sheet_listing (pos 1) unscored ≡ unscored_text
  unscored_passes : sheet_refusal (pos 1) unscored 54 ≡ 0
  unscored_long : length unscored_text ≡ 54
  halves_written : sheet_listing (pos 1) halves ≡ halves_text
  halves_passes : sheet_refusal (pos 1) halves 45 ≡ 0
  halves_long : length halves_text ≡ 45
  halves_pairs : pairs halves ≡ pos 2 ∷ negsuc 0 ∷ pos 0 ∷ []
  half_words_lem : map (λ (w, z). value_of w) half_words ≡ map (λ (w, z). z) half_words
  half_formed : T (all (λ (w, z). is_value w) half_words)
  ill_formed_lem : T (all (λ w. not (is_cell w)) ill_formed)
  name : name_of parted 1 ≡ 65 ∷ []
  start : name_start parted 1 ≡ 3

computed : Computed
unfolding sheet text six signed halves halves_text half_words ill_formed parted refused many is_upper is_digit is_name is_numeral whole_part fraction half_text has_half is_whole_or_half is_points is_value digit_value number_from half_points value_of longer cut lines names entries
    words value mirrored pairs same_bytes is_among has_equal kind_of index proper speaks_of listed sets sets_by groups_by positive groups strong_values strong_index score place
    row_start pair_list has members others size min_z max_z eq_z least below each keep all line_of digit digits hexadecimal decimal_from decimal points_text signed_points
    first_text line_text first_line listing groups_found pairs_listing sheet_listing is_hex_digit is_set is_decimal is_index is_line line_read is_first line_words is_listing
    listing_read is_in_range is_allowed_pair scores_in_range has_unscored mark number_for list_number carried is_scored low high worst xor filled_index
    is_lone_minus is_cell pair_said wrong_unscored unscored unscored_text one_point point_limit score_limit are_distances first_of most_bytes most_entries wrong_kind wrong_length is_allowed wrong_byte wrong_names equal_names wrong_count
    wrong_lines is_row wrong_values wrong_distances sheet_call_checks sheet_checks sheet_refusal reader_checks reader_refusal has_name name_of start_of name_start
computed = record {
  written = refl;
  passes = refl;
  long = refl;
  read = refl;
  given = refl;
  numbers = refl;
  positive = tt;
  signed_is = refl;
  signed_passes = refl;
  signed_two = refl;
  unscored_written = refl;
  unscored_passes = refl;
  unscored_long = refl;
  halves_written = refl;
  halves_passes = refl;
  halves_long = refl;
  halves_pairs = refl;
  half_words_lem = refl;
  half_formed = tt;
  ill_formed_lem = tt;
  name = refl;
  start = refl;
}

-- the C call on a sheet whose listing is this text of k bytes, with a buffer of as many
listed_as : (s t : List ℕ) (k : ℕ) → sheet_listing (pos 1) s ≡ t → sheet_refusal (pos 1) s k ≡ 0 → length t ≡ k
    → (lent after : List ℕ) (r : ℤ) → length lent ≡ k → CCall (pos 1) s lent r after → (r ≡ pos k) × (after ≡ t)
unfolding c_number
listed_as s t k written passes size lent after r long c =
    let none : sheet_refusal (pos 1) s (length lent) ≡ 0 = ap (sheet_refusal (pos 1) s) long ∙ passes in
    let all : length lent ≤ length t = omega (arith, size) in (
      c.number ∙ ap c_number (c.outcome.answered.is_found none) ∙ ap (λ (t : List ℕ). pos (length t)) written ∙ ap pos size,
      c.outcome.written ∙ ap₂ (λ (k : ℕ) (t : List ℕ). slots k t lent) none written ∙ slots_written t lent
          ∙ ap (λ (l : List ℕ). t ++ l) (drop_of_length-le lent all) ∙ append-nil t,
    )

pub example : (lent after : List ℕ) (r : ℤ) → length lent ≡ 93 → CCall (pos 1) sheet lent r after → (r ≡ pos 93) × (after ≡ text)
example = listed_as sheet text 93 computed.written computed.passes computed.long

pub unscored_example : (lent after : List ℕ) (r : ℤ) → length lent ≡ 54 → CCall (pos 1) unscored lent r after → (r ≡ pos 54) × (after ≡ unscored_text)
unscored_example = listed_as unscored unscored_text 54 computed.unscored_written computed.unscored_passes computed.unscored_long

pub halves_example : (lent after : List ℕ) (r : ℤ) → length lent ≡ 45 → CCall (pos 1) halves lent r after → (r ≡ pos 45) × (after ≡ halves_text)
halves_example = listed_as halves halves_text 45 computed.halves_written computed.halves_passes computed.halves_long

-- each of the words is well formed and stands for its half points; of the others none is, nor the mark
pub half_words_lem : (map (λ (w, z). value_of w) half_words ≡ map (λ (w, z). z) half_words) × T (all (λ (w, z). is_value w) half_words) × T (all (λ w. not (is_cell w)) ill_formed)
half_words_lem = (computed.half_words_lem, computed.half_formed, computed.ill_formed_lem)

-- and read back, without the writer
pub example_read : listing_read text ≡ some six
example_read = computed.read

-- the C call on each sheet that is refused answers minus its number, and writes nothing; every number of the C call is there
pub refused_with : (c : Case) → c ∈ refused → (lent after : List ℕ) (r : ℤ) → length lent ≡ c.buffer → CCall c.kind c.sheet lent r after
    → (r ≡ neg_ℤ (pos c.number)) × (after ≡ lent)
refused_with c m lent after r long call =
    let given = of_map_cong (λ c. sheet_refusal c.kind c.sheet c.buffer) (λ c. c.number) refused computed.given m in
    let more : 0 < c.number = ltb→lt 0 c.number (all_in (λ (c : Case). ltb 0 c.number) refused computed.positive m) in
    let k = sheet_refusal c.kind c.sheet (length lent) in
    let first : k ≡ c.number = ap (sheet_refusal c.kind c.sheet) long ∙ given in
    let text = sheet_listing c.kind c.sheet in (
      call.number ∙ (refused_number call.given c.number more).1 (call.outcome.answered.number ∙ first),
      call.outcome.written ∙ slots_refused k text lent (omega arith),
    )

pub every_number : map (λ c. c.number) refused ≡ 1 ∷ 2 ∷ 3 ∷ 4 ∷ 4 ∷ 5 ∷ 6 ∷ 7 ∷ 8 ∷ 8 ∷ 8 ∷ 8 ∷ 9 ∷ 9 ∷ 11 ∷ 11 ∷ 11 ∷ 16 ∷ 16 ∷ 12 ∷ 14 ∷ []
every_number = computed.numbers

-- a negative value is read as one; a name is told by its place, though its bytes stand elsewhere too
pub signed_pairs : pairs signed ≡ pos 0 ∷ negsuc 9 ∷ pos 0 ∷ []
signed_pairs = computed.signed_is

-- and so by the reader, which touches no further slot
pub reader_example : (lent after : List ℤ) (r : Answer) → ReaderCall signed lent r after
    → (r ≡ Ok 2) × (after ≡ (pos 0 ∷ negsuc 9 ∷ pos 0 ∷ []) ++ drop 3 lent)
reader_example lent after r c = (
  c.answered.is_found computed.signed_passes ∙ ap Ok computed.signed_two,
  c.written ∙ ap₂ (λ (k : ℕ) (l : List ℤ). slots k l lent) computed.signed_passes computed.signed_is
      ∙ slots_written (pos 0 ∷ negsuc 9 ∷ pos 0 ∷ []) lent,
)

pub name_place : (name_of parted 1 ≡ 65 ∷ []) × (name_start parted 1 ≡ 3)
name_place = (computed.name, computed.start)

pub name_in_C : (r start : ℕ) → NameInC parted 1 r start → (r ≡ 1) × (start ≡ 3) × (take r (drop start parted) ≡ 65 ∷ [])
name_in_C r start c = (c.answered ∙ ap length computed.name, c.lies ∙ computed.start, c.bytes ∙ computed.name)
