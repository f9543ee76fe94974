-- Examples of the pool of two sheets, by computing: from the sheets' bytes to the pool's bytes, and refusals of each number of the table.
use mathlib.Core.Path.{◌≡◌, refl, ap, ap₂, ◌∙◌}
use mathlib.Core.Bool.{cond}
use mathlib.Core.List.Memᴰ
use mathlib.Core.List.{List, [], ◌∷◌, ◌++◌, map}
use native.Mathlib.Omega.{arith}
use Prim.Native.Nat.{ℕ, ◌<◌, ◌≤◌}
use borrow.Author.Tests.{le-ltb, lt-ltb}
use lib.Dec.{T, ltb, ltb→lt, lit<}
use lib.IntN.{ℤ, pos, neg_ℤ}
use lib.ListN.{length, take, drop}
use Rattle.lists.specs.Lists.{◌∈◌, below, each, all}
use Rattle.lists.proofs.Lists.{all_in, of_map_cong}
use Rattle.integers.specs.Integers.{eq_z}
use Rattle.pairs.specs.Pairs.{mark, number_for, list_number, carried}
use Rattle.clusters.specs.PairList.{row_start, place, score, pair_list, one_point, point_limit, score_limit, is_in_range, is_allowed_pair, scores_in_range}
use Rattle.clusters.specs.Pooling.{added, pooled}
use Rattle.answers.specs.Answers.{slots}
use Rattle.answers.proofs.Answers.{slots_written, slots_refused}
use Rattle.interface.specs.Sheet.{
  is_upper,
  is_digit,
  is_name,
  is_numeral,
  whole_part,
  fraction,
  half_text,
  has_half,
  is_whole_or_half,
  is_points,
  is_value,
  is_lone_minus,
  is_cell,
  digit_value,
  number_from,
  half_points,
  value_of,
  pair_said,
  longer,
  cut,
  lines,
  names,
  entries,
  words,
  value,
  mirrored,
  pairs,
  same_bytes,
  is_among,
  has_equal,
}
use Rattle.interface.specs.Listing.{digit, decimal_from, decimal, points_text, signed_points}
use Rattle.interface.specs.SheetText.{pair_text, joined, row_text, sheet_lines, sheet_text}
use Rattle.interface.specs.Pool.{place_of, place_on, pool_scores, pool_pairs, pool_text}
use Rattle.interface.specs.Refusals.{
  first_of,
  most_bytes,
  most_entries,
  wrong_length,
  is_allowed,
  wrong_byte,
  wrong_names,
  equal_names,
  wrong_count,
  wrong_lines,
  is_row,
  wrong_values,
  names_differ,
  reader_checks,
  sheet_checks,
  pool_checks,
  pool_refusal,
}
use Rattle.interface.specs.Calls.{c_number, InC, PoolCall}
use Rattle.interface.proofs.Outcomes.{refused_number}
use Rattle.interface.proofs.PoolScores.{pool_buffer}
use Rattle.interface.proofs.Example.{Case, many, refused}

-- two sheets and their pool
pub record Pool : Type 0 where
  pub first : List ℕ
  pub second : List ℕ
  pub text : List ℕ

-- `A B`, `1 2`, `2 3` and `B A`, `10 -5`, `-5 7`: `A B`, `8 -3`, `-3 13`
unfoldable pub signed : Pool
signed = record {
  first = 65 ∷ 32 ∷ 66 ∷ 10 ∷ 49 ∷ 32 ∷ 50 ∷ 10 ∷ 50 ∷ 32 ∷ 51 ∷ 10 ∷ [];
  second = 66 ∷ 32 ∷ 65 ∷ 10 ∷ 49 ∷ 48 ∷ 32 ∷ 45 ∷ 53 ∷ 10 ∷ 45 ∷ 53 ∷ 32 ∷ 55 ∷ 10 ∷ [];
  text = 65 ∷ 32 ∷ 66 ∷ 10 ∷ 56 ∷ 32 ∷ 45 ∷ 51 ∷ 10 ∷ 45 ∷ 51 ∷ 32 ∷ 49 ∷ 51 ∷ 10 ∷ [];
}

-- `A B C`, `1 - 2`, `- 3 4`, `2 4 5` and `C A B`, `6 - 7`, `- 8 9`, `7 9 -`: `A B C`, `9 - -`, `- - 11`, `- 11 11`
unfoldable pub unscored : Pool
unscored = record {
  first = 65 ∷ 32 ∷ 66 ∷ 32 ∷ 67 ∷ 10 ∷ 49 ∷ 32 ∷ 45 ∷ 32 ∷ 50 ∷ 10 ∷ 45 ∷ 32 ∷ 51 ∷ 32 ∷ 52 ∷ 10 ∷ 50 ∷ 32 ∷ 52 ∷ 32 ∷ 53 ∷ 10 ∷ [];
  second = 67 ∷ 32 ∷ 65 ∷ 32 ∷ 66 ∷ 10 ∷ 54 ∷ 32 ∷ 45 ∷ 32 ∷ 55 ∷ 10 ∷ 45 ∷ 32 ∷ 56 ∷ 32 ∷ 57 ∷ 10 ∷ 55 ∷ 32 ∷ 57 ∷ 32 ∷ 45 ∷ 10 ∷ [];
  text = 65 ∷ 32 ∷ 66 ∷ 32 ∷ 67 ∷ 10 ∷ 57 ∷ 32 ∷ 45 ∷ 32 ∷ 45 ∷ 10 ∷ 45 ∷ 32 ∷ 45 ∷ 32 ∷ 49 ∷ 49 ∷ 10 ∷ 45 ∷ 32 ∷ 49 ∷ 49 ∷ 32 ∷ 49 ∷ 49 ∷ 10 ∷ [];
}

-- further ones of the entry `A` alone: the sums `1000000` and `-1000000`, and a mark beside `1000000`;
-- `-2` and `-0.5`, `-0.5` and `1`
unfoldable pub pools : List Pool
pools =
    signed
    ∷ unscored
    ∷ record { first = 65 ∷ 10 ∷ 57 ∷ 57 ∷ 57 ∷ 57 ∷ 57 ∷ 57 ∷ 10 ∷ []; second = 65 ∷ 10 ∷ 49 ∷ 10 ∷ []; text = 65 ∷ 10 ∷ 49 ∷ 48 ∷ 48 ∷ 48 ∷ 48 ∷ 48 ∷ 48 ∷ 10 ∷ [] }
    ∷ record { first = 65 ∷ 10 ∷ 45 ∷ 49 ∷ 10 ∷ []; second = 65 ∷ 10 ∷ 45 ∷ 57 ∷ 57 ∷ 57 ∷ 57 ∷ 57 ∷ 57 ∷ 10 ∷ []; text = 65 ∷ 10 ∷ 45 ∷ 49 ∷ 48 ∷ 48 ∷ 48 ∷ 48 ∷ 48 ∷ 48 ∷ 10 ∷ [] }
    ∷ record { first = 65 ∷ 10 ∷ 49 ∷ 48 ∷ 48 ∷ 48 ∷ 48 ∷ 48 ∷ 48 ∷ 10 ∷ []; second = 65 ∷ 10 ∷ 45 ∷ 10 ∷ []; text = 65 ∷ 10 ∷ 45 ∷ 10 ∷ [] }
    ∷ record { first = 65 ∷ 10 ∷ 45 ∷ 50 ∷ 10 ∷ []; second = 65 ∷ 10 ∷ 45 ∷ 48 ∷ 46 ∷ 53 ∷ 10 ∷ []; text = 65 ∷ 10 ∷ 45 ∷ 50 ∷ 46 ∷ 53 ∷ 10 ∷ [] }
    ∷ record { first = 65 ∷ 10 ∷ 45 ∷ 48 ∷ 46 ∷ 53 ∷ 10 ∷ []; second = 65 ∷ 10 ∷ 49 ∷ 10 ∷ []; text = 65 ∷ 10 ∷ 48 ∷ 46 ∷ 53 ∷ 10 ∷ [] }
    ∷ []

-- two sheets that a call with a buffer of 3 bytes refuses, and the number
pub record Refusal : Type 0 where
  pub first : List ℕ
  pub second : List ℕ
  pub number : ℕ

-- the sheets that 2 to 9 and 11 refuse, with their numbers; `A`, `0`, which they pass
abbrev wrong : List Case
wrong = take 16 (drop 1 refused)

abbrev right : List ℕ
right = 65 ∷ 10 ∷ 48 ∷ 10 ∷ []

unfoldable pub refusals : List Refusal
refusals =
    -- the first is wrong; both are; the second is, with other names too
    map (λ c. record { first = c.sheet; second = right; number = c.number }) wrong
    ++ map (λ c. record { first = c.sheet; second = []; number = c.number }) wrong
    ++ map (λ c. record { first = right; second = c.sheet; number = c.number }) wrong
    ++ (
    -- `A` and `A B`, either first; `A` and `B`
    record { first = right; second = 65 ∷ 32 ∷ 66 ∷ 10 ∷ 48 ∷ 32 ∷ 48 ∷ 10 ∷ 48 ∷ 32 ∷ 48 ∷ 10 ∷ []; number = 17 }
    ∷ record { first = 65 ∷ 32 ∷ 66 ∷ 10 ∷ 48 ∷ 32 ∷ 48 ∷ 10 ∷ 48 ∷ 32 ∷ 48 ∷ 10 ∷ []; second = right; number = 17 }
    ∷ record { first = right; second = 66 ∷ 10 ∷ 48 ∷ 10 ∷ []; number = 17 }
    -- the sums `1000001` and `-1000001`
    ∷ record { first = 65 ∷ 10 ∷ 49 ∷ 48 ∷ 48 ∷ 48 ∷ 48 ∷ 48 ∷ 48 ∷ 10 ∷ []; second = 65 ∷ 10 ∷ 49 ∷ 10 ∷ []; number = 18 }
    ∷ record { first = 65 ∷ 10 ∷ 45 ∷ 49 ∷ 10 ∷ []; second = 65 ∷ 10 ∷ 45 ∷ 49 ∷ 48 ∷ 48 ∷ 48 ∷ 48 ∷ 48 ∷ 48 ∷ 10 ∷ []; number = 18 }
    -- the sum `1000000.5`
    ∷ record { first = 65 ∷ 10 ∷ 49 ∷ 48 ∷ 48 ∷ 48 ∷ 48 ∷ 48 ∷ 48 ∷ 10 ∷ []; second = 65 ∷ 10 ∷ 48 ∷ 46 ∷ 53 ∷ 10 ∷ []; number = 18 }
    -- one byte short
    ∷ record { first = right; second = right; number = 14 }
    ∷ []
    )

record Computed : Type 0 where
  texts : map (λ p. pool_text p.first p.second) pools ≡ map (λ p. p.text) pools
  passes : map (λ p. pool_refusal p.first p.second (length p.text)) pools ≡ map (λ p. 0) pools
  given : map (λ c. pool_refusal c.first c.second 3) refusals ≡ map (λ c. c.number) refusals
  positive : T (all (λ c. ltb 0 c.number) refusals)

computed : Computed
unfolding signed unscored pools refusals refused many below each all is_upper is_digit is_name is_numeral whole_part fraction half_text has_half is_whole_or_half is_points is_value is_lone_minus is_cell digit_value number_from
    half_points value_of pair_said longer cut lines names entries words value mirrored pairs same_bytes is_among has_equal digit decimal_from decimal points_text signed_points pair_text
    joined row_text sheet_lines sheet_text place_of place_on pool_scores pool_pairs pool_text first_of most_bytes most_entries wrong_length is_allowed wrong_byte
    wrong_names equal_names wrong_count wrong_lines is_row wrong_values names_differ reader_checks sheet_checks pool_checks pool_refusal eq_z mark number_for list_number
    carried row_start place score pair_list one_point point_limit score_limit is_in_range is_allowed_pair scores_in_range added pooled
computed = record { texts = refl; passes = refl; given = refl; positive = tt }

-- a call in C whose table gives a number: minus it is answered, and nothing is written
refused_as : {first second lent after : List ℕ} {r : ℤ} → InC (λ a. PoolCall first second lent a after) r
    → (k : ℕ) → 0 < k → pool_refusal first second (length lent) ≡ k → (r ≡ neg_ℤ (pos k)) × (after ≡ lent)
unfolding pool_refusal
refused_as {first} {second} {lent} c k h e =
    let minus = c.number ∙ (refused_number c.given k h).1 (c.outcome.answered.number ∙ e) in
    (minus, c.outcome.written ∙ slots_refused (pool_refusal first second (length lent)) (pool_text first second) lent (omega arith))

-- each pool is written in a buffer of its length or more, of which the further bytes stay; a shorter one gets 14
module _ (p : Pool) (m : p ∈ pools) {lent after : List ℕ} {r : ℤ} (c : InC (λ a. PoolCall p.first p.second lent a after) r) where
  is : pool_text p.first p.second ≡ p.text
  is = of_map_cong (λ p. pool_text p.first p.second) (λ p. p.text) pools computed.texts m

  number : pool_refusal p.first p.second (length lent) ≡ cond (ltb (length lent) (length p.text)) 14 0
  number =
      pool_buffer p.first p.second (length p.text) (length lent)
      (of_map_cong (λ p. pool_refusal p.first p.second (length p.text)) (λ p. 0) pools computed.passes m)
      ∙ ap (λ (t : List ℕ). cond (ltb (length lent) (length t)) 14 0) is

  pub pool_written : length p.text ≤ length lent → (r ≡ pos (length p.text)) × (after ≡ p.text ++ drop (length p.text) lent)
  unfolding c_number
  pool_written h =
      let k = pool_refusal p.first p.second (length lent) in
      let none : k ≡ 0 = number ∙ rw (le-ltb (length lent) (length p.text) h) in (
        c.number ∙ ap c_number (c.outcome.answered.is_found none) ∙ ap (λ (t : List ℕ). pos (length t)) is,
        c.outcome.written ∙ ap₂ (λ (k : ℕ) (t : List ℕ). slots k t lent) none is ∙ slots_written p.text lent,
      )

  pub pool_short : length lent < length p.text → (r ≡ neg_ℤ (pos 14)) × (after ≡ lent)
  pool_short h = refused_as c 14 (lit< tt) (number ∙ rw (lt-ltb (length lent) (length p.text) h))

-- the names in another order, and negative values
pub pool_example : {lent after : List ℕ} {r : ℤ} → InC (λ a. PoolCall signed.first signed.second lent a after) r
    → 15 ≤ length lent → (r ≡ pos 15) × (after ≡ signed.text ++ drop 15 lent)
unfolding signed pools
pool_example c h = pool_written signed (Memᴰ.head refl) c h

-- a pair unscored on either sheet, an own pair too
pub unscored_pool : {lent after : List ℕ} {r : ℤ} → InC (λ a. PoolCall unscored.first unscored.second lent a after) r
    → 27 ≤ length lent → (r ≡ pos 27) × (after ≡ unscored.text ++ drop 27 lent)
unfolding unscored pools
unscored_pool c h = pool_written unscored (Memᴰ.tail (Memᴰ.head refl)) c h

-- the call on each two sheets that are refused answers minus the number, and writes nothing; every number of the table is there
pub pool_refusals : (c : Refusal) → c ∈ refusals → {lent after : List ℕ} {r : ℤ} → InC (λ a. PoolCall c.first c.second lent a after) r
    → length lent ≡ 3 → (r ≡ neg_ℤ (pos c.number)) × (after ≡ lent)
pool_refusals c m call long = refused_as call c.number
    (ltb→lt 0 c.number (all_in (λ (c : Refusal). ltb 0 c.number) refusals computed.positive m))
    (ap (pool_refusal c.first c.second) long ∙ of_map_cong (λ c. pool_refusal c.first c.second 3) (λ c. c.number) refusals computed.given m)

-- the numbers of a sheet
abbrev pub of_sheet : List ℕ
of_sheet = 2 ∷ 3 ∷ 4 ∷ 4 ∷ 5 ∷ 6 ∷ 7 ∷ 8 ∷ 8 ∷ 8 ∷ 8 ∷ 9 ∷ 9 ∷ 11 ∷ 11 ∷ 11 ∷ []

pub pool_numbers : map (λ c. c.number) refusals ≡ of_sheet ++ of_sheet ++ of_sheet ++ (17 ∷ 17 ∷ 17 ∷ 18 ∷ 18 ∷ 18 ∷ 14 ∷ [])
unfolding refusals refused
pool_numbers = refl
