-- The code's own vocabulary for the pool of two sheets, which a reader of the statements need not believe.
use Rattle.std.specs.Prelude.{◌≡◌, true, false, Ok, Option, Some, None, List, [], ◌∷◌, map}
use Rattle.std.specs.Prelude.{ℕ, ◌≤◌, ◌<◌, ℤ, T, length, get_or, take}
use Rattle.arrayvec.specs.ArrayVec.{ArrayVec}
use Rattle.lists.specs.Lists.{all}
use Rattle.answers.specs.Answers.{Answer, Answered, slots}
use Rattle.clusters.specs.PairList.{row_start, score, scores_in_range}
use Rattle.interface.specs.Sheet.{space, cut, entries, pairs, is_among}
use Rattle.interface.specs.SheetText.{sheet_text}
use Rattle.interface.specs.Pool.{place_of, pool_text}
use Rattle.interface.specs.Refusals.{first_of, check14, check18, sheet_checks, both_checks}

-- a sheet that checks 2 to 9 and 11 pass, its number of entries and its pair list
pub record AcceptedSheet (sheet : List ℕ) (n : ℕ) (l : List ℤ) : Type 0 where
  pub passed : first_of (sheet_checks sheet) ≡ 0
  pub count : n ≡ entries sheet
  pub its_pairs : l ≡ pairs sheet

-- where a name stands among others, if it is there
abbrev pub PlaceAmong : List ℕ → List (List ℕ) → Option ℕ → Type 0
PlaceAmong w ms None = is_among w ms ≡ false
PlaceAmong w ms (Some place) = (is_among w ms ≡ true) × (place ≡ place_of w ms)

-- the places of the names ns among the names ms, if all are there
pub record Placed (ns ms : List (List ℕ)) (places : List ℕ) : Type 0 where
  pub there : all (λ w. is_among w ms) ns ≡ true
  pub are : places ≡ map (λ w. place_of w ms) ns

abbrev pub PlacesOn : (ns ms : List (List ℕ)) → Option (ArrayVec ℕ) → Type 0
PlacesOn ns ms None = all (λ w. is_among w ms) ns ≡ false
PlacesOn ns ms (Some places) = Placed ns ms places.items

-- two pair lists of n entries that check 11 passes, and where each entry of the first stands in the second
pub record Addable (n : ℕ) (first second : List ℤ) (places : List ℕ) : Type 0 where
  pub few : n ≤ 32
  pub first_long : length first ≡ row_start n
  pub second_long : length second ≡ row_start n
  pub first_allowed : T (scores_in_range first)
  pub second_allowed : T (scores_in_range second)
  pub places_long : length places ≡ n
  pub placed : (j : ℕ) → j < n → get_or places j 0 < n

-- checks 18 and 14 of sums that are to be written, with the names in line 1; and the outcome
unfoldable pub sheet_of : List ℕ → List ℤ → List ℕ
sheet_of line sums = sheet_text (cut space line) (score sums)

unfoldable pub sums_refusal : List ℕ → List ℤ → (buffer : ℕ) → ℕ
sums_refusal line sums buffer = first_of (check18 sums ∷ check14 buffer (sheet_of line sums) ∷ [])

pub record SumsWritten (line : List ℕ) (sums : List ℤ) (lent : List ℕ) (r : Answer) (after : List ℕ) : Type 0 where
  pub answered : Answered (sums_refusal line sums (length lent)) (length (sheet_of line sums)) r
  pub written : after ≡ slots (sums_refusal line sums (length lent)) (sheet_of line sums) lent

-- checks 17, 18 and 14; and the outcome
unfoldable pub both_refusal : (first second : List ℕ) → (buffer : ℕ) → ℕ
both_refusal first second buffer = first_of (both_checks first second buffer)

pub record PairsPooled (first second lent : List ℕ) (r : Answer) (after : List ℕ) : Type 0 where
  pub answered : Answered (both_refusal first second (length lent)) (length (pool_text first second)) r
  pub written : after ≡ slots (both_refusal first second (length lent)) (pool_text first second) lent

-- a sheet that was read: the answer, and the pair list in the first slots if it was accepted
pub record Read (sheet : List ℕ) (r : Answer) (slots : List ℤ) : Type 0 where
  pub answered : Answered (first_of (sheet_checks sheet)) (entries sheet) r
  pub accepted : (n : ℕ) → r ≡ Ok n → AcceptedSheet sheet n (take (row_start n) slots)
