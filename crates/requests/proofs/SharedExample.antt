-- Examples of the smallest group that two entries share, by computing: document 01's four entries, whose strong groups stand on lines 1 to 6 and whose
-- clean groups on lines 1 and 2.
use mathlib.Core.Path.{◌≡◌, ap, ◌∙◌, refl}
use mathlib.Core.Bool.{xor}
use mathlib.Core.List.{[], ◌∷◌}
use Prim.Native.Nat.{ℕ}
use lib.IntN.{ℤ, pos, neg_ℤ}
use lib.ListN.{get_or}
use Rattle.lists.specs.Lists.{below, each, keep, all}
use Rattle.integers.specs.Integers.{min_z, max_z, eq_z, least, sum_of, sum, insert, sort, sum_of_smallest}
use Rattle.sets.specs.Sets.{has, members, others, size, mask, all_entries}
use Rattle.pairs.specs.Pairs.{mark, carried, is_scored}
use Rattle.clusters.specs.PairList.{row_start, place, score, one_point, point_limit, score_limit, has_length, is_in_range, is_allowed_pair, scores_in_range, has_unscored}
use Rattle.clusters.specs.Indices.{strong_values, strong_index, weight, pairs_of, weights, clean_index}
use Rattle.clusters.specs.Fillings.{low, high, worst, filled_index}
use Rattle.clusters.specs.Groups.{kind_of, index, proper, speaks_of, listed, positive, sets, sets_by, groups_by, groups}
use Rattle.clusters.specs.Nesting.{first_from, holds_both, smallest_shared}
use Rattle.clusters.specs.Bench.{four}
use Rattle.std.specs.Prelude.{Ok, Err}
use Rattle.answers.specs.declared.Refusal.TheVariants.{OutOfPlace, WrongKind}
use Rattle.answers.specs.Shared.{Shared, shared_set}
use Rattle.answers.proofs.Answers.{the_answer, is_answer}
use Rattle.interface.specs.Listing.{groups_found}
use Rattle.interface.specs.Refusals.{
  first_of,
  most_entries,
  wrong_kind,
  wrong_group_kind,
  wrong_count,
  wrong_unscored,
  wrong_distances,
  wrong_anchor,
  wrong_entries,
  shared_checks,
  shared_refusal,
}
use Rattle.interface.specs.Calls.{c_number, line_answer, sets_found, shared_found, SharedInC}

abbrev outcome : ℤ → (i j : ℕ) → Shared
outcome kind i j = the_answer (shared_refusal kind 4 four i j) (shared_found kind 4 four i j)

abbrev hit : (set line : ℕ) → Shared
hit A k = Ok (record { set = A; line = k })

-- 0 and 1, 0 and 2, 0 twice, 3 and 0, which no group holds; and refused
pub record SharedExamples : Type 0 where
  pub strong :
      outcome (pos 1) 0 1 ∷ outcome (pos 1) 0 2 ∷ outcome (pos 1) 0 0 ∷ outcome (pos 1) 3 0 ∷ outcome (pos 1) 0 4 ∷ []
      ≡ hit 3 5 ∷ hit 7 6 ∷ hit 1 1 ∷ hit 15 0 ∷ Err OutOfPlace ∷ []
  pub clean :
      outcome (pos 2) 0 1 ∷ outcome (pos 2) 0 2 ∷ outcome (pos 2) 0 0 ∷ outcome (pos 2) 3 0 ∷ outcome (pos 3) 0 1 ∷ []
      ≡ hit 3 1 ∷ hit 7 2 ∷ hit 3 1 ∷ hit 15 0 ∷ Err WrongKind ∷ []

pub shared_examples : SharedExamples
unfolding four below each keep all min_z max_z eq_z least sum_of sum insert sort sum_of_smallest has members others size mask all_entries row_start place score
    one_point point_limit score_limit has_length is_in_range is_allowed_pair scores_in_range has_unscored mark carried is_scored low high worst xor filled_index wrong_unscored strong_values strong_index weight pairs_of weights clean_index kind_of index proper speaks_of listed positive sets sets_by groups_by groups
    groups_found first_from holds_both smallest_shared first_of most_entries wrong_kind wrong_group_kind wrong_count wrong_distances wrong_anchor wrong_entries
    shared_checks shared_refusal sets_found shared_found the_answer
shared_examples = record { strong = refl; clean = refl }

-- in C: line 6 and its set; line 0 and all entries; minus the number and no set
module _ {kind r : ℤ} {i j set : ℕ} (s : Shared) (is : outcome kind i j ≡ s) (c : SharedInC kind 4 four i j r set) where
  in_C : (r ≡ c_number (line_answer s)) × (set ≡ shared_set s)
  in_C =
      let given = is_answer c.outcome.answered ∙ is in
      (c.answered ∙ ap (λ (s : Shared). c_number (line_answer s)) given, c.written ∙ ap shared_set given)

pub shared_in_C : {r : ℤ} {set : ℕ} → SharedInC (pos 1) 4 four 0 2 r set → (r ≡ pos 6) × (set ≡ 7)
unfolding c_number line_answer shared_set
shared_in_C c = in_C (hit 7 6) (ap (λ l. get_or l 1 (Err WrongKind)) shared_examples.strong) c

pub none_in_C : {r : ℤ} {set : ℕ} → SharedInC (pos 1) 4 four 3 0 r set → (r ≡ pos 0) × (set ≡ 15)
unfolding c_number line_answer shared_set
none_in_C c = in_C (hit 15 0) (ap (λ l. get_or l 3 (Err WrongKind)) shared_examples.strong) c

pub refused_in_C : {r : ℤ} {set : ℕ} → SharedInC (pos 1) 4 four 0 4 r set → (r ≡ neg_ℤ (pos 15)) × (set ≡ 0)
unfolding c_number line_answer shared_set
refused_in_C c = in_C (Err OutOfPlace) (ap (λ l. get_or l 4 (Err WrongKind)) shared_examples.strong) c
