-- Examples of the calls on a pair list, by computing: the numbers call's slots, the refusals of each call, scores looked up.
use mathlib.Core.Path.{◌≡◌, refl, ap, ap₂, ◌∙◌}
use mathlib.Core.Bool.{xor}
use mathlib.Core.List.{List, [], ◌∷◌}
use Prim.Native.Nat.{ℕ}
use lib.IntN.{ℤ, pos, negsuc}
use lib.ListN.{length}
use Rattle.lists.specs.Lists.{below, each, keep, all}
use Rattle.integers.specs.Integers.{min_z, max_z, eq_z, least, half, even}
use Rattle.sets.specs.Sets.{has, members, others, size}
use Rattle.pairs.specs.declared.Carried.TheVariants.{Scored, Unscored}
use Rattle.pairs.specs.declared.Pair.{Pair}
use Rattle.pairs.specs.Pairs.{mark, number_for, list_number, carried, pair_of, is_scored}
use Rattle.clusters.specs.PairList.{row_start, place, score, pair_list, one_point, point_limit, score_limit, has_length, is_in_range, in_range, is_allowed_pair, scores_in_range}
use Rattle.clusters.specs.PairList.{has_unscored, are_distances}
use Rattle.clusters.specs.Indices.{strong_values, strong_index}
use Rattle.clusters.specs.Fillings.{low, high, worst, filled_index}
use Rattle.clusters.specs.Farris.{unfarris, distances_back, is_anchored}
use Rattle.clusters.specs.Groups.{kind_of, index, proper, speaks_of, listed, sets, groups, positive, sets_by, groups_by}
use Rattle.clusters.specs.Bench.{own}
use Rattle.std.specs.Prelude.{Ok, Err}
use Rattle.answers.specs.declared.Refusal.TheVariants.{WrongKind}
use Rattle.answers.specs.Answers.{Answer, filled}
use Rattle.answers.proofs.Answers.{refused_with}
use Rattle.interface.specs.Listing.{groups_found}
use Rattle.interface.specs.Refusals.{
  first_of,
  most_entries,
  wrong_kind,
  wrong_count,
  wrong_unscored,
  wrong_distances,
  few_slots,
  wrong_anchor,
  wrong_entries,
  short_slice,
  not_anchored,
  numbers_checks,
  numbers_refusal,
  linkage_checks,
  linkage_refusal,
  anchored_checks,
  anchored_refusal,
  back_checks,
  back_refusal,
  score_checks,
  score_refusal,
  wrong_group_kind,
  shared_checks,
  shared_refusal,
}
use Rattle.interface.specs.Calls.{NumbersCall, sets_found, indices_found, is_pair, score_among, pair_among, ScoreInC}

-- the two cases of a pair
abbrev scored_pair : ℤ → Pair
scored_pair z = record { carries = Scored z }

abbrev unscored_pair : Pair
unscored_pair = record { carries = Unscored }

-- Of the bench's three entries, own 6, others 5, and of one entry: what the numbers call finds; each number of each call's table, and 0 where no
-- line holds; scores of two entries, and of what is no pair.
pub record Examples : Type 0 where
  pub passes : numbers_refusal (pos 1) 3 own 7 6 ≡ 0
  pub these : sets_found (pos 1) 3 own ≡ 1 ∷ 2 ∷ 4 ∷ []
  pub their : indices_found (pos 1) 3 own ≡ pos 1 ∷ pos 1 ∷ pos 1 ∷ []
  pub many : length (groups_found (pos 1) 3 own) ≡ 3
  pub numbers :
      numbers_refusal (pos 0) 3 own 6 6
      ∷ numbers_refusal (pos 1) 0 [] 6 6
      ∷ numbers_refusal (pos 1) 2 own 6 6
      ∷ numbers_refusal (pos 1) 1 (pos 2000001 ∷ []) 2 2
      ∷ numbers_refusal (pos 1) 2 (mark ∷ pos 2000001 ∷ mark ∷ []) 4 4
      ∷ numbers_refusal (pos 2) 1 (mark ∷ []) 1 1
      ∷ numbers_refusal (pos 3) 1 (mark ∷ []) 2 2
      ∷ numbers_refusal (pos 1) 1 (mark ∷ []) 2 2
      ∷ numbers_refusal (pos 3) 3 own 6 6
      ∷ numbers_refusal (pos 1) 3 own 5 6
      ∷ numbers_refusal (pos 1) 3 own 6 5
      ∷ []
      ≡ 1 ∷ 6 ∷ 10 ∷ 11 ∷ 11 ∷ 16 ∷ 16 ∷ 0 ∷ 12 ∷ 13 ∷ 13 ∷ []
  pub linkage :
      linkage_refusal 0 [] 0
      ∷ linkage_refusal 2 own 2
      ∷ linkage_refusal 1 (negsuc 2000000 ∷ []) 0
      ∷ linkage_refusal 2 (pos 1 ∷ mark ∷ pos 1 ∷ []) 0
      ∷ linkage_refusal 3 own 1
      ∷ linkage_refusal 3 own 2
      ∷ []
      ≡ 6 ∷ 10 ∷ 11 ∷ 16 ∷ 15 ∷ 0 ∷ []
  pub anchored :
      anchored_refusal 0 0 [] 0
      ∷ anchored_refusal 2 0 own 6
      ∷ anchored_refusal 1 0 (pos 2000001 ∷ []) 1
      ∷ anchored_refusal 2 0 (pos 1 ∷ mark ∷ pos 0 ∷ []) 0
      ∷ anchored_refusal 1 0 (pos 1 ∷ []) 1
      ∷ anchored_refusal 1 1 (pos 0 ∷ []) 1
      ∷ anchored_refusal 1 0 (pos 0 ∷ []) 0
      ∷ anchored_refusal 1 0 (pos 0 ∷ []) 1
      ∷ []
      ≡ 6 ∷ 10 ∷ 11 ∷ 16 ∷ 12 ∷ 15 ∷ 15 ∷ 0 ∷ []
  pub back :
      back_refusal 0 0 [] 0
      ∷ back_refusal 2 0 own 6
      ∷ back_refusal 1 1 (pos 0 ∷ []) 1
      ∷ back_refusal 1 0 (pos 0 ∷ []) 0
      ∷ back_refusal 1 0 (pos 1 ∷ []) 1
      ∷ back_refusal 2 0 (pos 0 ∷ pos 0 ∷ mark ∷ []) 3
      ∷ back_refusal 1 0 (pos 0 ∷ []) 1
      ∷ []
      ≡ 6 ∷ 10 ∷ 15 ∷ 15 ∷ 15 ∷ 15 ∷ 0 ∷ []
  pub scores :
      pair_among 3 own 0 1 ∷ pair_among 3 own 1 1 ∷ pair_among 3 own 0 3 ∷ pair_among 2 own 0 1 ∷ pair_among 1 (mark ∷ []) 0 0 ∷ []
      ≡ scored_pair (pos 5) ∷ scored_pair (pos 6) ∷ scored_pair (pos 0) ∷ scored_pair (pos 0) ∷ unscored_pair ∷ []
  pub scored :
      score_refusal 0 [] 0 0
      ∷ score_refusal 2 own 0 0
      ∷ score_refusal 3 own 3 0
      ∷ score_refusal 3 own 0 3
      ∷ score_refusal 3 own 2 0
      ∷ score_refusal 0 own 0 0
      ∷ score_refusal 2 own 2 2
      ∷ []
      ≡ 6 ∷ 10 ∷ 15 ∷ 15 ∷ 0 ∷ 6 ∷ 10 ∷ []
  pub shared :
      shared_refusal (pos 0) 3 own 0 1
      ∷ shared_refusal (pos 3) 1 (pos 0 ∷ []) 0 0
      ∷ shared_refusal (pos 1) 0 [] 0 0
      ∷ shared_refusal (pos 1) 2 own 2 2
      ∷ shared_refusal (pos 2) 1 (pos 2000001 ∷ []) 1 1
      ∷ shared_refusal (pos 2) 1 (mark ∷ []) 1 1
      ∷ shared_refusal (pos 1) 1 (mark ∷ []) 0 0
      ∷ shared_refusal (pos 1) 3 own 3 0
      ∷ shared_refusal (pos 1) 3 own 0 3
      ∷ shared_refusal (pos 1) 3 own 2 2
      ∷ shared_refusal (pos 2) 3 own 2 0
      ∷ []
      ≡ 1 ∷ 1 ∷ 6 ∷ 10 ∷ 11 ∷ 16 ∷ 0 ∷ 15 ∷ 15 ∷ 0 ∷ 0 ∷ []

pub examples : Examples
unfolding own below each keep all min_z max_z eq_z least half even has members others size row_start place score pair_list one_point point_limit score_limit has_length in_range
    are_distances strong_values strong_index unfarris distances_back is_anchored kind_of index proper speaks_of listed positive sets sets_by groups_by groups groups_found first_of
    most_entries wrong_kind wrong_count wrong_distances few_slots wrong_anchor wrong_entries short_slice not_anchored numbers_checks numbers_refusal linkage_checks
    linkage_refusal anchored_checks anchored_refusal back_checks back_refusal score_checks score_refusal wrong_group_kind shared_checks shared_refusal
    sets_found indices_found is_pair score_among pair_among pair_of is_in_range is_allowed_pair scores_in_range has_unscored filled_index worst xor low high mark carried is_scored
    wrong_unscored
examples = record {
  passes = refl;
  these = refl;
  their = refl;
  many = refl;
  numbers = refl;
  linkage = refl;
  anchored = refl;
  back = refl;
  scores = refl;
  scored = refl;
  shared = refl;
}

-- the numbers call, given 7 and 6 slots, counts 3, puts the three singles, and "fills all further slots with 0"
pub numbers_example : (lent_sets sets : List ℕ) (lent_indices indices : List ℤ) (r : Answer) → length lent_sets ≡ 7 → length lent_indices ≡ 6
    → NumbersCall (pos 1) 3 own lent_sets lent_indices r sets indices
    → (r ≡ Ok 3)
    × (sets ≡ 1 ∷ 2 ∷ 4 ∷ 0 ∷ 0 ∷ 0 ∷ 0 ∷ [])
    × (indices ≡ pos 1 ∷ pos 1 ∷ pos 1 ∷ pos 0 ∷ pos 0 ∷ pos 0 ∷ [])
unfolding filled
numbers_example lent_sets sets lent_indices indices r seven six c =
    let none : numbers_refusal (pos 1) 3 own (length lent_sets) (length lent_indices) ≡ 0 =
    ap₂ (numbers_refusal (pos 1) 3 own) seven six ∙ examples.passes in (
      c.answered.is_found none ∙ ap Ok examples.many,
      c.sets_written ∙ rw (none, examples.these, seven),
      c.indices_written ∙ rw (none, examples.their, six),
    )

-- refused, it writes nothing
pub numbers_refused : (lent_sets sets : List ℕ) (lent_indices indices : List ℤ) (r : Answer)
    → NumbersCall (pos 0) 3 own lent_sets lent_indices r sets indices → (r ≡ Err WrongKind) × (sets ≡ lent_sets) × (indices ≡ lent_indices)
unfolding numbers_refusal numbers_checks first_of wrong_kind eq_z filled
numbers_refused lent_sets sets lent_indices indices r c = (refused_with WrongKind c.answered.number, c.sets_written, c.indices_written)

-- a score looked up in C: put in the slot, or nothing is written; a score below 0 is no refusal, nor is the mark
pub score_example : (lent r after : ℤ) → ScoreInC 2 (pos 0 ∷ negsuc 4 ∷ pos 0 ∷ []) 0 1 lent r after → (r ≡ pos 0) × (after ≡ negsuc 4)
unfolding row_start place score has_length first_of most_entries wrong_count wrong_anchor wrong_entries score_checks score_refusal number_for list_number carried
    pair_of mark eq_z
score_example lent r after c = (c.answered, c.written)

pub unscored_example : (lent r after : ℤ) → ScoreInC 1 (mark ∷ []) 0 0 lent r after → (r ≡ pos 0) × (after ≡ negsuc 2147483647)
unfolding row_start place score has_length first_of most_entries wrong_count wrong_anchor wrong_entries score_checks score_refusal number_for list_number carried
    pair_of mark eq_z
unscored_example lent r after c = (c.answered, c.written)

pub score_refused : (lent r after : ℤ) → ScoreInC 3 own 0 3 lent r after → (r ≡ pos 15) × (after ≡ lent)
unfolding own row_start place score has_length first_of most_entries wrong_count wrong_anchor wrong_entries score_checks score_refusal
score_refused lent r after c = (c.answered, c.written)
