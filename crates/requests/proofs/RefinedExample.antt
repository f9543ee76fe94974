-- Examples of the refined weight of a split, by computing: the four copies of document 01, whose one quartet has the weight, and the five entries of
-- `metric`.
use mathlib.Core.Path.{◌≡◌, ap, ◌∙◌, refl}
use mathlib.Core.List.{List, [], ◌∷◌}
use Prim.Native.Nat.{ℕ}
use lib.IntN.{ℤ, pos, neg_ℤ}
use lib.ListN.{get_or}
use Rattle.lists.specs.Lists.{below, each, keep, all}
use Rattle.integers.specs.Integers.{min_z, eq_z, sum_of, sum, insert, sort, sum_of_smallest}
use Rattle.sets.specs.Sets.{has, members, size, mask, complement}
use Rattle.pairs.specs.Pairs.{mark, carried, is_scored}
use Rattle.clusters.specs.PairList.{
  row_start,
  place,
  score,
  one_point,
  point_limit,
  score_limit,
  has_length,
  is_in_range,
  is_allowed_pair,
  scores_in_range,
  has_unscored,
  are_distances,
}
use Rattle.clusters.specs.Indices.{pairs_of}
use Rattle.clusters.specs.Refined.{quartet, quartets, doubled_score, refined_weight}
use Rattle.clusters.specs.Bench.{copies, metric}
use Rattle.std.specs.Prelude.{Ok, Err}
use Rattle.answers.specs.declared.Refusal.TheVariants.{WrongSide, WrongListLength}
use Rattle.answers.specs.Answers.{number_of}
use Rattle.answers.specs.Refined.{Refined, answered_weight}
use Rattle.answers.proofs.Answers.{the_answer, is_answer}
use Rattle.interface.specs.Refusals.{first_of, most_entries, wrong_count, wrong_distances, wrong_side, refined_checks, refined_refusal}
use Rattle.interface.specs.Calls.{RefinedInC}

abbrev outcome : ℕ → List ℤ → ℕ → Refined
outcome n l A = the_answer (refined_refusal n l A) (refined_weight n (score l) A)

-- one split from either side, one that crosses it, a side of one entry, the other side of one entry, a fifth entry; and a weight of 0
pub record WeightExamples : Type 0 where
  pub four_copies :
      outcome 4 copies 12 ∷ outcome 4 copies 3 ∷ outcome 4 copies 6 ∷ outcome 4 copies 8 ∷ outcome 4 copies 7 ∷ outcome 4 copies 20 ∷ []
      ≡ Ok (pos 4) ∷ Ok (pos 4) ∷ Ok (neg_ℤ (pos 4)) ∷ Err WrongSide ∷ Err WrongSide ∷ Err WrongSide ∷ []
  pub five_entries :
      outcome 5 metric 24 ∷ outcome 5 metric 28 ∷ outcome 4 metric 12 ∷ []
      ≡ Ok (pos 1) ∷ Ok (pos 0) ∷ Err WrongListLength ∷ []

pub weight_examples : WeightExamples
unfolding copies metric below each keep all min_z eq_z sum_of sum insert sort sum_of_smallest has members size mask complement row_start place score
    one_point point_limit score_limit has_length is_in_range is_allowed_pair scores_in_range has_unscored are_distances mark carried is_scored pairs_of quartet quartets doubled_score
    refined_weight first_of most_entries wrong_count wrong_distances wrong_side refined_checks refined_refusal the_answer
weight_examples = record { four_copies = refl; five_entries = refl }

-- in C: 0 and the weight, which may be negative; the refusal's number and 0
module _ {n A : ℕ} {l : List ℤ} {r w : ℤ} (given : Refined) (is : outcome n l A ≡ given) (c : RefinedInC n l A r w) where
  in_C : (r ≡ pos (number_of given)) × (w ≡ answered_weight given)
  in_C =
      let e = is_answer c.outcome.answered ∙ is in
      (c.answered ∙ ap (λ (s : Refined). pos (number_of s)) e, c.written ∙ ap answered_weight e)

pub weight_in_C : {r w : ℤ} → RefinedInC 4 copies 12 r w → (r ≡ pos 0) × (w ≡ pos 4)
unfolding answered_weight
weight_in_C c = in_C (Ok (pos 4)) (ap (λ l. get_or l 0 (Err WrongSide)) weight_examples.four_copies) c

pub negative_in_C : {r w : ℤ} → RefinedInC 4 copies 6 r w → (r ≡ pos 0) × (w ≡ neg_ℤ (pos 4))
unfolding answered_weight
negative_in_C c = in_C (Ok (neg_ℤ (pos 4))) (ap (λ l. get_or l 2 (Err WrongSide)) weight_examples.four_copies) c

pub refused_in_C : {r w : ℤ} → RefinedInC 4 copies 7 r w → (r ≡ pos 19) × (w ≡ pos 0)
unfolding answered_weight
refused_in_C c = in_C (Err WrongSide) (ap (λ l. get_or l 4 (Err WrongSide)) weight_examples.four_copies) c
