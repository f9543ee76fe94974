-- The clean index is the least sum of the weights of |A| − 1 different triples.
use mathlib.Core.Path.{◌≡◌, refl, sym, ap, ◌∙◌}
use mathlib.Core.Logic.{◌↔◌}
use mathlib.Core.List.{List, map, map-map}
use Prim.Native.Nat.{ℕ, ◌-◌, ◌≤◌, ◌<◌}
use native.Mathlib.Omega.{arith}
use lib.Signed.{◌≤ℤ◌}
use lib.ListN.{length, length-map}
use Rattle.lists.specs.Lists.{◌∈◌, each, Distinct}
use Rattle.lists.proofs.Lists.{in_each, of_each, in_map, of_map, map_each, each_cong}
use Rattle.lists.proofs.Distinct.{distinct_pairs}
use Rattle.integers.specs.Integers.{sum_of, sum_of_smallest}
use Rattle.integers.proofs.Choices.{Choice, choice_least, choice_attained}
use Rattle.sets.specs.Sets.{others, size}
use Rattle.sets.proofs.Sets.{in_others, of_others, others_distinct}
use Rattle.clusters.specs.PairList.{Similarity}
use Rattle.clusters.specs.Indices.{pairs_of, weights, clean_index}
use Rattle.clusters.specs.Triples.{Triple, triple_weight, TripleOf, ChosenTriples}
use Rattle.clusters.proofs.Pairs.{of_pairs, in_pairs, pairs_distinct}
use Rattle.clusters.proofs.Weights.{weights_many}

triple : ℕ × ℕ → ℕ → Triple
triple (a, b) c = record { a = a; b = b; c = c }

module _ (n A : ℕ) where
  row : ℕ × ℕ → List Triple
  row ab = map (triple ab) (others n A)

  -- all triples of A
  triples : List Triple
  triples = each (pairs_of n A) row

  in_triples : (t : Triple) → (t ∈ triples) ↔ TripleOf n A t
  unfolding triples row triple
  in_triples t = (
    λ m.
        let (ab, mp, r) = of_each (pairs_of n A) row m in
        let (c, mc, e) = of_map (triple ab) (others n A) r in
        rw e (record { pair = of_pairs n A mp; outside = of_others n A mc }),
    λ o.
        let (h, l, ka, kb) = o.pair in
        let (hc, kc) = o.outside in
        in_each row (in_pairs n A h l ka kb) (in_map (triple (t.a, t.b)) (in_others n A hc kc)),
  )

  triples_distinct : Distinct triples
  unfolding triples row triple
  triples_distinct = distinct_pairs triple (λ t. (t.a, t.b)) (λ t. t.c) (λ ab c. refl) (λ ab c. refl)
      (pairs_of n A) (pairs_distinct n A) (λ ab. others n A) (λ ab. others_distinct n A)

  -- the weights of the definition are theirs
  weights_are : (s : Similarity) → weights n s A ≡ map (triple_weight s) triples
  unfolding weights triples row triple triple_weight
  weights_are s = sym (map_each (triple_weight s) (pairs_of n A) row
      ∙ each_cong (pairs_of n A) _ _ (λ ab _. map-map (triple_weight s) (triple ab) (others n A)))

  triples_many : Similarity → size n A < n → size n A - 1 ≤ length triples
  triples_many s proper = omega (arith, weights_many n s A proper, ap length (weights_are s), length-map triples (triple_weight s))

  -- |A| − 1 different triples, as the two definitions say it
  chosen_choice : (ts : List Triple) → ChosenTriples n A ts → Choice triples (size n A - 1) ts
  chosen_choice ts c = record { number = c.number; different = c.different; inside = λ t m. (in_triples t).1 (c.of_A t m) }

  choice_chosen : (ts : List Triple) → Choice triples (size n A - 1) ts → ChosenTriples n A ts
  choice_chosen ts c = record { number = c.number; different = c.different; of_A = λ t m. (in_triples t).0 (c.inside t m) }

-- "the sum of the |A| − 1 smallest weights": no |A| − 1 different triples have a smaller sum, and some have this one
pub clean_least : (n : ℕ) (s : Similarity) (A : ℕ) (ts : List Triple) → ChosenTriples n A ts → clean_index n s A ≤ℤ sum_of ts (triple_weight s)
unfolding clean_index
clean_least n s A ts c = rw (weights_are n A s) (choice_least (triple_weight s) (chosen_choice n A ts c))

pub clean_attained : (n : ℕ) (s : Similarity) (A : ℕ) → size n A < n
    → (ts : List Triple) × ChosenTriples n A ts × (clean_index n s A ≡ sum_of ts (triple_weight s))
unfolding clean_index
clean_attained n s A proper =
    let (ts, c, e) = choice_attained (triple_weight s) (triples n A) (triples_distinct n A) (size n A - 1) (triples_many n A s proper) in
    (ts, choice_chosen n A ts c, ap (sum_of_smallest (size n A - 1)) (weights_are n A s) ∙ e)
