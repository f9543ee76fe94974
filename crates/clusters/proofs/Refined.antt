-- The refined weight of a split: the least sum of n − 3 different quartets; from either side; under a reordering; beside the separation index;
-- the bounds of its scores.
use mathlib.Core.Path.{◌≡◌, sym, ap, ap₂, ◌∙◌}
use mathlib.Core.List.{List, map}
use Prim.Native.Nat.{ℕ, ◌+◌, ◌-◌, ◌*◌, ◌≤◌, ◌<◌}
use native.Mathlib.Omega.{arith}
use lib.IntN.{ℤ, pos, ◌+ℤ◌, ◌-ℤ◌, ◌*ℤ◌}
use lib.Signed.{◌≤ℤ◌}
use lib.Dec.{T}
use lib.ListN.{length-map}
use Rattle.lists.proofs.Lists.{of_map}
use Rattle.integers.specs.Integers.{min_z, sum_of}
use Rattle.integers.specs.Range.{Within, Bounded}
use Rattle.integers.proofs.Linear.{up, dn, zarith, +at, -at, *at, mul_mono}
use Rattle.integers.proofs.Range.{within_grow, within_equal, within_sum, within_difference, within_min}
use Rattle.integers.proofs.Running.{min_above}
use Rattle.integers.proofs.Sums.{sum_cong, sum_swap}
use Rattle.integers.proofs.Smallest.{smallest_same, smallest_ge}
use Rattle.integers.proofs.Choices.{Choice, choice_least, choice_attained}
use Rattle.sets.specs.Sets.{size, complement}
use Rattle.clusters.specs.PairList.{Similarity, Symmetric}
use Rattle.clusters.specs.Indices.{pairs_of, separation_index}
use Rattle.clusters.specs.Groups.{splits, index, listed}
use Rattle.clusters.specs.Reordering.{Permutation, Reordered, image}
use Rattle.clusters.specs.Refined.{Quartet, quartet, quartets, doubled_score, refined_weight, Across, Chosen}
use Rattle.clusters.proofs.Groups.{listed_index}
use Rattle.clusters.proofs.Pairs.{pairs_sum, pairs_back}
use Rattle.clusters.proofs.Reindex.{Image, complement_image, reindex_pairs}
use Rattle.clusters.proofs.Reordering.{image_has}
use Rattle.clusters.proofs.Strong.{separation_least}
use Rattle.clusters.proofs.Quartets.{
  score_left,
  score_right,
  score_sides,
  split_sum,
  in_quartets,
  quartets_distinct,
  quartets_many,
}

-- n − 3 different quartets of the split, as the two definitions say it
chosen_choice : (n A : ℕ) (qs : List Quartet) → Chosen n A qs → Choice (quartets n A) (n - 3) qs
chosen_choice n A qs c = record { number = c.number; different = c.different; inside = λ q m. (in_quartets n A q).1 (c.across q m) }

choice_chosen : (n A : ℕ) (qs : List Quartet) → Choice (quartets n A) (n - 3) qs → Chosen n A qs
choice_chosen n A qs c = record { number = c.number; different = c.different; across = λ q m. (in_quartets n A q).0 (c.inside q m) }

-- "the sum of the n − 3 smallest": no n − 3 different quartets have a smaller sum, and some have this
pub refined_least : (n : ℕ) (d : Similarity) (A : ℕ) (qs : List Quartet) → Chosen n A qs → refined_weight n d A ≤ℤ sum_of qs (doubled_score d)
unfolding refined_weight
refined_least n d A qs c = choice_least (doubled_score d) (chosen_choice n A qs c)

pub refined_attained : (n : ℕ) (d : Similarity) (A : ℕ) → 2 ≤ size n A → size n A + 2 ≤ n
    → (qs : List Quartet) × Chosen n A qs × (refined_weight n d A ≡ sum_of qs (doubled_score d))
unfolding refined_weight
refined_attained n d A two rest =
    let (qs, c, e) = choice_attained (doubled_score d) (quartets n A) (quartets_distinct n A) (n - 3) (quartets_many n A two rest) in
    (qs, choice_chosen n A qs c, e)

-- two splits with the same sums have the same weight
same_weight : (n : ℕ) (d e : Similarity) (A B : ℕ)
    → ((φ : ℤ → ℤ) → sum_of (map (doubled_score d) (quartets n A)) φ ≡ sum_of (map (doubled_score e) (quartets n B)) φ) → refined_weight n d A ≡ refined_weight n e B
unfolding refined_weight
same_weight n d e A B same = smallest_same (map (doubled_score d) (quartets n A)) (map (doubled_score e) (quartets n B)) same (n - 3)

-- "A|B and B|A are one split"
pub refined_either_side : (n : ℕ) (d : Similarity) → Symmetric d → (A : ℕ) → refined_weight n d (complement n A) ≡ refined_weight n d A
refined_either_side n d symm A = same_weight n d d B A λ φ.
    split_sum n B d φ
    ∙ ap (λ l. sum_of (pairs_of n B) (λ bb. sum_of l (v φ bb))) (pairs_back n A)
    ∙ sum_swap (pairs_of n B) (pairs_of n A) (v φ)
    ∙ sum_cong (pairs_of n A) _ _ (λ aa _. sum_cong (pairs_of n B) _ _ (λ bb _. ap φ (score_sides d symm bb.0 bb.1 aa.0 aa.1)))
    ∙ sym (split_sum n A d φ)
  where
    B : ℕ
    B = complement n A

    v : (ℤ → ℤ) → ℕ × ℕ → ℕ × ℕ → ℤ
    v φ aa bb = φ (doubled_score d (quartet aa bb))

-- a symmetric sum over the pairs of a set, and of its image
pairs_image : (n : ℕ) (p : Permutation n) (A B : ℕ) → Image n p A B → (f g : ℕ × ℕ → ℤ) → ((a b : ℕ) → a < n → b < n → g (p.to a, p.to b) ≡ f (a, b))
    → ((a b : ℕ) → f (a, b) ≡ f (b, a)) → ((a b : ℕ) → g (a, b) ≡ g (b, a)) → sum_of (pairs_of n B) g ≡ sum_of (pairs_of n A) f
pairs_image n p A B im f g moved f-symm g-symm =
    pairs_sum n B g ∙ reindex_pairs n p A B im (λ a b. f (a, b)) (λ a b. g (a, b)) moved f-symm g-symm ∙ sym (pairs_sum n A f)

module _ (n : ℕ) (p : Permutation n) (old new : Similarity) (r : Reordered n p old new) where
  score_image : (a a' b b' : ℕ) → a < n → a' < n → b < n → b' < n
      → doubled_score new (quartet (p.to a, p.to a') (p.to b, p.to b')) ≡ doubled_score old (quartet (a, a') (b, b'))
  unfolding quartet doubled_score
  score_image a a' b b' h h' k k' = ap₂ ◌-ℤ◌
      (ap₂ min_z (ap₂ ◌+ℤ◌ (r.same a b h k) (r.same a' b' h' k')) (ap₂ ◌+ℤ◌ (r.same a b' h k') (r.same a' b h' k)))
      (ap₂ ◌+ℤ◌ (r.same a a' h h') (r.same b b' k k'))

  -- a reordering keeps the weight
  pub refined_image : Symmetric old → Symmetric new → (A : ℕ) → refined_weight n new (image n p A) ≡ refined_weight n old A
  refined_image old-symm new-symm A = same_weight n new old A' A λ φ.
      split_sum n A' new φ
      ∙ pairs_image n p A A' (image_has n p A) (before φ) (after φ) (moved φ)
      (λ a a'. sum_cong (pairs_of n B) _ _ (λ bb _. ap φ (score_left old old-symm a a' bb.0 bb.1)))
      (λ a a'. sum_cong (pairs_of n B') _ _ (λ bb _. ap φ (score_left new new-symm a a' bb.0 bb.1)))
      ∙ sym (split_sum n A old φ)
    where
      A' : ℕ
      A' = image n p A

      B : ℕ
      B = complement n A

      B' : ℕ
      B' = complement n A'

      before : (ℤ → ℤ) → ℕ × ℕ → ℤ
      before φ aa = sum_of (pairs_of n B) λ bb. φ (doubled_score old (quartet aa bb))

      after : (ℤ → ℤ) → ℕ × ℕ → ℤ
      after φ aa = sum_of (pairs_of n B') λ bb. φ (doubled_score new (quartet aa bb))

      moved : (φ : ℤ → ℤ) (a a' : ℕ) → a < n → a' < n → after φ (p.to a, p.to a') ≡ before φ (a, a')
      moved φ a a' h h' = pairs_image n p B B' (complement_image n p A A' (image_has n p A))
          (λ bb. φ (doubled_score old (quartet (a, a') bb))) (λ bb. φ (doubled_score new (quartet (p.to a, p.to a') bb)))
          (λ b b' k k'. ap φ (score_image a a' b b' h h' k k'))
          (λ b b'. ap φ (score_right old old-symm a a' b b')) (λ b b'. ap φ (score_right new new-symm (p.to a) (p.to a') b b'))

-- both sums of a quartet's score are those of values of the separation index
score_ge : (n : ℕ) (d : Similarity) → Symmetric d → (A : ℕ) {q : Quartet} → Across n A q → separation_index n d A ≤ℤ doubled_score d q
unfolding doubled_score
score_ge n d symm A {q} c =
    let (ha, la, ka, ka') = c.one_side in
    let (hb, lb, kb, kb') = c.other_side in
    let ha' : q.a' < n = omega arith in
    let hb' : q.b' < n = omega arith in
    end (d q.a q.b +ℤ d q.a' q.b') (d q.a q.b' +ℤ d q.a' q.b) (d q.a q.a') (d q.b q.b') (d q.b' q.b)
    (separation_index n d A) (symm q.b q.b')
    (separation_least n d A ha ha' hb hb' ka ka' kb kb')
    (separation_least n d A ha ha' hb' hb ka ka' kb' kb)
  where
    end : (u v x y y' i : ℤ) → y ≡ y' → i ≤ℤ (u -ℤ x -ℤ y) → i ≤ℤ (v -ℤ x -ℤ y') → i ≤ℤ (min_z u v -ℤ (x +ℤ y))
    end u v x y y' i f h k =
        let j = i +ℤ (x +ℤ y) in
        let above_u : j ≤ℤ u = omega (zarith, -at u x, -at (u -ℤ x) y, +at x y, +at i (x +ℤ y)) in
        let above_v : j ≤ℤ v = omega (zarith, -at v x, -at (v -ℤ x) y', +at x y, +at i (x +ℤ y)) in
        omega (zarith, min_above above_u above_v, +at i (x +ℤ y), -at (min_z u v) (x +ℤ y))

-- a split with two entries or more on each side
module _ (n : ℕ) (d : Similarity) (A : ℕ) (two : 2 ≤ size n A) (rest : size n A + 2 ≤ n) where
  pub refined_ge : Symmetric d → (pos (n - 3) *ℤ separation_index n d A) ≤ℤ refined_weight n d A
  unfolding refined_weight
  refined_ge symm = smallest_ge (n - 3) (map (doubled_score d) (quartets n A)) (separation_index n d A)
      (rw length-map (quartets_many n A two rest))
      (λ z m. let (q, h, e) = of_map (doubled_score d) (quartets n A) m in rw e (score_ge n d symm A ((in_quartets n A q).0 h)))

  -- "a kind 3 line with two or more on each side has positive weight"
  pub split_refined : Symmetric d → T (listed splits n d A) → pos 1 ≤ℤ refined_weight n d A
  unfolding index up dn
  split_refined symm t =
      let h : pos 1 ≤ℤ separation_index n d A = listed_index splits n d A t in
      omega (zarith, refined_ge symm, mul_mono (n - 3) h, *at (pos (n - 3)) (pos 1))

-- of distances between −k and k
module _ {k : ℕ} (d : Similarity) (b : (x y : ℕ) → Within k (d x y)) (n A : ℕ) where
  pub quartets_within : Bounded (4 * k) (map (doubled_score d) (quartets n A))
  unfolding doubled_score
  quartets_within z m =
      let (q, _, e) = of_map (doubled_score d) (quartets n A) m in
      within_grow (omega arith) (within_equal e (within_difference
      (within_min (within_sum (b q.a q.b) (b q.a' q.b')) (within_sum (b q.a q.b') (b q.a' q.b)))
      (within_sum (b q.a q.a') (b q.b q.b'))))
