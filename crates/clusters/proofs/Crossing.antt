-- Two splits of positive refined weight never cross (004, section 5.1).
use mathlib.Core.Path.{◌≡◌, sym, ap₂, ◌∙◌, subst, subst₂}
use mathlib.Core.Logic.{◌⊎◌, inl, inr}
use mathlib.Core.List.{List, map}
use Prim.Native.Nat.{ℕ, ◌+◌, ◌-◌, ◌*◌, ◌≤◌}
use native.Mathlib.Omega.{arith}
use lib.IntN.{ℤ, pos, ◌+ℤ◌}
use lib.Signed.{◌≤ℤ◌, ◌<ℤ◌, ≤ℤ_refl}
use lib.ListN.{length, length-map}
use Rattle.lists.specs.Lists.{each}
use Rattle.lists.proofs.Lists.{length_each}
use Rattle.integers.specs.Integers.{sum_of, sum}
use Rattle.integers.proofs.Linear.{up, dn, zarith, +at}
use Rattle.integers.proofs.Sums.{sum_cong, sum_each, sum_map, sum_swap, sum_nonneg, sums_opposed}
use Rattle.integers.proofs.Smallest.{Among, among_positive}
use Rattle.sets.specs.Sets.{members, size, complement, Disjoint}
use Rattle.sets.proofs.Sets.{size_complement}
use Rattle.sets.proofs.Parts.{common, common_comm, common_or_none, disjoint_within, disjoint_complement, Parts, parts_size, divided}
use Rattle.clusters.specs.PairList.{Similarity, Symmetric}
use Rattle.clusters.specs.Indices.{pairs_of}
use Rattle.clusters.specs.Refined.{quartet, quartets, doubled_score, refined_weight, Compatible}
use Rattle.clusters.proofs.Pairs.{pairs_sum, pairs_le}
use Rattle.clusters.proofs.Quartets.{score_left, score_right, scores_opposed, quartets_of, length_quartets, scores_sum, product_ge, split_sum}

-- the pairs of an entry of P and one of Q
pairs_across : (n P Q : ℕ) → List (ℕ × ℕ)
pairs_across n P Q = each (members n P) λ p. map (λ q. (p, q)) (members n Q)

module _ (n P Q : ℕ) where
  across_sum : (f : ℕ × ℕ → ℤ) → sum_of (pairs_across n P Q) f ≡ sum_of (members n P) (λ p. sum_of (members n Q) (λ q. f (p, q)))
  unfolding pairs_across
  across_sum f =
      sum_each (members n P) (λ p. map (λ q. (p, q)) (members n Q)) f ∙ sum_cong (members n P) _ _ (λ p _. sum_map (λ q. (p, q)) (members n Q) f)

  length_across : length (pairs_across n P Q) ≡ size n P * size n Q
  unfolding pairs_across size
  length_across = length_each (members n P) (λ p. map (λ q. (p, q)) (members n Q)) (size n Q) (λ p. length-map {B = ℕ × ℕ} (members n Q) (λ q. (p, q)))

-- of two parts of A these are among the pairs of A, in one order or the other
across_le : {n A P Q : ℕ} → Parts n A P Q → (f g : ℕ × ℕ → ℤ) → ((a b : ℕ) → pos 0 ≤ℤ g (a, b))
    → ((a b : ℕ) → f (a, b) ≤ℤ g (a, b)) → ((a b : ℕ) → f (a, b) ≤ℤ g (b, a)) → sum_of (pairs_across n P Q) f ≤ℤ sum_of (pairs_of n A) g
across_le {n} {A} {P} {Q} u f g nn fg gf =
    subst₂ ◌≤ℤ◌ (sym (across_sum n P Q f)) (sym (pairs_sum n A g))
    (pairs_le P Q A (λ a b. f (a, b)) (λ a b. g (a, b)) nn fg gf n u.left.all u.right.all u.apart.all)

-- P and Q are parts of A, Y and Z of its other side, and none of the four is empty
record Quarters (n A P Q Y Z : ℕ) : Type 0 where
  one_side : Parts n A P Q
  other_side : Parts n (complement n A) Y Z
  some_p : 1 ≤ size n P
  some_q : 1 ≤ size n Q
  some_y : 1 ≤ size n Y
  some_z : 1 ≤ size n Z

-- the sum of the scores of the quartets pq|yz, p in P, q in Q, y in Y, z in Z
sums : (n : ℕ) → Similarity → (P Q Y Z : ℕ) → ℤ
sums n d P Q Y Z =
    sum_of (members n P) λ p. sum_of (members n Q) λ q. sum_of (members n Y) λ y. sum_of (members n Z) λ z. doubled_score d (quartet (p, q) (y, z))

module _ (n : ℕ) (d : Similarity) (symm : Symmetric d) {A P Q Y Z : ℕ} (u : Quarters n A P Q Y Z) where
  scores : List ℤ
  scores = map (doubled_score d) (quartets_of (pairs_across n P Q) (pairs_across n Y Z))

  scores_are : sum scores ≡ sums n d P Q Y Z
  unfolding scores sum sums
  scores_are =
      scores_sum (pairs_across n P Q) (pairs_across n Y Z) d (λ x. x)
      ∙ across_sum n P Q _
      ∙ sum_cong (members n P) _ _ (λ p _. sum_cong (members n Q) _ _ (λ q _. across_sum n Y Z (λ yz. doubled_score d (quartet (p, q) yz))))

  -- their scores are among those of the split
  scores_among : Among scores (map (doubled_score d) (quartets n A))
  unfolding scores
  scores_among φ nn =
      subst₂ ◌≤ℤ◌ (sym (scores_sum (pairs_across n P Q) (pairs_across n Y Z) d φ)) (sym (split_sum n A d φ))
      (across_le u.one_side (λ pq. sum_of (pairs_across n Y Z) (v pq)) (λ aa. sum_of (pairs_of n B) (v aa))
      (λ a a'. sum_nonneg (pairs_of n B) (v (a, a')) (λ bb _. nn (doubled_score d (quartet (a, a') bb))))
      (λ a a'. inner (a, a') (a, a') (λ b b'. ≤ℤ_refl (v (a, a') (b, b'))))
      (λ a a'. inner (a, a') (a', a) (λ b b'. subst (λ x. v (a, a') (b, b') ≤ℤ φ x) (score_left d symm a a' b b') (≤ℤ_refl (v (a, a') (b, b'))))))
    where
      B : ℕ
      B = complement n A

      v : ℕ × ℕ → ℕ × ℕ → ℤ
      v aa bb = φ (doubled_score d (quartet aa bb))

      inner : (aa cc : ℕ × ℕ) → ((b b' : ℕ) → v aa (b, b') ≤ℤ v cc (b, b')) → sum_of (pairs_across n Y Z) (v aa) ≤ℤ sum_of (pairs_of n B) (v cc)
      inner aa cc le = across_le u.other_side (v aa) (v cc) (λ b b'. nn (doubled_score d (quartet cc (b, b')))) le
          (λ b b'. subst (λ x. v aa (b, b') ≤ℤ φ x) (score_right d symm cc.0 cc.1 b b') (le b b'))

  all_entries_lem : size n P + size n Q + (size n Y + size n Z) ≡ n
  all_entries_lem = omega (arith, parts_size u.one_side, parts_size u.other_side, size_complement n A)

  -- and n − 3 or more
  scores_many : n - 3 ≤ length scores
  unfolding scores
  scores_many =
      let a = product_ge (size n P) (size n Q) u.some_p u.some_q in
      let b = product_ge (size n Y) (size n Z) u.some_y u.some_z in
      let c = product_ge (size n P * size n Q) (size n Y * size n Z) (omega arith) (omega arith) in
      let e = ap₂ ◌*◌ (length_across n P Q) (length_across n Y Z) in
      let l = pairs_across n P Q in
      let m = pairs_across n Y Z in
      omega (arith, all_entries_lem, length-map (quartets_of l m) (doubled_score d), length_quartets l m)

  -- so their sum is above 0 where the weight is
  sums_positive : pos 1 ≤ℤ refined_weight n d A → pos 0 <ℤ sums n d P Q Y Z
  unfolding refined_weight
  sums_positive h = subst (λ x. pos 0 <ℤ x) scores_are
      (among_positive (n - 3) (map (doubled_score d) (quartets n A)) scores scores_among (omega (arith, all_entries_lem)) scores_many h)

-- the sums of pq|yz and of py|qz are not both above 0
opposed : (n : ℕ) (d : Similarity) (P Q Y Z : ℕ) → (sums n d P Q Y Z +ℤ sums n d P Y Q Z) ≤ℤ pos 0
unfolding sums
opposed n d P Q Y Z =
    sums_opposed (members n P) _ _ λ p.
    subst (λ x. (sum_of (members n Q) (λ q. sum_of (members n Y) (λ y. sum_of (members n Z) (v p q y))) +ℤ x) ≤ℤ pos 0)
    (sum_swap (members n Q) (members n Y) (λ q y. sum_of (members n Z) (v p y q)))
    (sums_opposed (members n Q) _ _ λ q. sums_opposed (members n Y) _ _ λ y. sums_opposed (members n Z) _ _ λ z. scores_opposed d p q y z)
  where
    v : ℕ → ℕ → ℕ → ℕ → ℤ
    v p q y z = doubled_score d (quartet (p, q) (y, z))

-- A and C have an entry in common
abbrev Meet : ℕ → ℕ → ℕ → Type 0
Meet n A C = 1 ≤ size n (common n A C)

-- the splits of A and C cross: each side of one meets each side of the other
record Crosses (n A C : ℕ) : Type 0 where
  both : Meet n A C
  first : Meet n A (complement n C)
  second : Meet n (complement n A) C
  neither : Meet n (complement n A) (complement n C)

cross_or_not : (n A C : ℕ) → Crosses n A C ⊎ Compatible n A C
cross_or_not n A C = go (common_or_none n A C) (common_or_none n A D) (common_or_none n B C) (common_or_none n B D)
  where
    B : ℕ
    B = complement n A

    D : ℕ
    D = complement n C

    go : Meet n A C ⊎ Disjoint n A C → Meet n A D ⊎ Disjoint n A D → Meet n B C ⊎ Disjoint n B C → Meet n B D ⊎ Disjoint n B D
        → Crosses n A C ⊎ Compatible n A C
    go (inr k) _ _ _ = inr (inl (inr (disjoint_within n k)))
    go (inl _) (inr k) _ _ = inr (inl (inl (disjoint_complement n k)))
    go (inl _) (inl _) (inr k) _ = inr (inr (inr (disjoint_within n k)))
    go (inl _) (inl _) (inl _) (inr k) = inr (inr (inl (disjoint_complement n k)))
    go (inl p) (inl q) (inl y) (inl z) = inl (record { both = p; first = q; second = y; neither = z })

-- then the four are quarters of either split
module _ (n A C : ℕ) (c : Crosses n A C) where
  quarters : Quarters n A (common n A C) (common n A (complement n C)) (common n (complement n A) C) (common n (complement n A) (complement n C))
  quarters = record {
    one_side = divided n A C;
    other_side = divided n (complement n A) C;
    some_p = c.both;
    some_q = c.first;
    some_y = c.second;
    some_z = c.neither;
  }

  quarters_swapped : Quarters n C (common n A C) (common n (complement n A) C) (common n A (complement n C)) (common n (complement n A) (complement n C))
  quarters_swapped = record {
    one_side = subst₂ (Parts n C) (common_comm n C A) (common_comm n C (complement n A)) (divided n C A);
    other_side = subst₂ (Parts n (complement n C)) (common_comm n (complement n C) A) (common_comm n (complement n C) (complement n A))
        (divided n (complement n C) A);
    some_p = c.both;
    some_q = c.second;
    some_y = c.first;
    some_z = c.neither;
  }

-- "Two splits of positive weight never cross", whatever the sizes of their sides
pub refined_never_cross : (n : ℕ) (d : Similarity) → Symmetric d → (A C : ℕ) → pos 1 ≤ℤ refined_weight n d A → pos 1 ≤ℤ refined_weight n d C → Compatible n A C
unfolding up dn
refined_never_cross n d symm A C ha hc = go (cross_or_not n A C)
  where
    end : (x y : ℤ) → pos 0 <ℤ x → pos 0 <ℤ y → (x +ℤ y) ≤ℤ pos 0 → ⊥
    end x y h k l = omega (zarith, +at x y)

    go : Crosses n A C ⊎ Compatible n A C → Compatible n A C
    go (inl c) = absurd (end _ _ (sums_positive n d symm (quarters n A C c) ha) (sums_positive n d symm (quarters_swapped n A C c) hc) (opposed n d _ _ _ _))
    go (inr k) = k
