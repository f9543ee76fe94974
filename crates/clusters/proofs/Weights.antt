-- Sums over the weights of a set, and over the triples of three sets: those of a division are among those of the set.
use mathlib.Core.Path.{◌≡◌, sym, ap₂, ◌∙◌, subst, subst₂}
use mathlib.Core.Bool.{not}
use mathlib.Core.List.{List, map}
use Prim.Native.Nat.{ℕ, ◌-◌, ◌*◌, ◌≤◌, ◌<◌}
use native.Mathlib.Nat.{mul-le-mul}
use native.Mathlib.Omega.{arith}
use lib.IntN.{ℤ, pos, ◌-ℤ◌}
use lib.Signed.{◌≤ℤ◌, ≤ℤ_refl}
use lib.ListN.{length, length-map}
use Rattle.lists.specs.Lists.{below, each}
use Rattle.lists.proofs.Lists.{below_lt, length_each, some_length}
use Rattle.integers.specs.Integers.{sum_of, sum}
use Rattle.integers.proofs.Least.{max_comm}
use Rattle.integers.proofs.Smallest.{Among}
use Rattle.integers.proofs.Sums.{sum_cong, sum_each, sum_map, sum_nonneg, sum_keep_le}
use Rattle.sets.specs.Sets.{has, ◌∋◌, members, others, size}
use Rattle.sets.proofs.Sets.{has_yes, no_has, ∪_left, ∪_right, in_others, size_less}
use Rattle.clusters.specs.PairList.{Similarity, Symmetric}
use Rattle.clusters.specs.Indices.{weight, pairs_of, weights}
use Rattle.clusters.specs.Stability.{triple_sum, Division}
use Rattle.clusters.proofs.Pairs.{pairs_sum, pairs_size, pairs_le}

pub weight_symm : (s : Similarity) → Symmetric s → (a b c : ℕ) → weight s a b c ≡ weight s b a c
unfolding weight
weight_symm s symm a b c = ap₂ ◌-ℤ◌ (symm a b) (max_comm (s a c) (s b c))

pub weights_sum : (n : ℕ) (s : Similarity) (A : ℕ) (φ : ℤ → ℤ)
    → sum_of (weights n s A) φ ≡ sum_of (members n A) (λ a. sum_of (members a A) (λ b. sum_of (others n A) (λ c. φ (weight s a b c))))
unfolding weights
weights_sum n s A φ =
    let row : ℕ × ℕ → ℤ = λ ab. sum_of (others n A) (λ c. φ (weight s ab.0 ab.1 c)) in
    sum_each (pairs_of n A) (λ ab. map (weight s ab.0 ab.1) (others n A)) φ
    ∙ sum_cong (pairs_of n A) _ row (λ ab _. sum_map (weight s ab.0 ab.1) (others n A) φ)
    ∙ pairs_sum n A row

-- as many weights as the clean index sums
pub weights_many : (n : ℕ) (s : Similarity) (A : ℕ) → size n A < n → size n A - 1 ≤ length (weights n s A)
unfolding weights
weights_many n s A h =
    let (x, hx, kx) = size_less n A h in
    let e = length_each (pairs_of n A) (λ ab. map (weight s ab.0 ab.1) (others n A)) (length (others n A)) (λ ab. length-map (others n A) (weight s ab.0 ab.1)) in
    let one : 1 ≤ length (others n A) = some_length (others n A) (in_others n A hx kx) in
    let all : length (pairs_of n A) ≤ length (pairs_of n A) = omega arith in
    omega (arith, mul-le-mul all one, pairs_size n A)

-- the weights of all triples uw|z, u in U, w in W, z in Z
unfoldable pub triples : ℕ → Similarity → ℕ → ℕ → ℕ → List ℤ
triples n s U W Z = each (members n U) λ u. each (members n W) λ w. map (weight s u w) (members n Z)

triples_sum : (n : ℕ) (s : Similarity) (U W Z : ℕ) (φ : ℤ → ℤ)
    → sum_of (triples n s U W Z) φ ≡ sum_of (members n U) (λ u. sum_of (members n W) (λ w. sum_of (members n Z) (λ z. φ (weight s u w z))))
unfolding triples
triples_sum n s U W Z φ =
    sum_each (members n U) (λ u. each (members n W) λ w. map (weight s u w) (members n Z)) φ
    ∙ sum_cong (members n U) _ _ λ u _. sum_each (members n W) (λ w. map (weight s u w) (members n Z)) φ
    ∙ sum_cong (members n W) _ _ λ w _. sum_map (weight s u w) (members n Z) φ

pub length_triples : (n : ℕ) (s : Similarity) (U W Z : ℕ) → length (triples n s U W Z) ≡ size n U * (size n W * size n Z)
unfolding triples size
length_triples n s U W Z =
    length_each (members n U) (λ u. each (members n W) λ w. map (weight s u w) (members n Z)) (size n W * size n Z) λ u.
    length_each (members n W) (λ w. map (weight s u w) (members n Z)) (size n Z) λ w. length-map (members n Z) (weight s u w)

pub triple_sum_sums : (n : ℕ) (s : Similarity) (U W Z : ℕ)
    → triple_sum n s U W Z ≡ sum_of (members n U) (λ u. sum_of (members n W) (λ w. sum_of (members n Z) (weight s u w)))
unfolding triple_sum sum triples
triple_sum_sums n s U W Z = triples_sum n s U W Z (λ x. x)

-- the parts of a division lie in A
pub left_inside : {n A U W Z : ℕ} → Division n A U W Z → {i : ℕ} → U ∋ i → A ∋ i
left_inside {U} {W} d {i} k = subst (λ (B : ℕ). B ∋ i) d.whole (∪_left U W k)

pub right_inside : {n A U W Z : ℕ} → Division n A U W Z → {i : ℕ} → W ∋ i → A ∋ i
right_inside {U} {W} d {i} k = subst (λ (B : ℕ). B ∋ i) d.whole (∪_right U W k)

-- the triples of a division of A are among those of A
pub division_among : (n : ℕ) (s : Similarity) → Symmetric s → (A U W Z : ℕ) → Division n A U W Z → Among (triples n s U W Z) (weights n s A)
unfolding members others
division_among n s symm A U W Z d φ nn =
    subst₂ ◌≤ℤ◌ (sym (triples_sum n s U W Z φ)) (sym (weights_sum n s A φ))
    (pairs_le U W A (λ u w. sum_of (members n Z) (v u w)) (λ a b. sum_of (others n A) (v a b))
    (λ a b. sum_nonneg (others n A) (v a b) (λ c _. nn (weight s a b c)))
    (λ a b. outer (v a b) (v a b) (λ c. ≤ℤ_refl (v a b c)) (λ c. nn (weight s a b c)))
    (λ a b. outer (v a b) (v b a) (λ c. subst (λ y. v a b c ≤ℤ φ y) (weight_symm s symm a b c) (≤ℤ_refl (v a b c))) (λ c. nn (weight s b a c)))
    n (λ i _. left_inside d) (λ i _. right_inside d) d.apart.all)
  where
    v : ℕ → ℕ → ℕ → ℤ
    v a b c = φ (weight s a b c)

    outer : (f g : ℕ → ℤ) → ((i : ℕ) → f i ≤ℤ g i) → ((i : ℕ) → pos 0 ≤ℤ g i) → sum_of (members n Z) f ≤ℤ sum_of (others n A) g
    outer f g = sum_keep_le (has Z) (λ i. not (has A i)) (below n) f g (λ i m t. no_has A i (d.outside.all i (below_lt n m) (has_yes Z i t)))
