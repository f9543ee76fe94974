-- Pooled scores, for any number of entries (document 02, 2.4): what a pair of the pool carries, a set strong in both, and the pool the
-- other way round.
use mathlib.Core.Path.{◌≡◌, refl, sym, ap, ap₂, ◌∙◌, subst, subst₂}
use mathlib.Core.Logic.{◌⊎◌, inl, inr}
use Prim.Native.Nat.{ℕ, ◌≤◌, ◌<◌}
use lib.IntN.{ℤ, ◌+ℤ◌, ◌-ℤ◌, +ℤ_comm}
use lib.Signed.{◌≤ℤ◌}
use lib.Dec.{T}
use Rattle.integers.specs.Integers.{eq_z}
use Rattle.integers.specs.Range.{Within}
use Rattle.integers.proofs.Linear.{up, dn, zarith, +at, -at}
use Rattle.integers.proofs.Range.{within_sum, dn_le}
use Rattle.sets.specs.Sets.{◌∋◌, size}
use Rattle.pairs.specs.declared.Carried.{Carried}
use Rattle.pairs.specs.declared.Carried.TheVariants.{Scored, Unscored}
use Rattle.pairs.specs.Pairs.{mark, number_for, carried, is_scored}
use Rattle.pairs.proofs.Pairs.{Cases, carried_cases, scored_is, is_scored_lem}
use Rattle.clusters.specs.PairList.{Similarity, Symmetric, one_point, point_limit, score_limit, is_allowed_pair}
use Rattle.clusters.specs.Indices.{strong_index}
use Rattle.clusters.specs.Touched.{untouched}
use Rattle.clusters.specs.Groups.{strong, index, listed}
use Rattle.clusters.specs.Reordering.{Permutation, Reordered, image}
use Rattle.clusters.specs.Pooling.{added, pooled}
use Rattle.clusters.proofs.Strong.{strong_least, strong_attained}
use Rattle.clusters.proofs.Groups.{least_size, speaks_size, of_listed, is_listed, listed_index}
use Rattle.clusters.proofs.Reordering.{strong_image}
use Rattle.clusters.proofs.Images.{in_image}
use Rattle.clusters.proofs.Scored.{AllAllowed, allowed_within}
use Rattle.clusters.proofs.Untouched.{of_untouched, in_untouched, untouched_index}
use Rattle.clusters.proofs.Unscored.{listed_untouched}

-- "each score is the sum. A pair unscored in either is unscored in the pool."
pub both_scored : (y z : ℤ) → added (Scored y) (Scored z) ≡ Scored (y +ℤ z)
unfolding added
both_scored y z = refl

pub either_unscored : (c d : Carried) → (c ≡ Unscored) ⊎ (d ≡ Unscored) → added c d ≡ Unscored
unfolding added
either_unscored c d (inl e) = ap (λ b. added b d) e
either_unscored (Scored y) d (inr e) = ap (added (Scored y)) e
either_unscored Unscored d (inr e) = refl

-- the sum of two scores in range is not the mark: the one law that knows both numbers
sum_scored : {y z : ℤ} → Within score_limit y → Within score_limit z → carried (y +ℤ z) ≡ Scored (y +ℤ z)
unfolding score_limit one_point point_limit mark up dn
sum_scored {y} {z} h k = go (carried_cases (y +ℤ z))
  where
    go : Cases (y +ℤ z) → carried (y +ℤ z) ≡ Scored (y +ℤ z)
    go (inl e) = e
    go (inr (m, _)) = absurd (omega (zarith, dn_le (within_sum h k), ap dn m))

-- the pair that the number of a pool's pair stands for
pub added_carried : (c d : Carried) → T (is_allowed_pair score_limit c) → T (is_allowed_pair score_limit d) → carried (number_for (added c d)) ≡ added c d
unfolding added number_for carried eq_z mark
added_carried (Scored y) (Scored z) h k = sum_scored (allowed_within h) (allowed_within k)
added_carried (Scored y) Unscored h k = refl
added_carried Unscored d h k = refl

pub added_comm : (c d : Carried) → added c d ≡ added d c
unfolding added
added_comm (Scored y) (Scored z) = ap Scored (+ℤ_comm y z)
added_comm (Scored y) Unscored = refl
added_comm Unscored (Scored z) = refl
added_comm Unscored Unscored = refl

pub pooled_symmetric : (q : ℕ → ℕ) (s t : Similarity) → Symmetric s → Symmetric t → Symmetric (pooled q s t)
unfolding pooled
pooled_symmetric q s t f g i j = ap₂ (λ y z. number_for (added (carried y) (carried z))) (f i j) (g (q i) (q j))

-- the pool the other way round is the pool in the second's order
pub pooled_turned : (n : ℕ) (p : Permutation n) (s t : Similarity) → Reordered n p (pooled p.to s t) (pooled p.from t s)
unfolding pooled
pooled_turned n p s t = record {
  same = λ i j h k.
      let c = carried (t (p.to i) (p.to j)) in
      ap number_for (ap₂ (λ (i j : ℕ). added c (carried (s i j))) (p.from_to i h) (p.from_to j k) ∙ added_comm c (carried (s i j)));
}

-- u adds up s and t in the rows of the entries in A: each of its values there is the sum of two values, and each of these is at least its
-- least
pub strong_sum : (n : ℕ) (s t u : Similarity) (A : ℕ) → ((i j : ℕ) → i < n → j < n → A ∋ i → u i j ≡ s i j +ℤ t i j) → 1 ≤ size n A → size n A < n
    → (strong_index n s A +ℤ strong_index n t A) ≤ℤ strong_index n u A
strong_sum n s t u A sum some proper =
    let (a, b, x, ha, hb, hx, ka, kb, kx, e) = strong_attained n u A some proper in
    add (s a b) (s a x) (t a b) (t a x) _ _ _ (strong_least n s A ha hb hx ka kb kx) (strong_least n t A ha hb hx ka kb kx)
    (e ∙ ap₂ ◌-ℤ◌ (sum a b ha hb ka) (sum a x ha hx ka))
  where
    add : (p q u v l m z : ℤ) → l ≤ℤ (p -ℤ q) → m ≤ℤ (u -ℤ v) → z ≡ (p +ℤ u) -ℤ (q +ℤ v) → (l +ℤ m) ≤ℤ z
    add p q u v l m z h k e = omega (zarith, -at p q, -at u v, +at p u, +at q v, -at (p +ℤ u) (q +ℤ v), +at l m)

-- "a set of names strong in both": no unscored pair touches it in either, so its rows in the pool are the sums
module _ (n : ℕ) (p : Permutation n) (s t : Similarity) (allowed : AllAllowed score_limit n s) (allowed' : AllAllowed score_limit n t)
    (A : ℕ) (first : T (listed strong n s A)) (second : T (listed strong n t (image n p A))) where
  -- the second's scores in the first's order
  ordered : Similarity
  ordered i j = t (p.to i) (p.to j)

  pool : Similarity
  pool = pooled p.to s t

  here : T (untouched n s A)
  here = listed_untouched n s allowed A first

  there : T (untouched n t (image n p A))
  there = listed_untouched n t allowed' (image n p A) second

  row : (a b : ℕ) → a < n → b < n → A ∋ a → (carried (s a b) ≡ Scored (s a b)) × (carried (ordered a b) ≡ Scored (ordered a b))
  unfolding ordered
  row a b ha hb ka = (
    scored_is (of_untouched n s A here a b ha hb ka),
    scored_is (of_untouched n t (image n p A) there (p.to a) (p.to b) (p.to_lt a ha) (p.to_lt b hb) (in_image n p A ha ka)),
  )

  row_sum : (a b : ℕ) → a < n → b < n → A ∋ a → pool a b ≡ s a b +ℤ ordered a b
  unfolding pool pooled ordered added number_for
  row_sum a b ha hb ka = let (e, f) = row a b ha hb ka in ap₂ (λ c d. number_for (added c d)) e f

  pool_untouched : T (untouched n pool A)
  unfolding ordered
  pool_untouched = in_untouched n pool A (λ a b ha hb ka.
      let (e, f) = row a b ha hb ka in
      let h = allowed_within (subst (λ c. T (is_allowed_pair score_limit c)) e (allowed a b ha hb)) in
      let k = allowed_within (subst (λ c. T (is_allowed_pair score_limit c)) f (allowed' (p.to a) (p.to b) (p.to_lt a ha) (p.to_lt b hb))) in
      subst (λ z. T (is_scored (carried z))) (sym (row_sum a b ha hb ka)) (is_scored_lem (sum_scored h k)))

  -- "with an index no smaller than the two added"
  pub pooled_index : (index strong n s A +ℤ index strong n t (image n p A)) ≤ℤ index strong n (pooled p.to s t) A
  unfolding index pool ordered least_size
  pooled_index =
      let (some, proper) = speaks_size strong n A (of_listed strong n s A first).0 in
      let e = untouched_index score_limit n s A here in
      let f = untouched_index score_limit n t (image n p A) there ∙ strong_image n p ordered t (record { same = λ i j _ _. refl }) A in
      subst₂ (λ y z. y ≤ℤ z) (sym (ap₂ ◌+ℤ◌ e f)) (sym (untouched_index score_limit n pool A pool_untouched)) (strong_sum n s ordered pool A row_sum some proper)

  -- "is strong in the pool"
  pub pooled_strong : T (listed strong n (pooled p.to s t) A)
  unfolding up dn
  pooled_strong =
      let y = index strong n s A in
      let z = index strong n t (image n p A) in
      is_listed strong n (pooled p.to s t) A (of_listed strong n s A first).0
      (omega (zarith, pooled_index, +at y z, listed_index strong n s A first, listed_index strong n t (image n p A) second))
