-- Bounds of the indices: of a pair list whose numbers are between −k and k, the strong index is within 2k, the separation index
-- within 4k, the clean index of up to 32 entries within 62k.
use mathlib.Core.Path.{◌≡◌, refl}
use mathlib.Core.List.Memᴰ
use mathlib.Core.List.{List, [], ◌∷◌, map}
use Prim.Native.Nat.{ℕ, ◌-◌, ◌*◌, ◌≤◌, ◌<◌}
use native.Mathlib.Nat.{mul-le-mul}
use native.Mathlib.Omega.{arith}
use lib.IntN.{ℤ}
use Rattle.lists.specs.Lists.{◌∈◌}
use Rattle.lists.proofs.Lists.{of_each, of_map}
use Rattle.integers.specs.Integers.{least}
use Rattle.integers.specs.Range.{Within, Bounded}
use Rattle.integers.proofs.Least.{least_of}
use Rattle.integers.proofs.Range.{zero_within, value_within, within_grow, within_equal, within_sum, within_difference, within_max}
use Rattle.integers.proofs.Smallest.{smallest_within}
use Rattle.sets.specs.Sets.{others, size}
use Rattle.sets.proofs.Sets.{size_le}
use Rattle.clusters.specs.PairList.{Similarity, place, score}
use Rattle.clusters.specs.Indices.{strong_values, strong_index, weight, pairs_of, weights, clean_index, separation_values, separation_index}
use Rattle.clusters.proofs.Strong.{of_strong_values, of_separation_values}

least_within : {k : ℕ} (l : List ℤ) → Bounded k l → Within k (least l)
unfolding least
least_within [] b = zero_within
least_within (z ∷ l) b = b (least (z ∷ l)) (least_of (z ∷ l) (Memᴰ.head refl))

of_weights : (n : ℕ) (s : Similarity) (A : ℕ) {z : ℤ} → z ∈ weights n s A → (a b c : ℕ) × (z ≡ weight s a b c)
unfolding weights
of_weights n s A m =
    let (ab, _, mz) = of_each (pairs_of n A) (λ ab. map (weight s ab.0 ab.1) (others n A)) m in
    let (c, _, e) = of_map (weight s ab.0 ab.1) (others n A) mz in
    (ab.0, ab.1, c, e)

-- of any scores of n entries between −k and k
pub strong_within : {k : ℕ} (n : ℕ) (s : Similarity) → ((a b : ℕ) → a < n → b < n → Within k (s a b)) → (A : ℕ) → Within (2 * k) (strong_index n s A)
unfolding strong_index
strong_within n s b A = least_within (strong_values n s A) (λ z m.
    let (x, y, w, hx, hy, hw, _, _, _, e) = of_strong_values n s A m in
    within_grow (omega arith) (within_equal e (within_difference (b x y hx hy) (b x w hx hw))))

module _ {l : List ℤ} {k : ℕ} (b : Bounded k l) where
  pub score_within : (x y : ℕ) → Within k (score l x y)
  unfolding score
  score_within x y = value_within l (place x y) b

  pub weights_within : (n A : ℕ) → Bounded (2 * k) (weights n (score l) A)
  unfolding weight
  weights_within n A z m = let (x, y, w, e) = of_weights n (score l) A m in
      within_grow (omega arith) (within_equal e (within_difference (score_within x y) (within_max (score_within x w) (score_within y w))))

  pub separation_within : (n A : ℕ) → Within (4 * k) (separation_index n (score l) A)
  unfolding separation_index
  separation_within n A = least_within (separation_values n (score l) A) (λ z m.
      let (x, y, v, w, _, _, _, _, _, _, _, _, e) = of_separation_values n (score l) A m in
      within_grow (omega arith)
      (within_equal e (within_difference (within_difference (within_sum (score_within x v) (score_within y w)) (score_within x y)) (score_within v w))))

  pub clean_within : (n A : ℕ) → n ≤ 32 → Within (62 * k) (clean_index n (score l) A)
  unfolding clean_index
  clean_within n A few =
      let j = size n A - 1 in
      let most : j ≤ 31 = omega (arith, size_le n A) in
      let same : 2 * k ≤ 2 * k = omega arith in
      within_grow (omega (arith, mul-le-mul most same)) (smallest_within j (weights n (score l) A) (weights_within n A))
