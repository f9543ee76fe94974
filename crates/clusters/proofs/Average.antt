-- Stable sets repel what lies outside them, for the average link.
use mathlib.Core.Path.{◌≡◌, sym, ap, ap₂, ◌∙◌, subst, subst₂}
use mathlib.Core.Bool.{Bool, true, false, cond}
use mathlib.Core.Logic.{◌≢◌, ◌⊎◌, inl, inr}
use mathlib.Core.List.{List, map}
use Prim.Native.Nat.{ℕ, ◌*◌, ◌^◌, ◌<◌}
use lib.IntN.{ℤ, pos, ◌-ℤ◌, ◌*ℤ◌}
use lib.Signed.{◌≤ℤ◌, ◌<ℤ◌}
use lib.Dec.{T}
use Rattle.lists.specs.Lists.{◌∈◌, below}
use Rattle.lists.proofs.Tests.{T_true}
use Rattle.integers.specs.Integers.{sum_of, sum, max_z}
use Rattle.integers.proofs.Linear.{up, dn, zarith, -at, mul_cancel, mul_assoc, lt_or_le}
use Rattle.integers.proofs.Least.{max_right}
use Rattle.integers.proofs.Sums.{sum_cong, sum_mono, sum_sub, sum_const, sum_scale, sum_keep, sum_swap, sum_each, sum_map, some_pos}
use Rattle.sets.specs.Sets.{has, ◌∋◌, ◌∌◌, members, size, difference, Subset, Disjoint}
use Rattle.sets.proofs.Sets.{has_yes, yes_has, clash, of_members, member_size, in_difference, of_difference, left_out}
use Rattle.clusters.specs.PairList.{Similarity, Symmetric}
use Rattle.clusters.specs.Indices.{weight}
use Rattle.clusters.specs.Linkage.{average, link, between}
use Rattle.clusters.specs.Stability.{triple_sum, Stable}
use Rattle.clusters.proofs.Blocks.{Partition, Uncrossed, disjoint, by_blocks}
use Rattle.clusters.proofs.Trees.{◌≺◌, Repels}
use Rattle.clusters.proofs.Weights.{triple_sum_sums}
use Rattle.clusters.proofs.Stable.{division}

-- the sum of the scores between two blocks
total : ℕ → Similarity → ℕ → ℕ → ℤ
total n s U W = sum_of (members n U) λ u. sum_of (members n W) (s u)

between_sum : (n : ℕ) (s : Similarity) (U W : ℕ) → sum (between n s U W) ≡ total n s U W
unfolding between sum total
between_sum n s U W = sum_each (members n U) (λ u. map (s u) (members n W)) (λ x. x) ∙ sum_cong (members n U) _ _ λ u _. sum_map (s u) (members n W) (λ x. x)

-- how much closer u is to K than Z is, summed over the entries of K and Z
pull : ℕ → Similarity → ℕ → ℕ → ℕ → ℤ
pull n s K Z u = sum_of (members n K) λ w. sum_of (members n Z) λ z. s w u -ℤ s w z

triple_sum_pull : (n : ℕ) (s : Similarity) → Symmetric s → (U K Z : ℕ) → triple_sum n s U K Z ≤ℤ sum_of (members n U) (pull n s K Z)
unfolding pull weight
triple_sum_pull n s symm U K Z =
    subst (λ x. x ≤ℤ sum_of (members n U) (pull n s K Z)) (sym (triple_sum_sums n s U K Z))
    (sum_mono (members n U) _ _ λ u _. sum_mono (members n K) _ _ λ w _. sum_mono (members n Z) _ _ λ z _.
    omega (zarith, symm u w, max_right (s u z) (s w z), -at (s u w) (max_z (s u z) (s w z)), -at (s w u) (s w z)))

-- what a block B is pulled
pull_sum : (n : ℕ) (s : Similarity) (K Z B : ℕ) → sum_of (members n B) (pull n s K Z) ≡ pos (size n Z) *ℤ total n s K B -ℤ pos (size n B) *ℤ total n s K Z
unfolding pull total size
pull_sum n s K Z B =
    sum_cong (members n B) (pull n s K Z) (λ u. pos (size n Z) *ℤ sum_of (members n K) (λ w. s w u) -ℤ total n s K Z) (λ u _. one u)
    ∙ sum_sub (members n B) (λ u. pos (size n Z) *ℤ sum_of (members n K) (λ w. s w u)) (λ u. total n s K Z)
    ∙ ap₂ ◌-ℤ◌
    (sum_scale (members n B) (pos (size n Z)) (λ u. sum_of (members n K) (λ w. s w u)) ∙ ap (λ y. pos (size n Z) *ℤ y) (sum_swap (members n B) (members n K) (λ u w. s w u)))
    (sum_const (members n B) (total n s K Z))
  where
    one : (u : ℕ) → pull n s K Z u ≡ pos (size n Z) *ℤ sum_of (members n K) (λ w. s w u) -ℤ total n s K Z
    one u =
        sum_cong (members n K) (λ w. sum_of (members n Z) (λ z. s w u -ℤ s w z)) (λ w. pos (size n Z) *ℤ s w u -ℤ sum_of (members n Z) (s w))
        (λ w _. sum_sub (members n Z) (λ z. s w u) (s w) ∙ ap (λ y. y -ℤ sum_of (members n Z) (s w)) (sum_const (members n Z) (s w u)))
        ∙ sum_sub (members n K) (λ w. pos (size n Z) *ℤ s w u) (λ w. sum_of (members n Z) (s w))
        ∙ ap (λ y. y -ℤ total n s K Z) (sum_scale (members n K) (pos (size n Z)) (λ w. s w u))

-- a sum above 0 over the entries of A outside the block K is above 0 over another block
another : {n A : ℕ} {bs : List ℕ} → Partition n bs → Uncrossed n A bs → (K : ℕ) → K ∈ bs → (r : ℕ → ℤ) → pos 0 <ℤ sum_of (members n (difference n A K)) r
    → (B : ℕ) × (B ∈ bs) × (K ≢ B) × (pos 0 <ℤ sum_of (members n B) r)
unfolding members
another {n} {A} {bs} p c K hk r h =
    let (B, m, q) = some_pos bs (λ B. sum_of (members n B) kept) (subst (λ z. pos 0 <ℤ z) (sum_keep (has rest) (below n) r ∙ sym (by_blocks p kept)) h) in
    let (i, mi, qi) = some_pos (members n B) kept q in
    let (l, b) = of_members n B mi in
    let (a, k) = of_difference n A K l (has_yes rest i (hit i (has rest i) qi)) in
    let ne : K ≢ B = λ e. clash (subst (λ (X : ℕ). X ∋ i) (sym e) b) k in
    (B, m, ne, subst (λ z. pos 0 <ℤ z) (all_kept B m ne (inner B i l b a (c.side B m))) q)
  where
    rest : ℕ
    rest = difference n A K

    kept : ℕ → ℤ
    kept i = cond (has rest i) (r i) (pos 0)

    hit : (i : ℕ) (b : Bool) → pos 0 <ℤ cond b (r i) (pos 0) → T b
    hit i true q = tt
    hit i false q = q.lt

    inner : (B i : ℕ) → i < n → B ∋ i → A ∋ i → Subset n B A ⊎ Disjoint n B A → Subset n B A
    inner B i l b a (inl ins) = ins
    inner B i l b a (inr out) = clash a (out.all i l b)

    all_kept : (B : ℕ) → B ∈ bs → K ≢ B → Subset n B A → sum_of (members n B) kept ≡ sum_of (members n B) r
    all_kept B m ne ins = sum_cong (members n B) kept r λ i mi.
        let (l, b) = of_members n B mi in
        let k = in_difference n A K l (ins.all i l b) (disjoint p B K m hk (λ e. ne (sym e)) i l b) in
        ap (λ b. cond b (r i) (pos 0)) (T_true {b = has rest i} (yes_has rest i k))

-- x / b < y / z gives x / kb < y / kz
less_scaled : (k b z : ℕ) (x y : ℤ) → 0 < k → pos 0 <ℤ (pos z *ℤ y -ℤ pos b *ℤ x) → (pos (k * b) *ℤ x) <ℤ (pos (k * z) *ℤ y)
unfolding up dn
less_scaled k b z x y l h = go (lt_or_le (pos (k * b) *ℤ x) (pos (k * z) *ℤ y))
  where
    go : ((pos (k * b) *ℤ x) <ℤ (pos (k * z) *ℤ y)) ⊎ ((pos (k * z) *ℤ y) ≤ℤ (pos (k * b) *ℤ x)) → (pos (k * b) *ℤ x) <ℤ (pos (k * z) *ℤ y)
    go (inl q) = q
    go (inr q) =
        let m : (pos z *ℤ y) ≤ℤ (pos b *ℤ x) = mul_cancel k l (subst₂ ◌≤ℤ◌ (mul_assoc k z y) (mul_assoc k b x) q) in
        absurd (omega (zarith, -at (pos z *ℤ y) (pos b *ℤ x)))

-- a block that is pulled to K has the greater link
pulled_link : (n : ℕ) (s : Similarity) (K Z B : ℕ) → 0 < size n K → pos 0 <ℤ sum_of (members n B) (pull n s K Z) → link average n s K Z ≺ link average n s K B
unfolding link ◌≺◌
pulled_link n s K Z B l q =
    subst₂ (λ x y. (pos (size n K * size n B) *ℤ x) <ℤ (pos (size n K * size n Z) *ℤ y)) (sym (between_sum n s K Z)) (sym (between_sum n s K B))
    (less_scaled (size n K) (size n B) (size n Z) (total n s K Z) (total n s K B) l (subst (λ x. pos 0 <ℤ x) (pull_sum n s K Z B) q))

pub stable_repels : (n : ℕ) (s : Similarity) → Symmetric s → (A : ℕ) → A < 2 ^ n → ((a : ℕ) × (a < n) × (A ∋ a)) → ((x : ℕ) × (x < n) × (A ∌ x)) → Stable n s A
    → Repels (link average n s) n A
stable_repels n s symm A low inside outside st = record {
  low = low;
  inside = inside;
  outside = outside;
  away = λ bs p c K Z hk hz ne part out.
      let (k, lk, mk) = p.some K hk in
      let parts = division n A K Z low (p.small K hk) part out (k, lk, mk) (left_out n A K low (p.small K hk) ne part) (p.some Z hz) in
      let h = st.positive (difference n A K) K Z parts in
      let (B, m, d, q) = another p c K hk (pull n s K Z) (omega (zarith, triple_sum_pull n s symm (difference n A K) K Z)) in
      (B, m, d, pulled_link n s K Z B (member_size n K lk mk) q);
}
