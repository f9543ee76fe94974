-- Strong and clean groups are stable; two stable sets are nested or disjoint.
use mathlib.Core.Path.{◌≡◌, sym, ap, ap₂, ◌∙◌, subst}
use mathlib.Core.Logic.{◌⊎◌, inl, inr}
use Prim.Native.Nat.{ℕ, zero, suc, ◌+◌, ◌-◌, ◌*◌, ◌^◌, ◌≤◌, ◌<◌}
use native.Mathlib.Omega.{arith}
use lib.IntN.{pos, ◌+ℤ◌, ◌-ℤ◌}
use lib.Signed.{◌≤ℤ◌, ◌<ℤ◌}
use Rattle.integers.specs.Integers.{max_z}
use Rattle.integers.proofs.Linear.{up, dn, zarith, +at, -at}
use Rattle.integers.proofs.Least.{max_left, max_is}
use Rattle.integers.proofs.Sums.{sum_cong, sum_swap, sum_pos, sums_opposed}
use Rattle.integers.proofs.Smallest.{among_positive}
use Rattle.sets.specs.Sets.{◌∋◌, ◌∌◌, members, size, ◌∪◌, difference, Subset, Disjoint, Nested}
use Rattle.sets.proofs.Sets.{
  in_or_out,
  ∪_left,
  ∪_right,
  ∪_lt,
  size_∪,
  in_members,
  of_members,
  member_size,
  size_member,
  difference_lt,
  in_difference,
  of_difference,
  not_difference,
  out_difference,
  find,
  subset_antisymm,
}
use Rattle.sets.proofs.Parts.{common, common_comm}
use Rattle.clusters.specs.PairList.{Similarity, Symmetric}
use Rattle.clusters.specs.Indices.{strong_index, weight, weights, clean_index}
use Rattle.clusters.specs.Stability.{triple_sum, Division, Stable}
use Rattle.clusters.proofs.Strong.{strong_lt}
use Rattle.clusters.proofs.Weights.{triples, length_triples, triple_sum_sums, left_inside, right_inside, division_among}
use Rattle.clusters.proofs.Blocks.{both_in}

strong_weight : (n : ℕ) (s : Similarity) → Symmetric s → (A : ℕ) → pos 1 ≤ℤ strong_index n s A
    → {a b c : ℕ} → a < n → b < n → c < n → A ∋ a → A ∋ b → A ∌ c → pos 0 <ℤ weight s a b c
unfolding weight up dn
strong_weight n s symm A h {a} {b} {c} la lb lc ka kb kc = go (max_is (s a c) (s b c))
  where
    go : (max_z (s a c) (s b c) ≡ s a c) ⊎ (max_z (s a c) (s b c) ≡ s b c) → pos 0 <ℤ (s a b -ℤ max_z (s a c) (s b c))
    go (inl e) = omega (zarith, strong_lt n s A h a b c la lb lc ka kb kc, -at (s a b) (max_z (s a c) (s b c)))
    go (inr e) = omega (zarith, strong_lt n s A h b a c lb la lc kb ka kc, symm a b, -at (s a b) (max_z (s a c) (s b c)))

-- of a strong group every weight is 1 or more
pub strong_stable : (n : ℕ) (s : Similarity) → Symmetric s → (A : ℕ) → pos 1 ≤ℤ strong_index n s A → Stable n s A
strong_stable n s symm A h = record { positive = λ U W Z d. at U W Z d }
  where
    at : (U W Z : ℕ) → Division n A U W Z → pos 0 <ℤ triple_sum n s U W Z
    at U W Z d =
        let (u, lu, hu) = size_member n U d.some_u in
        let (w, lw, hw) = size_member n W d.some_w in
        let (z, lz, hz) = size_member n Z d.some_z in
        subst (λ x. pos 0 <ℤ x) (sym (triple_sum_sums n s U W Z))
        (sum_pos (members n U) _ (λ u mu. sum_pos (members n W) _ (λ w mw. sum_pos (members n Z) _ (λ z mz. weighed u w z (of_members n U mu) (of_members n W mw) (of_members n Z mz))
        (in_members n Z lz hz)) (in_members n W lw hw)) (in_members n U lu hu))
      where
        weighed : (u w z : ℕ) → (u < n) × (U ∋ u) → (w < n) × (W ∋ w) → (z < n) × (Z ∋ z) → pos 0 <ℤ weight s u w z
        weighed u w z (lu, ku) (lw, kw) (lz, kz) = strong_weight n s symm A h lu lw lz (left_inside d ku) (right_inside d kw) (d.outside.all z lz kz)

-- of a clean group the triples of a division are among the weights, and no fewer than those that count
pub clean_stable : (n : ℕ) (s : Similarity) → Symmetric s → (A : ℕ) → pos 1 ≤ℤ clean_index n s A → Stable n s A
unfolding clean_index triple_sum triples
clean_stable n s symm A h = record { positive = λ U W Z d. at U W Z d }
  where
    enough : (a b c : ℕ) → 1 ≤ a → 1 ≤ b → 1 ≤ c → a + b - 1 ≤ a * (b * c)
    enough zero b c x y z = absurd (omega arith)
    enough (suc a) zero c x y z = absurd (omega arith)
    enough (suc a) (suc b) zero x y z = absurd (omega arith)
    enough (suc a) (suc b) (suc c) x y z = omega arith

    at : (U W Z : ℕ) → Division n A U W Z → pos 0 <ℤ triple_sum n s U W Z
    at U W Z d =
        let e : size n A ≡ size n U + size n W = ap (size n) (sym d.whole) ∙ size_∪ n U W d.apart.all in
        among_positive (size n A - 1) (weights n s A) (triples n s U W Z) (division_among n s symm A U W Z d) (omega arith)
        (omega (arith, enough (size n U) (size n W) (size n Z) d.some_u d.some_w d.some_z, length_triples n s U W Z)) h

-- an entry of A, and one that is not in B
abbrev Entry : ℕ → ℕ → Type 0
Entry n A = (i : ℕ) × (i < n) × (A ∋ i)

abbrev Only : ℕ → ℕ → ℕ → Type 0
Only n A B = (i : ℕ) × (i < n) × (A ∋ i) × (B ∌ i)

-- a part K of A that leaves out an entry, the rest of A, and a set Z outside
pub division : (n A K Z : ℕ) → A < 2 ^ n → K < 2 ^ n → Subset n K A → Disjoint n Z A → Entry n K → Only n A K → Entry n Z
    → Division n A (difference n A K) K Z
division n A K Z low lowk part out (k, lk, hk) (r, lr, ar, kr) (z, lz, hz) = record {
  some_u = member_size n (difference n A K) lr (in_difference n A K lr ar kr);
  some_w = member_size n K lk hk;
  some_z = member_size n Z lz hz;
  apart = record { all = λ i l m. (of_difference n A K l m).1 };
  whole = subset_antisymm n (difference n A K ∪ K) A (∪_lt n (difference_lt n A K) lowk) low
      (both_in n A (difference n A K) K (record { all = λ i l m. (of_difference n A K l m).0 }) part)
      (record { all = λ i l m. at i l m (in_or_out K i) });
  outside = out;
}
  where
    at : (i : ℕ) → i < n → A ∋ i → (K ∋ i) ⊎ (K ∌ i) → (difference n A K ∪ K) ∋ i
    at i l a (inl m) = ∪_right (difference n A K) K m
    at i l a (inr m) = ∪_left (difference n A K) K (in_difference n A K l a m)

-- the weights of ab|c and ac|b have a sum of at most 0, so not both of their triple sums are above 0
opposed : (s : Similarity) (a b c : ℕ) → (weight s a b c +ℤ weight s a c b) ≤ℤ pos 0
unfolding weight up dn
opposed s a b c =
    let x = max_z (s a c) (s b c) in
    let y = max_z (s a b) (s c b) in
    omega (zarith, max_left (s a c) (s b c), max_left (s a b) (s c b), -at (s a b) x, -at (s a c) y, +at (s a b -ℤ x) (s a c -ℤ y))

triple_sums_opposed : (n : ℕ) (s : Similarity) (W U Z : ℕ) → (triple_sum n s W U Z +ℤ triple_sum n s W Z U) ≤ℤ pos 0
triple_sums_opposed n s W U Z =
    let swapped = triple_sum_sums n s W Z U ∙ sum_cong (members n W) _ _ (λ w _. sum_swap (members n Z) (members n U) (weight s w)) in
    subst (λ x. x ≤ℤ pos 0) (ap₂ ◌+ℤ◌ (sym (triple_sum_sums n s W U Z)) (sym swapped))
    (sums_opposed (members n W) _ _ λ w. sums_opposed (members n U) _ _ λ u. sums_opposed (members n Z) _ _ λ z. opposed s w u z)

-- where A and B cross, they divide A
crossing : (n A B : ℕ) → A < 2 ^ n → Only n A B → (w : ℕ) × (w < n) × (A ∋ w) × (B ∋ w) → Only n B A
    → Division n A (common n A B) (difference n A B) (difference n B A)
unfolding common
crossing n A B low (u, lu, au, bu) (w, lw, aw, bw) (z, lz, bz, az) =
    division n A (difference n A B) (difference n B A) low (difference_lt n A B)
    (record { all = λ i l k. (of_difference n A B l k).0 }) (record { all = λ i l k. (of_difference n B A l k).1 })
    (u, lu, in_difference n A B lu au bu) (w, lw, aw, not_difference n A B lw bw) (z, lz, in_difference n B A lz bz az)

pub stable_nested : (n : ℕ) (s : Similarity) → Symmetric s → (A B : ℕ) → A < 2 ^ n → B < 2 ^ n → Stable n s A → Stable n s B → Nested n A B ⊎ Disjoint n A B
unfolding up dn
stable_nested n s _ A B lowa lowb sa sb = go (find n A B) (find n B A) (find n A (difference n A B))
  where
    go : Only n A B ⊎ Subset n A B → Only n B A ⊎ Subset n B A → Only n A (difference n A B) ⊎ Subset n A (difference n A B) → Nested n A B ⊎ Disjoint n A B
    go (inr p) _ _ = inl (inl p)
    go (inl u) (inr p) _ = inl (inr p)
    go (inl u) (inl z) (inr p) = inr (record { all = λ i l k. (of_difference n A B l (p.all i l k)).1 })
    go (inl u) (inl z) (inl (w, lw, aw, d)) =
        let W = common n A B in
        let U = difference n A B in
        let Z = difference n B A in
        let bw = out_difference n A B lw aw d in
        let p = sa.positive W U Z (crossing n A B lowa u (w, lw, aw, bw) z) in
        let q = sb.positive W Z U (subst (λ (X : ℕ). Division n B X Z U) (common_comm n B A) (crossing n B A lowb z (w, lw, bw, aw) u)) in
        absurd (omega (zarith, triple_sums_opposed n s W U Z, +at (triple_sum n s W U Z) (triple_sum n s W Z U)))
