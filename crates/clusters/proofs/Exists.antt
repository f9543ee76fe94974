-- A tree exists for every n ≥ 1; every tree has n − 1 merges, and all entries are one of its blocks.
use mathlib.Core.Path.{◌≡◌, refl, sym, ap, ◌∙◌, subst}
use mathlib.Core.Bool.{not}
use mathlib.Core.Logic.{◌≢◌, ◌⊎◌, inl, inr, ⊎_elim}
use mathlib.Core.List.Memᴰ
use mathlib.Core.List.{List, [], ◌∷◌, map}
use Prim.Native.Nat.{ℕ, zero, suc, ◌^◌, ◌≤◌, ◌<◌}
use native.Mathlib.Omega.{arith}
use lib.IntN.{◌+ℤ◌}
use lib.Dec.{eqb, eqb→eq, not_T}
use lib.ListN.{length, length-map}
use Rattle.lists.specs.Lists.{◌∈◌, below, each, keep, erase}
use Rattle.lists.proofs.Tests.{eqb_no}
use Rattle.lists.proofs.Lists.{in_each, of_each, in_map, of_map, in_keep, of_keep, count_below}
use Rattle.lists.proofs.Distinct.{in_erase, length_erase}
use Rattle.integers.specs.Integers.{sum_of}
use Rattle.integers.proofs.Linear.{up, dn, zarith, +at}
use Rattle.integers.proofs.Sums.{sum_nonneg}
use Rattle.sets.specs.Sets.{◌∋◌, ◌∪◌, size}
use Rattle.sets.proofs.Sets.{member_size}
use Rattle.clusters.specs.PairList.{Similarity}
use Rattle.clusters.specs.Linkage.{Quotient, ◌≼◌, Greatest, Linkage, link, merged, Merges, Tree, singles, merged_blocks}
use Rattle.clusters.proofs.Blocks.{holds, Partition, cover, of_merged, partition_merged, partition_singles}
use Rattle.clusters.proofs.Links.{quotient_total, ≼_trans, link_den}

pub length_merged : (U W : ℕ) (bs : List ℕ) → U ∈ bs → W ∈ bs → U ≢ W → suc (length (merged U W bs)) ≡ length bs
unfolding merged
length_merged U W bs hu hw ne = ap suc (length_erase U (erase W bs) (in_erase W bs ne hu)) ∙ length_erase W bs hw

-- the number of merges
pub merges_length : (link : ℕ → ℕ → Quotient) (bs : List ℕ) (ms : List (ℕ × ℕ)) → Merges link bs ms → suc (length ms) ≡ length bs
merges_length link bs [] t = sym t
merges_length link bs (m ∷ ms) t =
    ap suc (merges_length link (merged m.0 m.1 bs) ms t.1) ∙ length_merged m.0 m.1 bs t.0.left t.0.right t.0.apart

pub count_singles : (n : ℕ) → length (singles n) ≡ n
unfolding singles
count_singles n = length-map (below n) (λ i. 2 ^ i) ∙ count_below n

pub tree_length : (linkage : Linkage) (n : ℕ) (s : Similarity) (ms : List (ℕ × ℕ)) → Tree linkage n s ms → suc (length ms) ≡ n
tree_length linkage n s ms t = merges_length (link linkage n s) (singles n) ms t ∙ count_singles n

-- the last block holds every entry
pub last_block : (n : ℕ) (link : ℕ → ℕ → Quotient) (bs : List ℕ) (ms : List (ℕ × ℕ)) → Partition n bs → Merges link bs ms
    → (B : ℕ) × ((B ∈ bs) ⊎ (B ∈ merged_blocks ms)) × ((i : ℕ) → i < n → B ∋ i)
unfolding merged_blocks
last_block n link [] [] p t = absurd (omega arith)
last_block n link (B ∷ []) [] p t = (B, inl (Memᴰ.head refl), λ i h. let c = cover p i h in at (Memᴰ.cases_cons c.1) c.2)
  where
    at : {C i : ℕ} → (C ≡ B) ⊎ (C ∈ []) → C ∋ i → B ∋ i
    at {i} (inl e) m = subst (λ (x : ℕ). x ∋ i) e m
    at (inr k) m = absurd (Memᴰ.not-nil k)
last_block n link (B ∷ C ∷ bs) [] p t = absurd (omega arith)
last_block n link bs (m ∷ ms) p t =
    let g = t.0 in
    let r = last_block n link (merged m.0 m.1 bs) ms (partition_merged m.0 m.1 bs n p g.left g.right g.apart) t.1 in
    (r.0, home r.1, r.2)
  where
    at : {B : ℕ} → (B ≡ m.0 ∪ m.1) ⊎ (B ∈ bs) → (B ∈ bs) ⊎ (B ∈ merged_blocks (m ∷ ms))
    at (inl e) = inr (Memᴰ.head e)
    at (inr k) = inl k

    home : {B : ℕ} → (B ∈ merged m.0 m.1 bs) ⊎ (B ∈ merged_blocks ms) → (B ∈ bs) ⊎ (B ∈ merged_blocks (m ∷ ms))
    home (inl k) = at (of_merged m.0 m.1 bs k)
    home (inr k) = inr (Memᴰ.tail k)

-- the first two blocks of a partition differ
first_two : (n B C : ℕ) (bs : List ℕ) → Partition n (B ∷ C ∷ bs) → B ≢ C
unfolding holds sum_of up dn
first_two n B C bs p e =
    let (i, l, k) = p.some B (Memᴰ.head refl) in
    let c : C ∋ i = subst (λ (x : ℕ). x ∋ i) e k in
    let r = sum_nonneg bs (holds i) (λ B m. omega zarith) in
    omega (zarith, p.once i l, k.bit, c.bit, r, +at (holds i C) (sum_of bs (holds i)), +at (holds i B) (holds i C +ℤ sum_of bs (holds i)))

-- the pairs of different elements
row : List ℕ → ℕ → List (ℕ × ℕ)
row bs P = map (λ Q. (P, Q)) (keep (λ Q. not (eqb Q P)) bs)

pairs : List ℕ → List (ℕ × ℕ)
pairs bs = each bs (row bs)

in_pairs : (bs : List ℕ) (P Q : ℕ) → P ∈ bs → Q ∈ bs → P ≢ Q → (P, Q) ∈ pairs bs
unfolding pairs row
in_pairs bs P Q hp hq ne = in_each (row bs) hp (in_map (λ Q. (P, Q)) (in_keep (λ Q. not (eqb Q P)) hq (not_T (eqb Q P) (λ t. ne (sym (eqb→eq Q P t))))))

of_pairs : (bs : List ℕ) (p : ℕ × ℕ) → p ∈ pairs bs → (p.0 ∈ bs) × (p.1 ∈ bs) × (p.0 ≢ p.1)
unfolding pairs row
of_pairs bs p m =
    let (P, hp, k) = of_each bs (row bs) m in
    let (Q, q, e) = of_map (λ Q. (P, Q)) (keep (λ Q. not (eqb Q P)) bs) k in
    let (hq, t) = of_keep (λ Q. not (eqb Q P)) bs q in
    subst (λ (y : ℕ × ℕ). (y.0 ∈ bs) × (y.1 ∈ bs) × (y.0 ≢ y.1)) (sym e) (hp, hq, λ r. eqb_no Q P t (sym r))

module _ (n : ℕ) (link : ℕ → ℕ → Quotient) (den : (P Q : ℕ) → 1 ≤ size n P → 1 ≤ size n Q → 0 < (link P Q).den) where
  abbrev at_pair : ℕ × ℕ → Quotient
  at_pair p = link p.0 p.1

  -- of some pairs of blocks one has the greatest link
  top : (l : List (ℕ × ℕ)) → ((p : ℕ × ℕ) → p ∈ l → 0 < (at_pair p).den) → {x : ℕ × ℕ} → x ∈ l
      → (m : ℕ × ℕ) × (m ∈ l) × ((p : ℕ × ℕ) → p ∈ l → at_pair p ≼ at_pair m)
  top [] g k = elim k [ ]
  top (x ∷ []) g k = (x, Memᴰ.head refl, λ p q. at p (Memᴰ.cases_cons q))
    where
      at : (p : ℕ × ℕ) → (p ≡ x) ⊎ (p ∈ []) → at_pair p ≼ at_pair x
      at p (inl e) = subst (λ (y : ℕ × ℕ). at_pair y ≼ at_pair x) (sym e) (⊎_elim (λ h. h) (λ h. h) (quotient_total (at_pair x) (at_pair x)))
      at p (inr q) = absurd (Memᴰ.not-nil q)
  top (x ∷ y ∷ l) g k = go (top (y ∷ l) (λ p q. g p (Memᴰ.tail q)) (Memᴰ.head refl))
    where
      go : (m : ℕ × ℕ) × (m ∈ y ∷ l) × ((p : ℕ × ℕ) → p ∈ y ∷ l → at_pair p ≼ at_pair m)
          → (m : ℕ × ℕ) × (m ∈ x ∷ y ∷ l) × ((p : ℕ × ℕ) → p ∈ x ∷ y ∷ l → at_pair p ≼ at_pair m)
      go (m, k, b) = at (quotient_total (at_pair x) (at_pair m))
        where
          to : (c : ℕ × ℕ) → at_pair x ≼ at_pair c → ((p : ℕ × ℕ) → p ∈ y ∷ l → at_pair p ≼ at_pair c) → (p : ℕ × ℕ) → (p ≡ x) ⊎ (p ∈ y ∷ l)
              → at_pair p ≼ at_pair c
          to c h f p (inl e) = subst (λ (z : ℕ × ℕ). at_pair z ≼ at_pair c) (sym e) h
          to c h f p (inr q) = f p q

          at : (at_pair x ≼ at_pair m) ⊎ (at_pair m ≼ at_pair x) → (m : ℕ × ℕ) × (m ∈ x ∷ y ∷ l) × ((p : ℕ × ℕ) → p ∈ x ∷ y ∷ l → at_pair p ≼ at_pair m)
          at (inl c) = (m, Memᴰ.tail k, λ p q. to m c b p (Memᴰ.cases_cons q))
          at (inr c) = (
            x,
            Memᴰ.head refl,
            λ p q.
                to x (⊎_elim (λ h. h) (λ h. h) (quotient_total (at_pair x) (at_pair x)))
                (λ p q. ≼_trans (at_pair p) (at_pair m) (at_pair x) (g m (Memᴰ.tail k)) (b p q) c) p (Memᴰ.cases_cons q),
          )

  merges_exist : (k : ℕ) (bs : List ℕ) → length bs ≡ suc k → Partition n bs → (ms : List (ℕ × ℕ)) × Merges link bs ms
  merges_exist zero bs e p = ([], e)
  merges_exist (suc k) [] e p = absurd (omega arith)
  merges_exist (suc k) (B ∷ []) e p = absurd (omega arith)
  merges_exist (suc k) (B ∷ C ∷ bs) e p =
      go (λ bs e p. merges_exist k bs e p)
      (top (pairs all) some (in_pairs all B C (Memᴰ.head refl) (Memᴰ.tail (Memᴰ.head refl)) (first_two n B C bs p)))
    where
      all : List ℕ
      all = B ∷ C ∷ bs

      filled : (U : ℕ) → U ∈ all → 1 ≤ size n U
      filled U m = let (i, l, k) = p.some U m in member_size n U l k

      some : (q : ℕ × ℕ) → q ∈ pairs all → 0 < (link q.0 q.1).den
      some q m = let (l, r, _) = of_pairs all q m in den q.0 q.1 (filled q.0 l) (filled q.1 r)

      go : ((bs : List ℕ) → length bs ≡ suc k → Partition n bs → (ms : List (ℕ × ℕ)) × Merges link bs ms)
          → (m : ℕ × ℕ) × (m ∈ pairs all) × ((p : ℕ × ℕ) → p ∈ pairs all → link p.0 p.1 ≼ link m.0 m.1) → (ms : List (ℕ × ℕ)) × Merges link all ms
      go ih (m, q, b) =
          let (l, r, ne) = of_pairs all m q in
          let c = length_merged m.0 m.1 all l r ne in
          let (ms, t) = ih (merged m.0 m.1 all) (omega arith) (partition_merged m.0 m.1 all n p l r ne) in
          let g : Greatest link all m.0 m.1 = record { left = l; right = r; apart = ne; most = λ P Q hp hq d. b (P, Q) (in_pairs all P Q hp hq d) } in
          (m ∷ ms, (g, t))

pub tree_exists : (linkage : Linkage) (n : ℕ) (s : Similarity) → 1 ≤ n → (ms : List (ℕ × ℕ)) × Tree linkage n s ms
tree_exists linkage zero s h = absurd (omega arith)
tree_exists linkage (suc k) s h =
    merges_exist (suc k) (link linkage (suc k) s) (link_den linkage (suc k) s) k (singles (suc k)) (count_singles (suc k)) (partition_singles (suc k))
