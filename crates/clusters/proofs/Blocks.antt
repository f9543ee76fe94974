-- The blocks left while a tree is built: what holds of them from the single entries on, and is kept by every merge.
use mathlib.Core.Path.{◌≡◌, refl, sym, ap, ◌∙◌, subst}
use mathlib.Core.Bool.{cond}
use mathlib.Core.Logic.{◌≢◌, ◌⊎◌, inl, inr}
use mathlib.Core.List.Memᴰ
use mathlib.Core.List.{List, [], ◌∷◌, ◌++◌}
use Prim.Native.Nat.{ℕ, zero, suc, ◌/◌, ◌%◌, ◌^◌, ◌≤◌, ◌<◌}
use native.Mathlib.Decide.{ℕ_discrete}
use native.Mathlib.Omega.{arith}
use lib.IntN.{ℤ, pos, ◌+ℤ◌, ◌*ℤ◌, +ℤ_idr, *ℤ-zero}
use lib.Signed.{◌<ℤ◌}
use lib.Pow.{pow-lt}
use Rattle.lists.specs.Lists.{◌∈◌, below, erase}
use Rattle.lists.proofs.Tests.{T_true, T_false}
use Rattle.lists.proofs.Lists.{below_lt, of_map}
use Rattle.lists.proofs.Distinct.{of_erase}
use Rattle.integers.specs.Integers.{sum_of}
use Rattle.integers.proofs.Linear.{up, dn, zarith, +at, *at}
use Rattle.integers.proofs.Sums.{sum_cong, sum_append, sum_map, sum_keep, sum_swap, sum_scale, sum_two, sum_nonneg, some_pos}
use Rattle.sets.specs.Sets.{has, ◌∋◌, ◌∌◌, members, ◌∪◌, Subset, Disjoint}
use Rattle.sets.proofs.Sets.{in_or_out, or_bit, ∪_left, ∪_cases, ∪_lt, one_in, one_only, one_out, yes_has, no_has}
use Rattle.clusters.specs.Linkage.{merged, singles}

-- 1 where B holds the entry i, else 0
unfoldable pub holds : ℕ → ℕ → ℤ
holds i B = pos (B / 2 ^ i % 2)

-- each entry is in one block, none is empty, none holds an entry of n or more
pub record Partition (n : ℕ) (bs : List ℕ) : Type 0 where
  pub once : (i : ℕ) → i < n → sum_of bs (holds i) ≡ pos 1
  pub some : (B : ℕ) → B ∈ bs → (i : ℕ) × (i < n) × (B ∋ i)
  pub small : (B : ℕ) → B ∈ bs → B < 2 ^ n

-- no block crosses A
pub record Uncrossed (n A : ℕ) (bs : List ℕ) : Type 0 where
  pub side : (B : ℕ) → B ∈ bs → Subset n B A ⊎ Disjoint n B A

pub cover : {n : ℕ} {bs : List ℕ} → Partition n bs → (i : ℕ) → i < n → (B : ℕ) × (B ∈ bs) × (B ∋ i)
unfolding holds up dn
cover {bs} p i h = let r = some_pos bs (holds i) (subst (λ z. pos 0 <ℤ z) (sym (p.once i h)) (record { lt = tt })) in (r.0, r.1, omega (zarith, r.2))

-- two blocks left share no entry
pub disjoint : {n : ℕ} {bs : List ℕ} → Partition n bs → (U W : ℕ) → U ∈ bs → W ∈ bs → U ≢ W → (i : ℕ) → i < n → U ∋ i → W ∌ i
unfolding holds up dn
disjoint {bs} p U W hu hw ne i h k =
    let rest = sum_of (erase U (erase W bs)) (holds i) in
    let r = sum_nonneg (erase U (erase W bs)) (holds i) (λ B m. omega zarith) in
    omega (
      zarith,
      p.once i h,
      sum_two U W bs (holds i) hu hw ne,
      k.bit,
      r,
      +at (holds i U) (holds i W),
      +at (holds i U +ℤ holds i W) rest,
    )

-- a sum over all entries is the sum over the blocks left of their sums
held : (B i : ℕ) (z : ℤ) → cond (has B i) z (pos 0) ≡ z *ℤ holds i B
unfolding holds up dn
held B i z = at (in_or_out B i)
  where
    at : (B ∋ i) ⊎ (B ∌ i) → cond (has B i) z (pos 0) ≡ z *ℤ holds i B
    at (inl k) = ap (λ b. cond b z (pos 0)) (T_true {b = has B i} (yes_has B i k)) ∙ omega (zarith, *at z (pos 1)) ∙ ap (λ (x : ℕ). z *ℤ pos x) (sym k.bit)
    at (inr k) = ap (λ b. cond b z (pos 0)) (T_false {b = has B i} (no_has B i k)) ∙ sym (*ℤ-zero z) ∙ ap (λ (x : ℕ). z *ℤ pos x) (sym k.bit)

pub by_blocks : {n : ℕ} {bs : List ℕ} → Partition n bs → (r : ℕ → ℤ) → sum_of bs (λ B. sum_of (members n B) r) ≡ sum_of (below n) r
unfolding members up dn
by_blocks {n} {bs} p r =
    sum_cong bs (λ B. sum_of (members n B) r) (λ B. sum_of (below n) (λ i. cond (has B i) (r i) (pos 0))) (λ B _. sum_keep (has B) (below n) r)
    ∙ sum_swap bs (below n) (λ B i. cond (has B i) (r i) (pos 0))
    ∙ sum_cong (below n) (λ i. sum_of bs (λ B. cond (has B i) (r i) (pos 0))) r (λ i m.
    sum_cong bs (λ B. cond (has B i) (r i) (pos 0)) (λ B. r i *ℤ holds i B) (λ B _. held B i (r i))
    ∙ sum_scale bs (r i) (holds i) ∙ ap (λ z. r i *ℤ z) (p.once i (below_lt n m)) ∙ omega (zarith, *at (r i) (pos 1)))

module _ (U W : ℕ) (bs : List ℕ) where
  pub of_merged : {B : ℕ} → B ∈ merged U W bs → (B ≡ U ∪ W) ⊎ (B ∈ bs)
  unfolding merged
  of_merged {B} m = go (Memᴰ.cases_cons m)
    where
      go : (B ≡ U ∪ W) ⊎ (B ∈ erase U (erase W bs)) → (B ≡ U ∪ W) ⊎ (B ∈ bs)
      go (inl e) = inl e
      go (inr h) = inr (of_erase W bs (of_erase U (erase W bs) h))

  pub partition_merged : (n : ℕ) → Partition n bs → U ∈ bs → W ∈ bs → U ≢ W → Partition n (merged U W bs)
  unfolding merged sum_of holds up dn
  partition_merged n p hu hw ne = record {
    once = λ i h. onc i h;
    some = λ B m. som B (of_merged m);
    small = λ B m. sml B (of_merged m);
  }
    where
      onc : (i : ℕ) → i < n → holds i (U ∪ W) +ℤ sum_of (erase U (erase W bs)) (holds i) ≡ pos 1
      onc i h =
          let rest = sum_of (erase U (erase W bs)) (holds i) in
          let k = sum_nonneg (erase U (erase W bs)) (holds i) (λ B m. omega zarith) in
          omega (
            zarith,
            p.once i h,
            sum_two U W bs (holds i) hu hw ne,
            or_bit U W i,
            k,
            +at (holds i (U ∪ W)) rest,
            +at (holds i U) (holds i W),
            +at (holds i U +ℤ holds i W) rest,
          )

      som : (B : ℕ) → (B ≡ U ∪ W) ⊎ (B ∈ bs) → (i : ℕ) × (i < n) × (B ∋ i)
      som B (inl e) = let r = p.some U hu in (r.0, r.1, rw e (∪_left U W r.2))
      som B (inr m) = p.some B m

      sml : (B : ℕ) → (B ≡ U ∪ W) ⊎ (B ∈ bs) → B < 2 ^ n
      sml B (inl e) = rw e (∪_lt n (p.small U hu) (p.small W hw))
      sml B (inr m) = p.small B m

  -- a merge of two blocks on one side of A crosses it no more than they did
  pub uncrossed_merged : (n A : ℕ) → Uncrossed n A bs → Subset n (U ∪ W) A ⊎ Disjoint n (U ∪ W) A → Uncrossed n A (merged U W bs)
  uncrossed_merged n A u sd = record { side = λ B m. at B (of_merged m) }
    where
      at : (B : ℕ) → (B ≡ U ∪ W) ⊎ (B ∈ bs) → Subset n B A ⊎ Disjoint n B A
      at B (inl e) = rw e sd
      at B (inr m) = u.side B m

-- both in A, or both outside
pub both_in : (n A U W : ℕ) → Subset n U A → Subset n W A → Subset n (U ∪ W) A
both_in n A U W p q = record { all = λ i l k. at i l (∪_cases U W k) }
  where
    at : (i : ℕ) → i < n → (U ∋ i) ⊎ (W ∋ i) → A ∋ i
    at i l (inl k) = p.all i l k
    at i l (inr k) = q.all i l k

pub both_out : (n A U W : ℕ) → Disjoint n U A → Disjoint n W A → Disjoint n (U ∪ W) A
both_out n A U W p q = record { all = λ i l k. at i l (∪_cases U W k) }
  where
    at : (i : ℕ) → i < n → (U ∋ i) ⊎ (W ∋ i) → A ∌ i
    at i l (inl k) = p.all i l k
    at i l (inr k) = q.all i l k

-- {0}, .. {n − 1} hold the entry i once where i < n, and else not
singles_hold : (n i : ℕ) → ((i < n) → sum_of (below n) (λ j. holds i (2 ^ j)) ≡ pos 1) × ((n ≤ i) → sum_of (below n) (λ j. holds i (2 ^ j)) ≡ pos 0)
unfolding sum_of below holds up dn
singles_hold zero i = (λ h. absurd (omega arith), λ h. refl)
singles_hold (suc n) i = go (singles_hold n i) (ℕ_discrete n i)
  where
    f : ℕ → ℤ
    f j = holds i (2 ^ j)

    last : sum_of (below n ++ (n ∷ [])) f ≡ sum_of (below n) f +ℤ (f n +ℤ pos 0)
    last = sum_append (below n) (n ∷ []) f

    sums : (z : ℤ) → sum_of (below n) f +ℤ f n ≡ z → sum_of (below n ++ (n ∷ [])) f ≡ z
    sums z e = last ∙ ap (λ y. sum_of (below n) f +ℤ y) (+ℤ_idr (f n)) ∙ e

    go : ((i < n) → sum_of (below n) f ≡ pos 1) × ((n ≤ i) → sum_of (below n) f ≡ pos 0) → Dec (n ≡ i)
        → ((i < suc n) → sum_of (below n ++ (n ∷ [])) f ≡ pos 1) × ((suc n ≤ i) → sum_of (below n ++ (n ∷ [])) f ≡ pos 0)
    go r (yes e) =
        (λ h. sums (pos 1) (omega (zarith, r.1 (omega arith), subst (λ (j : ℕ). (2 ^ n) ∋ j) e (one_in n), +at (sum_of (below n) f) (f n))), λ h. absurd (omega arith))
    go r (no d) = (
      λ h. sums (pos 1) (omega (zarith, r.0 (omega arith), one_out n i d, +at (sum_of (below n) f) (f n))),
      λ h. sums (pos 0) (omega (zarith, r.1 (omega arith), one_out n i d, +at (sum_of (below n) f) (f n))),
    )

pub partition_singles : (n : ℕ) → Partition n (singles n)
unfolding singles
partition_singles n = record {
  once = λ i h. sum_map (λ i. 2 ^ i) (below n) (holds i) ∙ (singles_hold n i).0 h;
  some = λ B m. let r = of_map (λ i. 2 ^ i) (below n) m in (r.0, below_lt n r.1, is B r.0 r.2);
  small = λ B m. let r = of_map (λ i. 2 ^ i) (below n) m in rw r.2 (pow-lt (below_lt n r.1));
}
  where
    is : (B i : ℕ) → B ≡ 2 ^ i → B ∋ i
    is B i e = rw e (one_in i)

pub uncrossed_singles : (n A : ℕ) → Uncrossed n A (singles n)
unfolding singles
uncrossed_singles n A = record { side = λ B m. let r = of_map (λ i. 2 ^ i) (below n) m in rw r.2 (at r.0 (in_or_out A r.0)) }
  where
    at : (i : ℕ) → (A ∋ i) ⊎ (A ∌ i) → Subset n (2 ^ i) A ⊎ Disjoint n (2 ^ i) A
    at i (inl k) = inl (record { all = λ j l m. rw (one_only i m) k })
    at i (inr k) = inr (record { all = λ j l m. rw (one_only i m) k })
