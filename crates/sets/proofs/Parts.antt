-- What two sets have in common; two parts that make up a set.
use mathlib.Core.Path.{◌≡◌}
use mathlib.Core.Logic.{◌⊎◌, inl, inr, ⊎_elim}
use Prim.Native.Nat.{ℕ, zero, suc, ◌+◌, ◌/◌, ◌%◌, ◌^◌, ◌≤◌, ◌<◌}
use native.Mathlib.Decide.{dec_le}
use native.Mathlib.Omega.{arith}
use Rattle.sets.specs.Sets.{◌∋◌, ◌∌◌, size, complement, difference, Subset, Disjoint}
use Rattle.sets.proofs.Sets.{
  in_or_out,
  clash,
  size_suc,
  size_le,
  member_size,
  in_complement,
  of_complement,
  out_complement,
  difference_lt,
  in_difference,
  of_difference,
  not_difference,
  out_difference,
  subset_antisymm,
}

-- the entries that A and B have in common are those of A that are not of A alone
unfoldable pub common : ℕ → ℕ → ℕ → ℕ
common n A B = difference n A (difference n A B)

module _ (n A B : ℕ) {i : ℕ} (h : i < n) where
  in_common : A ∋ i → B ∋ i → common n A B ∋ i
  unfolding common
  in_common a b = in_difference n A (difference n A B) h a (not_difference n A B h b)

  of_common : common n A B ∋ i → (A ∋ i) × (B ∋ i)
  unfolding common
  of_common k = let (a, d) = of_difference n A (difference n A B) h k in (a, out_difference n A B h a d)

common_le : (n A B : ℕ) → Subset n (common n A B) (common n B A)
common_le n A B = record { all = λ i h k. let (a, b) = of_common n A B h k in in_common n B A h b a }

pub common_comm : (n A B : ℕ) → common n A B ≡ common n B A
unfolding common
common_comm n A B = subset_antisymm n (common n A B) (common n B A) (difference_lt n A (difference n A B)) (difference_lt n B (difference n B A))
    (common_le n A B) (common_le n B A)

-- they have an entry in common, or share none
pub common_or_none : (n A B : ℕ) → (1 ≤ size n (common n A B)) ⊎ Disjoint n A B
common_or_none n A B = go (dec_le 1 (size n (common n A B)))
  where
    none : (1 ≤ size n (common n A B) → ⊥) → (i : ℕ) → i < n → A ∋ i → (B ∋ i) ⊎ (B ∌ i) → B ∌ i
    none f i h a (inl b) = absurd (f (member_size n (common n A B) h (in_common n A B h a b)))
    none f i h a (inr b) = b

    go : Dec (1 ≤ size n (common n A B)) → (1 ≤ size n (common n A B)) ⊎ Disjoint n A B
    go (yes h) = inl h
    go (no f) = inr (record { all = λ i h a. none f i h a (in_or_out B i) })

-- a set that shares no entry with B lies in the complement of B, and the other way round
pub disjoint_within : (n : ℕ) {A B : ℕ} → Disjoint n A B → Subset n A (complement n B)
disjoint_within n {A} {B} d = record { all = λ i h a. in_complement n B h (d.all i h a) }

pub disjoint_complement : (n : ℕ) {A B : ℕ} → Disjoint n A (complement n B) → Subset n A B
disjoint_complement n {A} {B} d = record { all = λ i h a. out_complement n B h (d.all i h a) }

-- P and Q are two parts of A that share no entry and make up A
pub record Parts (n A P Q : ℕ) : Type 0 where
  pub left : Subset n P A
  pub right : Subset n Q A
  pub apart : Disjoint n P Q
  pub whole : (i : ℕ) → i < n → A ∋ i → (P ∋ i) ⊎ (Q ∋ i)

pub parts_size : {n A P Q : ℕ} → Parts n A P Q → size n P + size n Q ≡ size n A
parts_size {n} {A} {P} {Q} d = go n (omega arith)
  where
    bits : (i : ℕ) → i < n → (P ∋ i) ⊎ (P ∌ i) → (Q ∋ i) ⊎ (Q ∌ i) → (A ∋ i) ⊎ (A ∌ i) → P / 2 ^ i % 2 + Q / 2 ^ i % 2 ≡ A / 2 ^ i % 2
    bits i h (inl p) _ _ = omega (arith, d.left.all i h p, d.apart.all i h p)
    bits i h (inr p) (inl q) _ = omega (arith, d.right.all i h q)
    bits i h (inr p) (inr q) (inl a) = ⊎_elim (λ k. clash k p) (λ k. clash k q) (d.whole i h a)
    bits i h (inr p) (inr q) (inr a) = omega arith

    go : (m : ℕ) → m ≤ n → size m P + size m Q ≡ size m A
    go zero h = omega (arith, size_le 0 P, size_le 0 Q, size_le 0 A)
    go (suc m) h = omega (arith, size_suc m P, size_suc m Q, size_suc m A, go m (omega arith), bits m h (in_or_out P m) (in_or_out Q m) (in_or_out A m))

-- C divides A into what lies in C and what lies outside
pub divided : (n A C : ℕ) → Parts n A (common n A C) (common n A (complement n C))
divided n A C = record {
  left = record { all = λ i h k. (of_common n A C h k).0 };
  right = record { all = λ i h k. (of_common n A (complement n C) h k).0 };
  apart = record { all = λ i h k. out i h (of_common n A C h k).1 (in_or_out (common n A (complement n C)) i) };
  whole = λ i h a. at i h a (in_or_out C i);
}
  where
    out : (i : ℕ) → i < n → C ∋ i → (common n A (complement n C) ∋ i) ⊎ (common n A (complement n C) ∌ i) → common n A (complement n C) ∌ i
    out i h c (inl k) = clash c (of_complement n C h (of_common n A (complement n C) h k).1)
    out i h c (inr k) = k

    at : (i : ℕ) → i < n → A ∋ i → (C ∋ i) ⊎ (C ∌ i) → (common n A C ∋ i) ⊎ (common n A (complement n C) ∋ i)
    at i h a (inl c) = inl (in_common n A C h a c)
    at i h a (inr c) = inr (in_common n A (complement n C) h a (in_complement n C h c))
