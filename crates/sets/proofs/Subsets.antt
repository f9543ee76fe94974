-- Subsets by their sizes; the set without entries and the set of all; sets that share no entry.
use mathlib.Core.Path.{◌≡◌, refl, sym, ap, ◌∙◌, subst}
use mathlib.Core.Bool.{true}
use mathlib.Core.Logic.{◌⊎◌, inl, inr, ◌≢◌, ◌↔◌}
use Prim.Native.Nat.{ℕ, zero, suc, ◌+◌, ◌-◌, ◌/◌, ◌%◌, ◌^◌, ◌≤◌, ◌<◌, min}
use native.Mathlib.Decide.{ℕ_discrete}
use native.Mathlib.Nat.{zero-div}
use native.Mathlib.Omega.{arith}
use lib.Bits.{bit_and, and_step, and_shr, and_le_l}
use lib.Pow.{ones_split, ones_lt, high}
use Rattle.sets.specs.Sets.{◌∋◌, ◌∌◌, ◌∪◌, size, mask, all_entries, Subset, Disjoint}
use Rattle.sets.proofs.Sets.{in_or_out, clash, at_suc, same, size_suc, size_le, member_size, left_out, mask_lt, in_mask}
use Rattle.sets.proofs.Sets.{∪_left, ∪_right, ∪_cases, ∪_lt, subset_antisymm}

-- the same of one entry less
fewer : {n A B : ℕ} → Subset (suc n) A B → Subset n A B
fewer s = record { all = λ i h k. s.all i (omega arith) k }

pub subset_size : (n : ℕ) {A B : ℕ} → Subset n A B → size n A ≤ size n B
subset_size zero {A} {B} s = omega (arith, size_le 0 A)
subset_size (suc n) {A} {B} s = go (subset_size n (fewer s)) (in_or_out A n)
  where
    go : size n A ≤ size n B → (A ∋ n) ⊎ (A ∌ n) → size (suc n) A ≤ size (suc n) B
    go ih (inl k) = omega (arith, size_suc n A, size_suc n B, (s.all n (omega arith) k).bit)
    go ih (inr k) = omega (arith, size_suc n A, size_suc n B)

-- an entry of B outside A makes B larger
subset_larger : (n : ℕ) {A B : ℕ} → Subset n A B → (i : ℕ) → i < n → B ∋ i → A ∌ i → size n A < size n B
subset_larger zero s i h b a = absurd (omega arith)
subset_larger (suc n) {A} {B} s i h b a = go (λ l. subset_larger n (fewer s) i l b a) (ℕ_discrete i n) (in_or_out A n)
  where
    go : (i < n → size n A < size n B) → Dec (i ≡ n) → (A ∋ n) ⊎ (A ∌ n) → size (suc n) A < size (suc n) B
    go ih (yes e) _ =
        let b' : B ∋ n = subst (λ (j : ℕ). B ∋ j) e b in
        let a' : A ∌ n = subst (λ (j : ℕ). A ∌ j) e a in
        omega (arith, size_suc n A, size_suc n B, subset_size n (fewer s))
    go ih (no f) (inl k) = omega (arith, size_suc n A, size_suc n B, (s.all n (omega arith) k).bit, ih (omega arith))
    go ih (no f) (inr k) = omega (arith, size_suc n A, size_suc n B, ih (omega arith))

module _ (n : ℕ) {A B : ℕ} (low-a : A < 2 ^ n) (low-b : B < 2 ^ n) (sub : Subset n A B) where
  pub strict_size : A ≢ B → size n A < size n B
  strict_size d = let (i, h, b, a) = left_out n B A low-b low-a d sub in subset_larger n sub i h b a

  pub subset_equal : size n B ≤ size n A → A ≡ B
  subset_equal h = go (ℕ_discrete A B)
    where
      go : Dec (A ≡ B) → A ≡ B
      go (yes e) = e
      go (no d) = absurd (omega (arith, strict_size d))

pub empty_out : (i : ℕ) → 0 ∌ i
empty_out i = record { bit = ap (λ (x : ℕ). x % 2) (zero-div (2 ^ i)) }

pub all_entries_in : (n : ℕ) {i : ℕ} → i < n → all_entries n ∋ i
unfolding all_entries
all_entries_in n h = in_mask n (λ i. true) h tt

pub all_entries_lt : (n : ℕ) → all_entries n < 2 ^ n
unfolding all_entries
all_entries_lt n = mask_lt n (λ i. true)

-- as a number it is 2 to the power n, less 1
pub all_entries_number : (n : ℕ) → suc (all_entries n) ≡ 2 ^ n
unfolding all_entries mask
all_entries_number zero = refl
all_entries_number (suc n) = let e = all_entries_number n in omega arith

-- of the w binary digits 1 the upper n, moved down
pub all_entries_shift : (n w : ℕ) → n ≤ w → (2 ^ w - 1) / 2 ^ (w - n) ≡ all_entries n
all_entries_shift n w h =
    ap (λ (k : ℕ). (2 ^ k - 1) / 2 ^ (w - n)) whole
    ∙ ap (λ (a : ℕ). a / 2 ^ (w - n)) (ones_split n (w - n))
    ∙ high (2 ^ n - 1) (w - n) (ones_lt (w - n))
    ∙ number
  where
    whole : w ≡ n + (w - n)
    whole = omega arith

    number : 2 ^ n - 1 ≡ all_entries n
    number = omega (arith, all_entries_number n)

-- two sets share no entry exactly if their bits meet nowhere
and_bit : (A B i : ℕ) → bit_and A B / 2 ^ i % 2 ≡ min (A / 2 ^ i % 2) (B / 2 ^ i % 2)
and_bit A B i = rw and_shr (omega (arith, and_step (A / 2 ^ i) (B / 2 ^ i)))

pub disjoint_and : (n A B : ℕ) → A < 2 ^ n → (bit_and A B ≡ 0) ↔ Disjoint n A B
disjoint_and n A B h = (
  λ e. record { all = λ i _ k. record { bit = omega (arith, and_bit A B i, k.bit, ap (λ (x : ℕ). x / 2 ^ i % 2) e, zero i) } },
  λ d. same n (bit_and A B) 0 (omega (arith, and_le_l A B)) (omega arith) (λ i hi. at i (in_or_out A i) (λ k. d.all i hi k)),
)
  where
    zero : (i : ℕ) → 0 / 2 ^ i % 2 ≡ 0
    zero i = ap (λ (x : ℕ). x % 2) (zero-div (2 ^ i))

    at : (i : ℕ) → (A ∋ i) ⊎ (A ∌ i) → (A ∋ i → B ∌ i) → bit_and A B / 2 ^ i % 2 ≡ 0 / 2 ^ i % 2
    at i (inl k) f = omega (arith, and_bit A B i, (f k).bit, zero i)
    at i (inr k) f = omega (arith, and_bit A B i, zero i)

-- a number below 2 ^ n is a set of the n entries, and only such a one
bound : (n : ℕ) → n < 2 ^ n
bound zero = omega arith
bound (suc n) = omega (arith, bound n)

pub fits_members : (n A : ℕ) → A < 2 ^ n → (i : ℕ) → A ∋ i → i < n
fits_members zero A h i k = let none : A ≡ 0 = omega arith in clash k (subst (λ (A : ℕ). A ∌ i) (sym none) (empty_out i))
fits_members (suc n) A h zero k = omega arith
fits_members (suc n) A h (suc i) k = let l = fits_members n (A / 2) (omega arith) i (record { bit = sym (at_suc A i) ∙ k.bit }) in omega arith

pub members_fit : (n A : ℕ) → ((i : ℕ) → A ∋ i → i < n) → A < 2 ^ n
members_fit zero A f = go (ℕ_discrete 0 A)
  where
    go : Dec (0 ≡ A) → A < 2 ^ 0
    go (yes e) = omega arith
    go (no d) = let (i, _, k, _) = left_out A A 0 (bound A) (omega (arith, bound A)) d (record { all = λ i h m. clash m (empty_out i) }) in absurd (omega (arith, f i k))
members_fit (suc n) A f =
    let h = members_fit n (A / 2) (λ i k. let l = f (suc i) (record { bit = at_suc A i ∙ k.bit }) in omega arith) in omega arith

-- two members
pub two_size : (n A : ℕ) {i j : ℕ} → i < n → j < i → A ∋ i → A ∋ j → 2 ≤ size n A
two_size zero A h l ki kj = absurd (omega arith)
two_size (suc n) A {i} {j} h l ki kj = go (ℕ_discrete i n) (λ h. two_size n A {i = i} {j = j} h)
  where
    go : Dec (i ≡ n) → (i < n → j < i → A ∋ i → A ∋ j → 2 ≤ size n A) → 2 ≤ size (suc n) A
    go (yes e) ih = let k = subst (λ (i : ℕ). A ∋ i) e ki in omega (arith, size_suc n A, member_size n A {i = j} (omega arith) kj, k.bit)
    go (no d) ih = omega (arith, size_suc n A, ih (omega arith) l ki kj)

-- a set is inside another exactly if their union is the other
pub subset_∪ : (n A B : ℕ) → A < 2 ^ n → B < 2 ^ n → Subset n A B ↔ (A ∪ B ≡ B)
subset_∪ n A B ha hb = (
  λ s. subset_antisymm n (A ∪ B) B (∪_lt n ha hb) hb (record { all = λ i h k. at s i h (∪_cases A B k) }) (record { all = λ i _ k. ∪_right A B k }),
  λ e. record { all = λ i _ k. subst (λ (X : ℕ). X ∋ i) e (∪_left A B k) },
)
  where
    at : Subset n A B → (i : ℕ) → i < n → (A ∋ i) ⊎ (B ∋ i) → B ∋ i
    at s i h (inl k) = s.all i h k
    at s i h (inr k) = k
