-- Laws of sets of entries: members, unions, sizes.
use mathlib.Core.Path.{◌≡◌, refl, sym, ap, ◌∙◌, subst}
use mathlib.Core.Bool.{Bool, true, false, not, cond, ◌&&◌, not-not}
use mathlib.Core.Logic.{◌⊎◌, inl, inr, ◌≢◌}
use mathlib.Core.List.{[], ◌∷◌, ◌++◌}
use Prim.Native.Nat.{ℕ, zero, suc, ◌+◌, ◌*◌, ◌/◌, ◌%◌, ◌^◌, ◌≤◌, ◌<◌, max, min}
use native.Mathlib.Nat.{div-one, div_self, zero-div, div-div-eq-div-mul, pow-succ'}
use native.Mathlib.Decide.{ℕ_discrete}
use native.Mathlib.Omega.{arith}
use lib.Pow.{pow_pos}
use lib.Bits.{bit_and, or_step, and_step, and_le_l, or_shr, or_lt, or_disjoint}
use lib.Dec.{T, eqb, eqb→eq, T_not}
use lib.ListN.{length, length-append}
use Rattle.lists.specs.Lists.{◌∈◌, below, keep, Distinct}
use Rattle.lists.proofs.Tests.{and_T, T_and}
use Rattle.lists.proofs.Lists.{keep_more, keep_same, below_lt, lt_below, in_keep, of_keep, keep_yes, keep_no, keep_append, keep_cong, some_length, length_some}
use Rattle.lists.proofs.Distinct.{distinct_keep, distinct_below}
use Rattle.sets.specs.Sets.{has, ◌∋◌, ◌∌◌, members, others, size, ◌∪◌, mask, complement, difference, Subset}

pub has_yes : (A i : ℕ) → T (has A i) → A ∋ i
unfolding has
has_yes A i t = record { bit = eqb→eq (A / 2 ^ i % 2) 1 t }

pub yes_has : (A i : ℕ) → A ∋ i → T (has A i)
unfolding has
yes_has A i h = subst (λ (b : ℕ). T (eqb b 1)) (sym h.bit) tt

pub has_no : (A i : ℕ) → T (not (has A i)) → A ∌ i
unfolding has
has_no A i t = let k : A / 2 ^ i % 2 ≢ 1 = λ e. T_not (eqb (A / 2 ^ i % 2) 1) t (subst (λ (b : ℕ). T (eqb b 1)) (sym e) tt) in omega arith

pub no_has : (A i : ℕ) → A ∌ i → T (not (has A i))
unfolding has
no_has A i h = subst (λ (b : ℕ). T (not (eqb b 1))) (sym h.bit) tt

pub in_or_out : (A i : ℕ) → (A ∋ i) ⊎ (A ∌ i)
in_or_out A i = go (ℕ_discrete (A / 2 ^ i % 2) 1)
  where
    go : Dec (A / 2 ^ i % 2 ≡ 1) → (A ∋ i) ⊎ (A ∌ i)
    go (yes e) = inl (record { bit = e })
    go (no f) = inr (omega arith)

pub clash {ℓ} : {X : Type ℓ} {A i : ℕ} → A ∋ i → A ∌ i → X
clash h k = absurd (omega arith)

-- the set below 2 ^ (suc n) by its lowest bit and the rest
pub at_zero : (A : ℕ) → A / 2 ^ 0 % 2 ≡ A % 2
at_zero A = ap (λ (x : ℕ). x % 2) (div-one A)

pub at_suc : (A i : ℕ) → A / 2 ^ suc i % 2 ≡ A / 2 / 2 ^ i % 2
at_suc A i = ap (λ (x : ℕ). x % 2) (ap (λ (p : ℕ). A / p) (pow-succ' 2 i) ∙ sym (div-div-eq-div-mul A 2 (2 ^ i)))

-- two sets of n entries with the same members are one
pub same : (n A B : ℕ) → A < 2 ^ n → B < 2 ^ n → ((i : ℕ) → i < n → A / 2 ^ i % 2 ≡ B / 2 ^ i % 2) → A ≡ B
same zero A B h k e = omega arith
same (suc n) A B h k e =
    let e₀ : A % 2 ≡ B % 2 = sym (at_zero A) ∙ e 0 (omega arith) ∙ at_zero B in
    let e₁ : A / 2 ≡ B / 2 = same n (A / 2) (B / 2) (omega arith) (omega arith) (λ i l. sym (at_suc A i) ∙ e (suc i) (omega arith) ∙ at_suc B i) in
    omega arith

pub or_bit : (A B i : ℕ) → (A ∪ B) / 2 ^ i % 2 ≡ max (A / 2 ^ i % 2) (B / 2 ^ i % 2)
unfolding ◌∪◌
or_bit A B i = rw or_shr (omega (arith, or_step (A / 2 ^ i) (B / 2 ^ i)))

pub ∪_left : (A B : ℕ) {i : ℕ} → A ∋ i → (A ∪ B) ∋ i
∪_left A B {i} h = omega (arith, or_bit A B i)

pub ∪_right : (A B : ℕ) {i : ℕ} → B ∋ i → (A ∪ B) ∋ i
∪_right A B {i} h = omega (arith, or_bit A B i)

pub ∪_cases : (A B : ℕ) {i : ℕ} → (A ∪ B) ∋ i → (A ∋ i) ⊎ (B ∋ i)
∪_cases A B {i} h = go (in_or_out A i)
  where
    go : (A ∋ i) ⊎ (A ∌ i) → (A ∋ i) ⊎ (B ∋ i)
    go (inl k) = inl k
    go (inr k) = inr (omega (arith, or_bit A B i))

pub ∪_lt : (n : ℕ) {A B : ℕ} → A < 2 ^ n → B < 2 ^ n → (A ∪ B) < 2 ^ n
unfolding ◌∪◌
∪_lt n {A} {B} h k = or_lt n A B h k

pub in_members : (n A : ℕ) {i : ℕ} → i < n → A ∋ i → i ∈ members n A
unfolding members
in_members n A {i} h k = in_keep (has A) (lt_below n i h) (yes_has A i k)

pub of_members : (n A : ℕ) {i : ℕ} → i ∈ members n A → (i < n) × (A ∋ i)
unfolding members
of_members n A {i} m = let r = of_keep (has A) (below n) m in (below_lt n r.0, has_yes A i r.1)

pub in_others : (n A : ℕ) {i : ℕ} → i < n → A ∌ i → i ∈ others n A
unfolding others
in_others n A {i} h k = in_keep (λ i. not (has A i)) (lt_below n i h) (no_has A i k)

pub of_others : (n A : ℕ) {i : ℕ} → i ∈ others n A → (i < n) × (A ∌ i)
unfolding others
of_others n A {i} m = let r = of_keep (λ i. not (has A i)) (below n) m in (below_lt n r.0, has_no A i r.1)

pub members_distinct : (n A : ℕ) → Distinct (members n A)
unfolding members
members_distinct n A = distinct_keep (has A) (below n) (distinct_below n)

pub others_distinct : (n A : ℕ) → Distinct (others n A)
unfolding others
others_distinct n A = distinct_keep (λ i. not (has A i)) (below n) (distinct_below n)

-- {i} has the one member i
pub one_in : (i : ℕ) → (2 ^ i) ∋ i
one_in i = record { bit = ap (λ (x : ℕ). x % 2) (div_self (pow_pos i)) }

pub one_only : (i : ℕ) {j : ℕ} → (2 ^ i) ∋ j → j ≡ i
one_only zero {j = zero} h = refl
one_only zero {j = suc j} h = absurd (omega (arith, sym h.bit ∙ at_suc 1 j ∙ ap (λ (x : ℕ). x % 2) (zero-div (2 ^ j))))
one_only (suc i) {j = zero} h = absurd (omega (arith, at_zero (2 ^ suc i)))
one_only (suc i) {j = suc j} h =
    let e : 2 ^ suc i / 2 ≡ 2 ^ i = omega arith in
    let k : (2 ^ i) ∋ j = record { bit = ap (λ (x : ℕ). x / 2 ^ j % 2) (sym e) ∙ sym (at_suc (2 ^ suc i) j) ∙ h.bit } in
    ap suc (one_only i k)

-- the union of two sets that share no entry is their sum
pub ∪_sum : (n A B : ℕ) → A < 2 ^ n → B < 2 ^ n → ((i : ℕ) → i < n → A ∋ i → B ∌ i) → A ∪ B ≡ A + B
unfolding ◌∪◌
∪_sum n A B ha hb h = or_disjoint A B (none n A B ha hb h)
  where
    none : (n A B : ℕ) → A < 2 ^ n → B < 2 ^ n → ((i : ℕ) → i < n → A ∋ i → B ∌ i) → bit_and A B ≡ 0
    none zero A B ha hb h = omega (arith, and_le_l A B)
    none (suc n) A B ha hb h =
        let e : bit_and (A / 2) (B / 2) ≡ 0 = none n (A / 2) (B / 2) (omega arith) (omega arith) (λ i l k.
        let d : A ∋ suc i = record { bit = at_suc A i ∙ k.bit } in
        record { bit = sym (at_suc B i) ∙ (h (suc i) (omega arith) d).bit }) in
        omega (arith, and_step A B, e, at_zero A, at_zero B, low (in_or_out A 0))
      where
        low : (A ∋ 0) ⊎ (A ∌ 0) → min (A % 2) (B % 2) ≡ 0
        low (inl k) = omega (arith, at_zero B, (h 0 (omega arith) k).bit)
        low (inr k) = omega (arith, at_zero A)

-- one entry more
pub size_suc : (n A : ℕ) → size (suc n) A ≡ size n A + A / 2 ^ n % 2
unfolding size members below keep
size_suc n A =
    ap length (keep_append (has A) (below n) (n ∷ [])) ∙ length-append (members n A) (keep (has A) (n ∷ []))
    ∙ ap (λ (x : ℕ). length (members n A) + x) (last (in_or_out A n))
  where
    last : (A ∋ n) ⊎ (A ∌ n) → length (keep (has A) (n ∷ [])) ≡ A / 2 ^ n % 2
    last (inl k) = ap length (keep_yes (has A) n [] (yes_has A n k)) ∙ sym k.bit
    last (inr k) = ap length (keep_no (has A) n [] (no_has A n k)) ∙ sym k.bit

pub size_∪ : (n A B : ℕ) → ((i : ℕ) → i < n → A ∋ i → B ∌ i) → size n (A ∪ B) ≡ size n A + size n B
unfolding size members below keep
size_∪ zero A B h = refl
size_∪ (suc n) A B h =
    let e = size_∪ n A B (λ i l. h i (omega arith)) in
    omega (arith, size_suc n (A ∪ B), size_suc n A, size_suc n B, e, last (in_or_out A n))
  where
    last : (A ∋ n) ⊎ (A ∌ n) → (A ∪ B) / 2 ^ n % 2 ≡ A / 2 ^ n % 2 + B / 2 ^ n % 2
    last (inl k) = omega (arith, or_bit A B n, (h n (omega arith) k).bit)
    last (inr k) = omega (arith, or_bit A B n)

pub mask_lt : (n : ℕ) (p : ℕ → Bool) → mask n p < 2 ^ n
unfolding mask
mask_lt zero p = omega arith
mask_lt (suc n) p = go (p 0) (mask_lt n (λ i. p (suc i)))
  where
    go : (b : Bool) → mask n (λ i. p (suc i)) < 2 ^ n → cond b 1 0 + 2 * mask n (λ i. p (suc i)) < 2 ^ suc n
    go true h = omega arith
    go false h = omega arith

pub mask_has : (n : ℕ) (p : ℕ → Bool) (i : ℕ) → i < n → has (mask n p) i ≡ p i
unfolding mask has
mask_has zero p i h = absurd (omega arith)
mask_has (suc n) p zero h = ap (λ (x : ℕ). eqb x 1) (at_zero (cond (p 0) 1 0 + 2 * mask n (λ i. p (suc i)))) ∙ go (p 0)
  where
    go : (b : Bool) → eqb ((cond b 1 0 + 2 * mask n (λ i. p (suc i))) % 2) 1 ≡ b
    go true = ap {B = Bool} (λ (x : ℕ). eqb x 1) {x = (1 + 2 * mask n (λ i. p (suc i))) % 2} {y = 1} (omega arith)
    go false = ap {B = Bool} (λ (x : ℕ). eqb x 1) {x = (0 + 2 * mask n (λ i. p (suc i))) % 2} {y = 0} (omega arith)
mask_has (suc n) p (suc i) h =
    ap (λ (x : ℕ). eqb x 1) (at_suc (cond (p 0) 1 0 + 2 * mask n (λ i. p (suc i))) i)
    ∙ ap (λ (x : ℕ). eqb (x / 2 ^ i % 2) 1) (go (p 0)) ∙ mask_has n (λ i. p (suc i)) i (omega arith)
  where
    go : (b : Bool) → (cond b 1 0 + 2 * mask n (λ i. p (suc i))) / 2 ≡ mask n (λ i. p (suc i))
    go true = omega arith
    go false = omega arith

pub size_le : (n A : ℕ) → size n A ≤ n
unfolding size members below keep
size_le zero A = omega arith
size_le (suc n) A = omega (arith, size_suc n A, size_le n A)

-- a member for a size of 1 or more, and the other way round
pub member_size : (n A : ℕ) {i : ℕ} → i < n → A ∋ i → 1 ≤ size n A
unfolding size
member_size n A h k = some_length (members n A) (in_members n A h k)

pub size_member : (n A : ℕ) → 1 ≤ size n A → (i : ℕ) × (i < n) × (A ∋ i)
unfolding size
size_member n A h = let (i, m) = length_some (members n A) h in let (l, k) = of_members n A m in (i, l, k)

-- the members of a set by a test, of a complement and of a difference
pub in_mask : (n : ℕ) (p : ℕ → Bool) {i : ℕ} → i < n → T (p i) → mask n p ∋ i
in_mask n p {i} h t = has_yes (mask n p) i (subst (λ b. T b) (sym (mask_has n p i h)) t)

pub of_mask : (n : ℕ) (p : ℕ → Bool) {i : ℕ} → i < n → mask n p ∋ i → T (p i)
of_mask n p {i} h k = subst (λ b. T b) (mask_has n p i h) (yes_has (mask n p) i k)

pub complement_lt : (n A : ℕ) → complement n A < 2 ^ n
unfolding complement
complement_lt n A = mask_lt n (λ i. not (has A i))

pub in_complement : (n A : ℕ) {i : ℕ} → i < n → A ∌ i → complement n A ∋ i
unfolding complement
in_complement n A {i} h k = in_mask n (λ i. not (has A i)) h (no_has A i k)

pub of_complement : (n A : ℕ) {i : ℕ} → i < n → complement n A ∋ i → A ∌ i
unfolding complement
of_complement n A {i} h k = has_no A i (of_mask n (λ i. not (has A i)) h k)

pub not_complement : (n A : ℕ) {i : ℕ} → i < n → A ∋ i → complement n A ∌ i
not_complement n A {i} h k = go (in_or_out (complement n A) i)
  where
    go : (complement n A ∋ i) ⊎ (complement n A ∌ i) → complement n A ∌ i
    go (inl c) = clash k (of_complement n A h c)
    go (inr c) = c

pub out_complement : (n A : ℕ) {i : ℕ} → i < n → complement n A ∌ i → A ∋ i
out_complement n A {i} h k = go (in_or_out A i)
  where
    go : (A ∋ i) ⊎ (A ∌ i) → A ∋ i
    go (inl c) = c
    go (inr c) = clash (in_complement n A h c) k

-- the members of a complement are the entries outside, and the other way round: those below any m up to n
pub complement_has : (n A : ℕ) {i : ℕ} → i < n → has (complement n A) i ≡ not (has A i)
unfolding complement
complement_has n A {i} h = mask_has n (λ i. not (has A i)) i h

pub members_complement : (n A m : ℕ) → m ≤ n → members m (complement n A) ≡ others m A
unfolding members others
members_complement n A m h = keep_cong (has (complement n A)) (λ i. not (has A i)) (below m) (λ i k. complement_has n A (omega (arith, below_lt m k)))

pub others_complement : (n A m : ℕ) → m ≤ n → others m (complement n A) ≡ members m A
unfolding members others
others_complement n A m h =
    keep_cong (λ i. not (has (complement n A) i)) (has A) (below m) (λ i k. ap not (complement_has n A (omega (arith, below_lt m k))) ∙ not-not (has A i))

pub difference_lt : (n A B : ℕ) → difference n A B < 2 ^ n
unfolding difference
difference_lt n A B = mask_lt n (λ i. has A i && not (has B i))

pub in_difference : (n A B : ℕ) {i : ℕ} → i < n → A ∋ i → B ∌ i → difference n A B ∋ i
unfolding difference
in_difference n A B {i} h k l = in_mask n (λ i. has A i && not (has B i)) h (T_and (has A i) (not (has B i)) (yes_has A i k) (no_has B i l))

pub of_difference : (n A B : ℕ) {i : ℕ} → i < n → difference n A B ∋ i → (A ∋ i) × (B ∌ i)
unfolding difference
of_difference n A B {i} h k = let r = and_T (has A i) (not (has B i)) (of_mask n (λ i. has A i && not (has B i)) h k) in (has_yes A i r.0, has_no B i r.1)

-- a member of A that is not in U, or there is none
pub find : (n A U : ℕ) → ((i : ℕ) × (i < n) × (A ∋ i) × (U ∌ i)) ⊎ Subset n A U
find zero A U = inr (record { all = λ i h k. absurd (omega arith) })
find (suc n) A U = go (find n A U) (in_or_out A n) (in_or_out U n)
  where
    last : Subset n A U → (A ∋ n → U ∋ n) → Subset (suc n) A U
    last r f = record { all = λ i h k. at i h k (ℕ_discrete i n) }
      where
        at : (i : ℕ) → i < suc n → A ∋ i → Dec (i ≡ n) → U ∋ i
        at i h k (yes e) = subst (λ (j : ℕ). U ∋ j) (sym e) (f (subst (λ (j : ℕ). A ∋ j) e k))
        at i h k (no g) = r.all i (omega arith) k

    go : ((i : ℕ) × (i < n) × (A ∋ i) × (U ∌ i)) ⊎ Subset n A U → (A ∋ n) ⊎ (A ∌ n) → (U ∋ n) ⊎ (U ∌ n)
        → ((i : ℕ) × (i < suc n) × (A ∋ i) × (U ∌ i)) ⊎ Subset (suc n) A U
    go (inl r) _ _ = inl (r.0, omega arith, r.2, r.3)
    go (inr r) (inl h) (inl k) = inr (last r (λ _. k))
    go (inr r) (inl h) (inr k) = inl (n, omega arith, h, k)
    go (inr r) (inr h) _ = inr (last r (λ t. clash t h))

-- a set inside A that is not A leaves a member out
pub left_out : (n A U : ℕ) → A < 2 ^ n → U < 2 ^ n → U ≢ A → Subset n U A → (i : ℕ) × (i < n) × (A ∋ i) × (U ∌ i)
left_out n A U ha hu ne ins = go (find n A U)
  where
    bits : Subset n A U → (i : ℕ) → i < n → U / 2 ^ i % 2 ≡ A / 2 ^ i % 2
    bits r i h = at (in_or_out U i) (in_or_out A i)
      where
        at : (U ∋ i) ⊎ (U ∌ i) → (A ∋ i) ⊎ (A ∌ i) → U / 2 ^ i % 2 ≡ A / 2 ^ i % 2
        at (inl p) (inl q) = omega arith
        at (inl p) (inr q) = clash (ins.all i h p) q
        at (inr p) (inl q) = clash (r.all i h q) p
        at (inr p) (inr q) = omega arith

    go : ((i : ℕ) × (i < n) × (A ∋ i) × (U ∌ i)) ⊎ Subset n A U → (i : ℕ) × (i < n) × (A ∋ i) × (U ∌ i)
    go (inl r) = r
    go (inr r) = absurd (ne (same n U A hu ha (bits r)))

pub one_out : (i j : ℕ) → i ≢ j → (2 ^ i) ∌ j
one_out i j ne = go (in_or_out (2 ^ i) j)
  where
    go : ((2 ^ i) ∋ j) ⊎ ((2 ^ i) ∌ j) → (2 ^ i) ∌ j
    go (inl k) = absurd (ne (sym (one_only i k)))
    go (inr k) = k

-- an entry outside for a size of less than n, and the other way round
pub size_less : (n A : ℕ) → size n A < n → (x : ℕ) × (x < n) × (A ∌ x)
size_less zero A h = absurd (omega arith)
size_less (suc n) A h = go (in_or_out A n) (size_less n A)
  where
    go : (A ∋ n) ⊎ (A ∌ n) → (size n A < n → (x : ℕ) × (x < n) × (A ∌ x)) → (x : ℕ) × (x < suc n) × (A ∌ x)
    go (inl k) ih = let (x, l, out) = ih (omega (arith, size_suc n A)) in (x, omega arith, out)
    go (inr k) ih = (n, omega arith, k)

pub less_size : (n A : ℕ) {x : ℕ} → x < n → A ∌ x → size n A < n
less_size zero A h k = absurd (omega arith)
less_size (suc n) A {x} h k = go (ℕ_discrete x n) (λ l. less_size n A l k)
  where
    go : Dec (x ≡ n) → (x < n → size n A < n) → size (suc n) A < suc n
    go (yes e) ih = let last : A ∌ n = subst (λ (j : ℕ). A ∌ j) e k in omega (arith, size_suc n A, size_le n A)
    go (no f) ih = omega (arith, size_suc n A, ih (omega arith))

-- a single entry is one member
pub size_single : (n i : ℕ) → size n (2 ^ i) ≤ 1
size_single n i = (at n).0
  where
    at : (n : ℕ) → (size n (2 ^ i) ≤ 1) × (n ≤ i → size n (2 ^ i) ≡ 0)
    at zero = (omega (arith, size_le 0 (2 ^ i)), λ h. omega (arith, size_le 0 (2 ^ i)))
    at (suc n) = go (at n) (ℕ_discrete i n)
      where
        go : (size n (2 ^ i) ≤ 1) × (n ≤ i → size n (2 ^ i) ≡ 0) → Dec (i ≡ n) → (size (suc n) (2 ^ i) ≤ 1) × (suc n ≤ i → size (suc n) (2 ^ i) ≡ 0)
        go (a, b) (yes e) = (omega (arith, size_suc n (2 ^ i), b (omega arith)), λ h. absurd (omega arith))
        go (a, b) (no d) = (omega (arith, size_suc n (2 ^ i), one_out i n d), λ h. omega (arith, size_suc n (2 ^ i), one_out i n d, b (omega arith)))

-- the members below n + 1, with n in A and without
pub members_with : (n A : ℕ) → A ∋ n → members (suc n) A ≡ members n A ++ (n ∷ [])
unfolding members
members_with n A k = keep_more (has A) n (yes_has A n k)

pub members_without : (n A : ℕ) → A ∌ n → members (suc n) A ≡ members n A
unfolding members
members_without n A k = keep_same (has A) n (no_has A n k)

pub subset_antisymm : (n A B : ℕ) → A < 2 ^ n → B < 2 ^ n → Subset n A B → Subset n B A → A ≡ B
subset_antisymm n A B ha hb p q = go (ℕ_discrete A B)
  where
    go : Dec (A ≡ B) → A ≡ B
    go (yes e) = e
    go (no d) = let (i, h, k, o) = left_out n B A hb ha d p in clash (q.all i h k) o

pub not_difference : (n A B : ℕ) {i : ℕ} → i < n → B ∋ i → difference n A B ∌ i
not_difference n A B {i} h k = go (in_or_out (difference n A B) i)
  where
    go : (difference n A B ∋ i) ⊎ (difference n A B ∌ i) → difference n A B ∌ i
    go (inl c) = clash k (of_difference n A B h c).1
    go (inr c) = c

pub out_difference : (n A B : ℕ) {i : ℕ} → i < n → A ∋ i → difference n A B ∌ i → B ∋ i
out_difference n A B {i} h a k = go (in_or_out B i)
  where
    go : (B ∋ i) ⊎ (B ∌ i) → B ∋ i
    go (inl c) = c
    go (inr c) = clash (in_difference n A B h a c) k

-- a set and its complement make up all entries
pub size_complement : (n A : ℕ) → size n (complement n A) + size n A ≡ n
size_complement n A = go n (omega arith)
  where
    bit_sum : (i : ℕ) → i < n → (A ∋ i) ⊎ (A ∌ i) → complement n A / 2 ^ i % 2 + A / 2 ^ i % 2 ≡ 1
    bit_sum i h (inl k) = omega (arith, not_complement n A h k)
    bit_sum i h (inr k) = omega (arith, in_complement n A h k)

    go : (m : ℕ) → m ≤ n → size m (complement n A) + size m A ≡ m
    go zero h = omega (arith, size_le 0 (complement n A), size_le 0 A)
    go (suc m) h = omega (arith, size_suc m (complement n A), size_suc m A, go m (omega arith), bit_sum m h (in_or_out A m))
