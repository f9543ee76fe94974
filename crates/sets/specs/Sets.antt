-- Sets of the entries 0 .. n − 1, written as numbers: "entry i, counted from 0, weighs 2 to the power i" (What is
-- written). A set A of the n entries is a number A < 2 ^ n.
use Rattle.std.specs.Prelude.{◌≡◌, Bool, true, not, cond, ◌&&◌, List, ◌⊎◌, ℕ, zero, suc, ◌+◌, ◌*◌, ◌/◌, ◌%◌, ◌^◌, ◌<◌}
use Rattle.std.specs.Prelude.{eqb, length}
use Rattle.std.specs.Int.Bits.{bit_or}
use Rattle.lists.specs.Lists.{below, keep}

-- entry i is in A; the test computes, the two records are read by `omega`
unfoldable pub has : ℕ → ℕ → Bool
has A i = eqb (A / 2 ^ i % 2) 1

infix 50 ◌∋◌ ◌∌◌
pub record ◌∋◌ (A i : ℕ) : Type 0 where
  pub bit : A / 2 ^ i % 2 ≡ 1

pub record ◌∌◌ (A i : ℕ) : Type 0 where
  pub bit : A / 2 ^ i % 2 ≡ 0

-- the entries in A, and those outside A, rising
unfoldable pub members : ℕ → ℕ → List ℕ
members n A = keep (has A) (below n)

unfoldable pub others : ℕ → ℕ → List ℕ
others n A = keep (λ i. not (has A i)) (below n)

-- |A|
unfoldable pub size : ℕ → ℕ → ℕ
size n A = length (members n A)

-- the union of two sets
infixl 60 ◌∪◌
unfoldable pub ◌∪◌ : ℕ → ℕ → ℕ
A ∪ B = bit_or A B

-- the set of the entries below n that pass a test
unfoldable pub mask : ℕ → (ℕ → Bool) → ℕ
mask zero p = 0
mask (suc n) p = cond (p 0) 1 0 + 2 * mask n (λ i. p (suc i))

-- X, all n entries
unfoldable pub all_entries : ℕ → ℕ
all_entries n = mask n (λ i. true)

-- the entries outside A, and those of A that are not in B
unfoldable pub complement : ℕ → ℕ → ℕ
complement n A = mask n (λ i. not (has A i))

unfoldable pub difference : ℕ → ℕ → ℕ → ℕ
difference n A B = mask n (λ i. has A i && not (has B i))

-- B holds every entry of A; A and B share none
pub record Subset (n A B : ℕ) : Type 0 where
  pub all : (i : ℕ) → i < n → A ∋ i → B ∋ i

pub record Disjoint (n A B : ℕ) : Type 0 where
  pub all : (i : ℕ) → i < n → A ∋ i → B ∌ i

-- "Two sets are nested if one holds every entry of the other"
abbrev pub Nested : ℕ → ℕ → ℕ → Type 0
Nested n A B = Subset n A B ⊎ Subset n B A
