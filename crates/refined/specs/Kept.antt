-- The code's own vocabulary, which nobody need believe: the distances in a table, and the smallest doubled scores of a
-- split's quartets, kept one by one.
use Rattle.std.specs.Prelude.{◌≡◌, ℕ, ◌+◌, ◌*◌, ◌^◌, ◌≤◌, ◌<◌, ℤ, length, get_or, take}
use mathlib.Core.List.{List, foldl}
use Rattle.lists.specs.Lists.{below}
use Rattle.integers.specs.Range.{Within, Bounded}
use Rattle.sets.specs.Sets.{size, members}
use Rattle.smallest.specs.Smallest.{kept_with}
use Rattle.clusters.specs.PairList.{Similarity, row_start}
use Rattle.clusters.specs.Refined.{quartet, doubled_score}
use Rattle.links.specs.Table.{entry}

-- what a weight asks: the distances of up to 32 entries, and a split with two of them or more on each side
abbrev pub Weighable : ℕ → List ℤ → ℕ → Type 0
Weighable n l A = (n ≤ 32) × (length l ≡ row_start n) × Bounded (2 ^ 22) l × (2 ≤ size n A) × (size n A + 2 ≤ n)

-- a table of rows of 32 with the distances of n entries, which are far from the machine's limits
pub record DistanceTable (n : ℕ) (t : List ℤ) : Type 0 where
  pub few : n ≤ 32
  pub size : n * 32 ≤ length t
  pub small : (a b : ℕ) → a < n → b < n → Within (2 ^ 22) (entry t a b)

-- a list of entries
abbrev pub Below : ℕ → List ℕ → Type 0
Below n l = (i : ℕ) → i < length l → get_or l i 0 < n

-- the smallest of the numbers kept and the doubled scores of the quartets aa'|bb', as many as were kept: b' in a
-- list; b in the list of those outside A, b' before it; a' in A before a; a in A
unfoldable pub keep_beside : Similarity → ℕ → ℕ → ℕ → List ℕ → List ℤ → List ℤ
keep_beside d a a' b before kept = foldl (λ l b'. kept_with l (doubled_score d (quartet (a, a') (b, b')))) kept before

unfoldable pub keep_across : Similarity → ℕ → ℕ → List ℕ → List ℤ → List ℤ
keep_across d a a' outside kept =
    foldl (λ l i. keep_beside d a a' (get_or outside i 0) (take i outside) l) kept (below (length outside))

unfoldable pub keep_within : Similarity → ℕ → List ℕ → ℕ → List ℤ → List ℤ
keep_within d A outside a kept = foldl (λ l a'. keep_across d a a' outside l) kept (members a A)

unfoldable pub keep_quartets : Similarity → ℕ → ℕ → List ℕ → List ℤ → List ℤ
keep_quartets d n A outside kept = foldl (λ l a. keep_within d A outside a l) kept (members n A)
