-- Reordering (document 01, Definitions).
use Rattle.std.specs.Prelude.{◌≡◌, ℕ, ◌<◌}
use Rattle.sets.specs.Sets.{has, mask}
use Rattle.clusters.specs.PairList.{Similarity}

-- "gives the entries the numbers 0 to n − 1 anew, each once: entry i becomes p(i)": a permutation p with its inverse
pub record Permutation (n : ℕ) : Type 0 where
  pub to : ℕ → ℕ
  pub from : ℕ → ℕ
  pub to_lt : (i : ℕ) → i < n → to i < n
  pub from_lt : (i : ℕ) → i < n → from i < n
  pub from_to : (i : ℕ) → i < n → from (to i) ≡ i
  pub to_from : (i : ℕ) → i < n → to (from i) ≡ i

-- "the pair p(i), p(j) has in the new sheet what the pair i, j has in the old"
pub record Reordered (n : ℕ) (p : Permutation n) (old new : Similarity) : Type 0 where
  pub same : (i j : ℕ) → i < n → j < n → new (p.to i) (p.to j) ≡ old i j

-- "the set of all p(a), a in A"
unfoldable pub image : (n : ℕ) → Permutation n → ℕ → ℕ
image n p A = mask n (λ j. has A (p.from j))
