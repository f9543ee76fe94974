-- The code's own vocabulary, which nobody need believe: a call that gives the value at any two of n entries.
use Rattle.std.specs.Prelude.{◌≡◌, ℕ, ◌-◌, ◌^◌, ◌<◌, ℤ}
use Rattle.integers.specs.Range.{Within}
use Rattle.clusters.specs.PairList.{Similarity}

-- it may be made at any two
abbrev pub Callable : ℕ → (ℕ → ℕ → Type 0) → Type 0
Callable n pre = (a b : ℕ) → a < n → b < n → pre a b

-- what it gives fits its slot
abbrev pub Fitting : ℕ → (ℕ → ℕ → ℤ → Type 0) → Type 0
Fitting n post = (a b : ℕ) (r : ℤ) → a < n → b < n → post a b r → Within (2 ^ 31 - 1) r

-- what it gives is S
abbrev pub Gives : ℕ → (ℕ → ℕ → ℤ → Type 0) → Similarity → Type 0
Gives n post S = (a b : ℕ) (r : ℤ) → a < n → b < n → post a b r → r ≡ S a b
