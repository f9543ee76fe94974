-- The code's own vocabulary, which nobody need believe: a pair list as lent, and a table of a number for each entry.
use Rattle.std.specs.Prelude.{◌≡◌, List, ℕ, ◌≤◌, ◌<◌, ℤ, pos, length, get_or, replicate}
use Rattle.clusters.specs.PairList.{row_start}

-- a pair list of n entries, up to 32 of them
pub record Scores (n : ℕ) (l : List ℤ) : Type 0 where
  pub few : n ≤ 32
  pub long : length l ≡ row_start n

-- the number of an entry, and a table of f y for each entry y
abbrev pub number : List ℤ → ℕ → ℤ
number t y = get_or t y (pos 0)

abbrev pub Row : ℕ → (ℕ → ℤ) → List ℤ → Type 0
Row n f t = (y : ℕ) → y < n → number t y ≡ f y

-- a table of zeros: an array is one where it is declared, by `refl`
abbrev pub Cleared : List ℤ → Type 0
Cleared t = t ≡ replicate (length t) (pos 0)
