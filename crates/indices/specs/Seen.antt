-- The code's own vocabulary, which nobody need believe: the least and the greatest, as a loop finds them.
use Rattle.std.specs.Prelude.{◌≡◌, ℕ, ◌-◌, ◌^◌, ℤ, pos, neg_ℤ, ◌-ℤ◌}
use mathlib.Core.List.{List, foldl}
use Rattle.lists.specs.Lists.{below}
use Rattle.integers.specs.Integers.{min_z, max_z}
use Rattle.matrix.specs.Rows.{number}
use Rattle.indices.specs.declared.Extremes.{Extremes}

-- of the values of the entries below k, less the numbers of two tables; from what is beyond them all
pub record Seen (f : ℕ → ℤ) (inside outside : List ℤ) (k : ℕ) (e : Extremes) : Type 0 where
  pub low : e.least ≡ foldl (λ m y. min_z m (f y -ℤ number inside y)) (pos (2 ^ 31 - 1)) (below k)
  pub high : e.greatest ≡ foldl (λ m y. max_z m (f y -ℤ number outside y)) (neg_ℤ (pos (2 ^ 31 - 1))) (below k)
