-- Numbers of bounded size.
use Rattle.std.specs.Prelude.{List, ℕ, ℤ, pos, neg_ℤ, ◌≤ℤ◌}
use Rattle.lists.specs.Lists.{◌∈◌}

-- z is between −k and k
pub record Within (k : ℕ) (z : ℤ) : Type 0 where
  pub top : z ≤ℤ pos k
  pub low : neg_ℤ (pos k) ≤ℤ z

-- every number of the list is
abbrev pub Bounded : ℕ → List ℤ → Type 0
Bounded k l = (z : ℤ) → z ∈ l → Within k z
