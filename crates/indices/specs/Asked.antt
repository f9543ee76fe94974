-- The code's own vocabulary, which nobody need believe: what the code for the indices asks of its callers.
use Rattle.std.specs.Prelude.{List, ℕ, ◌^◌, ◌≤◌, ◌<◌, ℤ, pos, length, get_or}
use Rattle.integers.specs.Range.{Within}
use Rattle.sets.specs.Sets.{size, ◌∋◌}
use Rattle.clusters.specs.PairList.{score}
use Rattle.matrix.specs.declared.PairList.{PairList}

-- the scores of x are far from the machine's limits
abbrev pub SmallRow : PairList → ℕ → Type 0
SmallRow list x = (y : ℕ) → y < list.n → Within (2 ^ 22) (score list.pairs.now x y)

-- those of each member of A are
abbrev pub SmallRows : PairList → ℕ → Type 0
SmallRows list A = (a : ℕ) → a < list.n → A ∋ a → SmallRow list a

-- a set of the n entries that is neither empty nor all of them
pub record Proper (n A : ℕ) : Type 0 where
  pub fits : A < 2 ^ n
  pub some : 1 ≤ size n A
  pub rest : size n A < n

-- a table of a number for each entry, none farther off than what is beyond every score
pub record Table (n : ℕ) (t : List ℤ) : Type 0 where
  pub long : n ≤ length t
  pub small : (y : ℕ) → y < n → Within (2 ^ 30) (get_or t y (pos 0))
