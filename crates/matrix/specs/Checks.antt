-- The code's own vocabulary, which nobody need believe: what the checks on a pair list pass.
use Rattle.std.specs.Prelude.{◌≡◌, List, ℕ, ◌≤◌, T, ℤ, length}
use Rattle.clusters.specs.PairList.{row_start, scores_in_range}

-- what checks 6, 10 and 11 pass: the pair list of 1 to 32 entries, its scores in range
pub record Checked (n : ℕ) (l : List ℤ) : Type 0 where
  pub some : 1 ≤ n
  pub few : n ≤ 32
  pub long : length l ≡ row_start n
  pub range : T (scores_in_range l)
