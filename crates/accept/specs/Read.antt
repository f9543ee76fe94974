-- What is known of a sheet that is accepted: the code's own vocabulary, which nobody need believe.
use Rattle.std.specs.Prelude.{◌≡◌, List, ◌++◌, ℕ, ℤ, drop}
use Rattle.clusters.specs.PairList.{row_start}
use Rattle.interface.specs.Sheet.{entries, pairs}
use Rattle.interface.specs.Refusals.{reader_refusal}

-- checks 2 to 9 pass, n is the number of entries, and the pair list stands in the first slots
pub record PairsRead (s : List ℕ) (n : ℕ) (lent after : List ℤ) : Type 0 where
  pub passed : reader_refusal s ≡ 0
  pub count : n ≡ entries s
  pub written : after ≡ pairs s ++ drop (row_start n) lent
