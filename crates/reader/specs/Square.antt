-- The code's own vocabulary for the values as they are read, which a reader of the statements need not believe.
use Rattle.std.specs.Prelude.{◌≡◌, List, ℕ, ◌+◌, ◌*◌, ◌<◌, ℤ, pos, get_or}
use Rattle.pairs.specs.Pairs.{list_number}
use Rattle.clusters.specs.PairList.{Similarity}
use Rattle.interface.specs.Sheet.{pair_said}

-- the number in the pair list of the pair that a word stands for
unfoldable pub number_said : List ℕ → ℤ
number_said w = list_number (pair_said w)

-- row i stands in the 32 slots from 32·i on
unfoldable pub square : List ℤ → Similarity
square l i j = get_or l (i * 32 + j) (pos 0)

-- the square holds v for n entries
abbrev pub Holds : List ℤ → ℕ → Similarity → Type 0
Holds l n v = (i j : ℕ) → i < n → j < n → square l i j ≡ v i j
