-- Cells of a sheet by their places: the code's own vocabulary, which a reader of the statements need not believe.
use Rattle.std.specs.Prelude.{◌≡◌, List, [], ◌∷◌, ℕ, ◌+◌, ◌≤◌, ◌<◌, T, ℤ, length, get_or, take, drop}
use Rattle.lists.specs.Lists.{all}
use Rattle.pairs.specs.Pairs.{list_number}
use Rattle.interface.specs.Sheet.{is_digit, is_cell, number_from, pair_said, cut, lines, words}
use Rattle.interface.specs.Calls.{piece_at}

-- k bytes from a place on
abbrev pub part : List ℕ → (at size : ℕ) → List ℕ
part s p k = take k (drop p s)

-- at p stand digits, k of them, that are the number v; the same stand at q
pub record Run (s : List ℕ) (p q v k : ℕ) : Type 0 where
  pub few : k ≤ 7
  pub digits : T (all is_digit (part s p k))
  pub number : v ≡ number_from 10 0 (part s p k)
  pub same : part s p k ≡ part s q k

-- `.5` stands at a place, and the byte stop behind it
pub record Half (s : List ℕ) (at stop : ℕ) : Type 0 where
  pub point : get_or s at 0 ≡ 46
  pub five : get_or s (at + 1) 0 ≡ 53
  pub ended : get_or s (at + 2) 0 ≡ stop

-- k bytes are a well-formed cell, and z is its number in the pair list
pub record Said (s : List ℕ) (p : ℕ) (z : ℤ) (k : ℕ) : Type 0 where
  pub good : T (is_cell (part s p k))
  pub number : z ≡ list_number (pair_said (part s p k))

-- and the byte stop behind it
pub record CellAt (s : List ℕ) (p stop : ℕ) (z : ℤ) (k : ℕ) : Type 0 where
  pub inside : p + k < length s
  pub ended : get_or s (p + k) 0 ≡ stop
  pub said : Said s p z k

-- the same cell at p and at q, each with its byte behind it
pub record BothAt (s : List ℕ) (p q stop other : ℕ) (z : ℤ) (k : ℕ) : Type 0 where
  pub near : CellAt s p stop z k
  pub far : CellAt s q other z k
  pub same : part s p k ≡ part s q k

-- at p starts cell j of value line i
pub record At (s : List ℕ) (i j p : ℕ) : Type 0 where
  pub inside : p ≤ length s
  pub line : cut 10 (drop p s) ≡ piece_at 10 s p ∷ drop (i + 2) (lines s)
  pub pieces : cut 32 (piece_at 10 s p) ≡ drop j (words s i)

-- the text of a cell
abbrev pub cell : List ℕ → ℕ → ℕ → List ℕ
cell s i j = get_or (words s i) j []

-- p stands behind cell j of value line i and the byte stop: in the line, or at the start of what follows it
pub record After (s : List ℕ) (stop i j p : ℕ) : Type 0 where
  pub on : stop ≡ 32 → At s i (j + 1) p
  pub over : stop ≡ 10 → (length (words s i) ≡ j + 1) × (p ≤ length s) × (cut 10 (drop p s) ≡ drop (i + 2) (lines s))

-- cells (i, 0) .. (i, k - 1) are well formed and mirrored, text by text
pub record Mirror (s : List ℕ) (i k : ℕ) : Type 0 where
  pub good : (j : ℕ) → j < k → T (is_cell (cell s i j))
  pub same : (j : ℕ) → j < k → cell s j i ≡ cell s i j

-- row i was read: the cursors of the lines so far stand behind their cells i
pub record RowRead (s : List ℕ) (stop i next : ℕ) (cur : List ℕ) : Type 0 where
  pub mirror : Mirror s i (i + 1)
  pub after : (j : ℕ) → j < i + 1 → After s stop j i (get_or cur j 0)
  pub last : next ≡ get_or cur i 0
