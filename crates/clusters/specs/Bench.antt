-- The eight starred cases of document 01's bench, as a table; and splits with their refined weights (document 02, 2.5).
use Rattle.std.specs.Prelude.{List, [], ◌∷◌, map, ℕ, ℤ, pos, negsuc}
use Rattle.sets.specs.Sets.{size}
use Rattle.clusters.specs.PairList.{score}
use Rattle.clusters.specs.Groups.{Kind, strong, clean, splits, index, groups}
use Rattle.clusters.specs.Refined.{refined_weight}

-- a sheet by its pair list, the kind asked for, the lines (set, size, index), and what is said of sets with no line
-- (set, index)
pub record Case : Type 0 where
  pub kind : Kind
  pub entries : ℕ
  pub pairs : List ℤ
  pub lines : List (ℕ × ℕ × ℤ)
  pub unlisted : List (ℕ × ℤ)

-- what the definitions give for a case: its lines, and the indices of the sets with no line
unfoldable pub lines_found : Case → List (ℕ × ℕ × ℤ)
lines_found c =
    map (λ g. (g.set, size c.entries g.set, g.index)) (groups c.kind c.entries (score c.pairs))

unfoldable pub unlisted_found : Case → List (ℕ × ℤ)
unlisted_found c = map (λ (A, z). (A, index c.kind c.entries (score c.pairs) A)) c.unlisted

unfoldable pub four : List ℤ
four = pos 9
    ∷ pos 8 ∷ pos 9
    ∷ pos 6 ∷ pos 5 ∷ pos 9
    ∷ pos 2 ∷ pos 3 ∷ pos 1 ∷ pos 9 ∷ []

-- the same with s(B,C) = 2
unfoldable pub changed : List ℤ
changed = pos 9
    ∷ pos 8 ∷ pos 9
    ∷ pos 6 ∷ pos 2 ∷ pos 9
    ∷ pos 2 ∷ pos 3 ∷ pos 1 ∷ pos 9 ∷ []

-- three entries, every value 5; own 6, others 5
unfoldable pub flat : List ℤ
flat = pos 5
    ∷ pos 5 ∷ pos 5
    ∷ pos 5 ∷ pos 5 ∷ pos 5 ∷ []

unfoldable pub own : List ℤ
own = pos 6
    ∷ pos 5 ∷ pos 6
    ∷ pos 5 ∷ pos 5 ∷ pos 6 ∷ []

-- d(a,b) = d(c,d) = 2, other distances 4
unfoldable pub copies : List ℤ
copies = pos 0
    ∷ pos 2 ∷ pos 0
    ∷ pos 4 ∷ pos 4 ∷ pos 0
    ∷ pos 4 ∷ pos 4 ∷ pos 2 ∷ pos 0 ∷ []

-- two copies at distance 5; at distance 0
unfoldable pub apart : List ℤ
apart = pos 0
    ∷ pos 5 ∷ pos 0 ∷ []

unfoldable pub equal : List ℤ
equal = pos 0
    ∷ pos 0 ∷ pos 0 ∷ []

-- the lines of more than two groups
unfoldable pub changed_lines : List (ℕ × ℕ × ℤ)
changed_lines = (1, 1, pos 1) ∷ (2, 1, pos 1) ∷ (4, 1, pos 3) ∷ (8, 1, pos 6) ∷ (3, 2, pos 2) ∷ []

unfoldable pub own_lines : List (ℕ × ℕ × ℤ)
own_lines = (1, 1, pos 1) ∷ (2, 1, pos 1) ∷ (4, 1, pos 1) ∷ []

unfoldable pub copies_lines : List (ℕ × ℕ × ℤ)
copies_lines = (2, 1, pos 2) ∷ (4, 1, pos 2) ∷ (8, 1, pos 2) ∷ (12, 2, pos 4) ∷ (14, 3, pos 2) ∷ []

-- a row for each starred case; the fourth, which speaks of two kinds, has two rows
unfoldable pub bench : List Case
bench =
    record { kind = clean; entries = 4; pairs = four; lines = (3, 2, pos 2) ∷ (7, 3, pos 6) ∷ []; unlisted = [] }
    ∷ record { kind = clean; entries = 4; pairs = changed; lines = (3, 2, pos 2) ∷ (7, 3, pos 3) ∷ []; unlisted = [] }
    ∷ record { kind = strong; entries = 4; pairs = changed; lines = changed_lines; unlisted = (7, negsuc 0) ∷ [] }
    ∷ record { kind = strong; entries = 3; pairs = flat; lines = []; unlisted = [] }
    ∷ record { kind = clean; entries = 3; pairs = flat; lines = []; unlisted = [] }
    ∷ record { kind = strong; entries = 3; pairs = own; lines = own_lines; unlisted = [] }
    ∷ record { kind = splits; entries = 4; pairs = copies; lines = copies_lines; unlisted = [] }
    ∷ record { kind = splits; entries = 2; pairs = apart; lines = (2, 1, pos 10) ∷ []; unlisted = [] }
    ∷ record { kind = splits; entries = 2; pairs = equal; lines = []; unlisted = [] }
    ∷ []

-- a sheet by its pair list, one side of a split, and its refined weight
pub record SplitCase : Type 0 where
  pub entries : ℕ
  pub pairs : List ℤ
  pub side : ℕ
  pub weight : ℤ

-- what the definition gives
unfoldable pub weight_found : SplitCase → ℤ
weight_found c = refined_weight c.entries (score c.pairs) c.side

-- d(0,2) = d(0,4) = d(1,4) = d(2,4) = 2, other distances 1
unfoldable pub metric : List ℤ
metric = pos 0
    ∷ pos 1 ∷ pos 0
    ∷ pos 2 ∷ pos 1 ∷ pos 0
    ∷ pos 1 ∷ pos 1 ∷ pos 1 ∷ pos 0
    ∷ pos 2 ∷ pos 2 ∷ pos 2 ∷ pos 1 ∷ pos 0 ∷ []

-- d(1,2) = 3, d(3,4) = 2, other distances 4
unfoldable pub near : List ℤ
near = pos 0
    ∷ pos 4 ∷ pos 0
    ∷ pos 4 ∷ pos 3 ∷ pos 0
    ∷ pos 4 ∷ pos 4 ∷ pos 4 ∷ pos 0
    ∷ pos 4 ∷ pos 4 ∷ pos 4 ∷ pos 2 ∷ pos 0 ∷ []

-- the scores of the quartets, rising, are 4 (of ab|cd); −4 (of bc|ad, which crosses it; d(a,b) + d(c,d) is the smaller
-- sum); 0, 1, 1 (an entry paired with itself would bring a second 0: equal members do not count); 0, 0, 1 (the second
-- sum is the smaller one); 2, 2, 3 (equal scores are counted each)
unfoldable pub split_bench : List SplitCase
split_bench =
    record { entries = 4; pairs = copies; side = 12; weight = pos 4 }
    ∷ record { entries = 4; pairs = copies; side = 6; weight = negsuc 3 }
    ∷ record { entries = 5; pairs = metric; side = 24; weight = pos 1 }
    ∷ record { entries = 5; pairs = metric; side = 28; weight = pos 0 }
    ∷ record { entries = 5; pairs = near; side = 24; weight = pos 4 }
    ∷ []
