-- The code's own vocabulary, which nobody need believe: the strong index and the separation index by their margins.
use Rattle.std.specs.Prelude.{Bool, cond, List, map, ℕ, ◌^◌, ◌<◌, ℤ, pos, neg_ℤ, ◌-ℤ◌, ◌≤ℤ◌}
use Rattle.std.specs.Bool.{beq}
use Rattle.lists.specs.Lists.{below, keep}
use Rattle.integers.specs.Integers.{least, greatest}
use Rattle.integers.specs.Range.{Within}
use Rattle.sets.specs.Sets.{has, members, others}
use Rattle.clusters.specs.PairList.{Similarity}
use Rattle.matrix.specs.Rows.{number, Row}

-- by how much the least value in A exceeds the greatest value outside A
unfoldable pub margin : ℕ → (ℕ → ℤ) → ℕ → ℤ
margin n f A = least (map f (members n A)) -ℤ greatest (map f (others n A))

-- the value of y for the split of a from x: how much farther y is from x than from a
unfoldable pub nearness : Similarity → ℕ → ℕ → ℕ → ℤ
nearness d a x y = d y x -ℤ d a y

-- the least margin over the entries x outside A
unfoldable pub separation_from : ℕ → Similarity → ℕ → ℕ → ℤ
separation_from n d A a = least (map (λ x. margin n (nearness d a x) A) (others n A))

-- As the code finds a margin, by tables of a number for each entry: numbers as small as scores
abbrev pub Numbers : ℕ → List ℤ → Type 0
Numbers n t = (y : ℕ) → y < n → Within (2 ^ 22) (number t y)

-- the least margin of the scores of x, less the numbers of a table, over the x in A, or over those outside
unfoldable pub least_margin : ℕ → Similarity → ℕ → List ℤ → Bool → ℤ
least_margin n s A t inner =
    least (map (λ x. margin n (λ y. s x y -ℤ number t y) A) (keep (λ x. beq (has A x) inner) (below n)))

-- no value less the number of a table exceeds z
abbrev pub AtMost : ℕ → (ℕ → ℤ) → List ℤ → ℤ → Type 0
AtMost n f t z = (y : ℕ) → y < n → (f y -ℤ number t y) ≤ℤ z

-- the values less the numbers of two tables: by how much the least for the first exceeds the greatest for the second
unfoldable pub spread : ℕ → (ℕ → ℤ) → List ℤ → List ℤ → ℤ
spread n f inside outside =
    least (map (λ y. f y -ℤ number inside y) (below n))
    -ℤ greatest (map (λ y. f y -ℤ number outside y) (below n))

-- the first table has the numbers of the members, the second those of the others, and else what is beyond every score
pub record Parted (n : ℕ) (numbers : List ℤ) (A : ℕ) (inside outside : List ℤ) : Type 0 where
  pub members : Row n (λ y. cond (has A y) (number numbers y) (neg_ℤ (pos (2 ^ 30)))) inside
  pub others : Row n (λ y. cond (has A y) (pos (2 ^ 30)) (number numbers y)) outside
