-- Linkage trees (document 01, Definitions). A block is a set of entries; own scores play no part, as blocks left share
-- no entry.
use Rattle.std.specs.Prelude.{◌≡◌, ◌≢◌, List, [], ◌∷◌, ◌++◌, map, ℕ, ◌*◌, ◌^◌, ℤ, pos, ◌*ℤ◌, ◌≤ℤ◌, length}
use Rattle.lists.specs.Lists.{◌∈◌, below, each, erase}
use Rattle.integers.specs.Integers.{greatest, sum}
use Rattle.sets.specs.Sets.{◌∪◌, members, size}
use Rattle.clusters.specs.PairList.{Similarity}

-- A link is a quotient, "compared exactly": by cross multiplication.
pub record Quotient : Type 0 where
  pub num : ℤ
  pub den : ℕ

infix 50 ◌≼◌
unfoldable pub ◌≼◌ : Quotient → Quotient → Type 0
p ≼ q = (pos q.den *ℤ p.num) ≤ℤ (pos p.den *ℤ q.num)

-- the scores between two blocks
unfoldable pub between : ℕ → Similarity → ℕ → ℕ → List ℤ
between n s U W = each (members n U) λ u. map (s u) (members n W)

-- "The link is the greatest score between the blocks (single) or the sum of scores divided by the product of the sizes
-- (average)"
pub data Linkage : Type 0 where
  single average : Linkage

unfoldable pub link : Linkage → ℕ → Similarity → ℕ → ℕ → Quotient
link single n s U W = record { num = greatest (between n s U W); den = 1 }
link average n s U W = record { num = sum (between n s U W); den = size n U * size n W }

-- "merge two whose link is the greatest between any two blocks left; any choice at ties is allowed"
pub record Greatest (link : ℕ → ℕ → Quotient) (blocks : List ℕ) (U W : ℕ) : Type 0 where
  pub left : U ∈ blocks
  pub right : W ∈ blocks
  pub apart : U ≢ W
  pub most : (P Q : ℕ) → P ∈ blocks → Q ∈ blocks → P ≢ Q → link P Q ≼ link U W

-- the blocks left after the merge of U and W
unfoldable pub merged : ℕ → ℕ → List ℕ → List ℕ
merged U W bs = (U ∪ W) ∷ erase U (erase W bs)

-- the merges lead from these blocks down to one, "each made on the blocks that the merges before it left"
abbrev pub Merges : (ℕ → ℕ → Quotient) → List ℕ → List (ℕ × ℕ) → Type 0
Merges link bs [] = length bs ≡ 1
Merges link bs ((U, W) ∷ ms) = Greatest link bs U W × Merges link (merged U W bs) ms

-- "start from the n single entries"
unfoldable pub singles : ℕ → List ℕ
singles n = map (λ i. 2 ^ i) (below n)

-- "A tree is the whole list of its .. merges"
abbrev pub Tree : Linkage → ℕ → Similarity → List (ℕ × ℕ) → Type 0
Tree linkage n s ms = Merges (link linkage n s) (singles n) ms

-- "The tree's blocks are the single entries and every merged one", the merged ones in the order of merging
unfoldable pub merged_blocks : List (ℕ × ℕ) → List ℕ
merged_blocks ms = map (λ (U, W). U ∪ W) ms

unfoldable pub blocks : ℕ → List (ℕ × ℕ) → List ℕ
blocks n ms = singles n ++ merged_blocks ms
