-- The code's own vocabulary, which nobody need believe: what the functions below the linkage calls compute.
use Rattle.std.specs.Prelude.{◌≡◌, List, ◌++◌, ℕ, ◌-◌, ◌^◌, ◌≤◌, ℤ, length, drop}
use Rattle.integers.specs.Range.{Bounded}
use Rattle.sets.specs.Sets.{size}
use Rattle.clusters.specs.PairList.{row_start, score}
use Rattle.clusters.specs.Linkage.{Linkage, Tree, merged_blocks}
use Rattle.links.specs.declared.Method.{Method}
use Rattle.links.specs.declared.Method.TheVariants.{Single, Average}

-- the weight of a block, its share in the denominators of its links: "divided by the product of the sizes (average)"
unfoldable pub weight : Method → ℕ → ℕ
weight Single A = 1
weight Average A = size 32 A

-- what a linkage asks: the pair list of 1 to 32 entries, and a slot for each merge
abbrev pub Mergeable : ℕ → List ℤ → List ℕ → Type 0
Mergeable n l slots = (1 ≤ n) × (n ≤ 32) × (length l ≡ row_start n) × Bounded (2 ^ 31) l × (n - 1 ≤ length slots)

-- "A linkage call writes the n − 1 merged blocks in the order of merging", of some tree; the slots beyond stay
pub record Merged (linkage : Linkage) (n : ℕ) (l : List ℤ) (lent after : List ℕ) : Type 0 where
  pub merges : List (ℕ × ℕ)
  pub tree : Tree linkage n (score l) merges
  pub written : after ≡ merged_blocks merges ++ drop (n - 1) lent
