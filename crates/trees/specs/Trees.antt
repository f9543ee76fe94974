-- The code's own vocabulary, which nobody need believe: the tree in which every group of a kind is found, by its
-- blocks.
use Rattle.std.specs.Prelude.{◌≡◌, List, ◌++◌, ℕ, ◌-◌, ℤ, drop}
use Rattle.clusters.specs.Groups.{Kind, tree_linkage, lent_scores}
use Rattle.clusters.specs.Linkage.{Tree, blocks, merged_blocks}
use Rattle.clusters.specs.PairList.{score}

-- the merged blocks of such a tree are written, and the slots beyond stay
pub record Merged (kind : Kind) (n : ℕ) (l : List ℤ) (lent after : List ℕ) : Type 0 where
  pub merges : List (ℕ × ℕ)
  pub tree : Tree (tree_linkage kind) n (lent_scores kind (score l)) merges
  pub written : after ≡ merged_blocks merges ++ drop (n - 1) lent

-- the sets are the blocks of such a tree: "the single entries and every merged one"
pub record Blocks (kind : Kind) (n : ℕ) (l : List ℤ) (sets : List ℕ) : Type 0 where
  pub merges : List (ℕ × ℕ)
  pub tree : Tree (tree_linkage kind) n (lent_scores kind (score l)) merges
  pub are : sets ≡ blocks n merges
