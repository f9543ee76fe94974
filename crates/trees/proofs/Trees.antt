-- Trees of scores that agree, and what stands in their blocks.
use mathlib.Core.Path.{◌≡◌, fun_ext, subst}
use mathlib.Core.Logic.{◌⊎◌, inl, inr}
use mathlib.Core.List.Memᴰ
use mathlib.Core.List.{List, [], ◌∷◌, map}
use Prim.Native.Nat.{ℕ, ◌^◌, ◌<◌}
use lib.IntN.{ℤ}
use Rattle.lists.specs.Lists.{◌∈◌}
use Rattle.lists.proofs.Lists.{each_cong, map_cong}
use Rattle.sets.specs.Sets.{◌∪◌, members}
use Rattle.sets.proofs.Sets.{of_members, ∪_lt}
use Rattle.clusters.specs.Farris.{farris, anchored_scores}
use Rattle.clusters.specs.Groups.{Kind}
use Rattle.clusters.specs.Linkage.{Linkage, single, average, Quotient, link, between, Merges, merged, Tree, singles, merged_blocks, blocks}
use Rattle.clusters.specs.PairList.{Similarity, score}
use Rattle.clusters.proofs.Blocks.{Partition, partition_singles, partition_merged}
use Rattle.clusters.proofs.Farris.{score_anchored}
use Rattle.trees.specs.Trees.{Blocks}

-- the links of scores that agree on the n entries are the same
module _ (n : ℕ) (s t : Similarity) (same : (a b : ℕ) → a < n → b < n → s a b ≡ t a b) where
  between_cong : (U W : ℕ) → between n s U W ≡ between n t U W
  unfolding between
  between_cong U W = each_cong (members n U) (λ u. map (s u) (members n W)) (λ u. map (t u) (members n W))
      (λ u mu. map_cong (s u) (t u) (members n W) (λ w mw. same u w (of_members n U mu).0 (of_members n W mw).0))

  link_cong : (linkage : Linkage) (U W : ℕ) → link linkage n s U W ≡ link linkage n t U W
  unfolding link
  link_cong single U W = rw (between_cong U W)
  link_cong average U W = rw (between_cong U W)

  pub tree_cong : (linkage : Linkage) (ms : List (ℕ × ℕ)) → Tree linkage n s ms → Tree linkage n t ms
  tree_cong linkage ms = subst (λ (f : ℕ → ℕ → Quotient). Merges f (singles n) ms) (fun_ext (λ U. fun_ext (link_cong linkage U)))

-- the anchored scores in a pair list
pub anchored_tree : (n x : ℕ) (l : List ℤ) (linkage : Linkage) (ms : List (ℕ × ℕ))
    → Tree linkage n (score (anchored_scores n x l)) ms → Tree linkage n (farris (score l) x) ms
anchored_tree n x l = tree_cong n (score (anchored_scores n x l)) (farris (score l) x) (score_anchored n x l)

-- every block is a set of the n entries
merged_small : (n : ℕ) (f : ℕ → ℕ → Quotient) (bs : List ℕ) (ms : List (ℕ × ℕ)) → Partition n bs → Merges f bs ms → (A : ℕ) → A ∈ merged_blocks ms → A < 2 ^ n
unfolding merged_blocks
merged_small n f bs [] p t A m = absurd (Memᴰ.not-nil m)
merged_small n f bs (m ∷ ms) p t A k =
    let g = t.0 in
    go (merged_small n f (merged m.0 m.1 bs) ms (partition_merged m.0 m.1 bs n p g.left g.right g.apart) t.1 A) (Memᴰ.cases_cons k)
  where
    go : (A ∈ merged_blocks ms → A < 2 ^ n) → (A ≡ m.0 ∪ m.1) ⊎ (A ∈ merged_blocks ms) → A < 2 ^ n
    go ih (inl e) = let g = t.0 in rw e (∪_lt n (p.small m.0 g.left) (p.small m.1 g.right))
    go ih (inr h) = ih h

block_small : (n : ℕ) (f : ℕ → ℕ → Quotient) (ms : List (ℕ × ℕ)) → Merges f (singles n) ms → (A : ℕ) → A ∈ blocks n ms → A < 2 ^ n
unfolding blocks
block_small n f ms t A m = go (Memᴰ.append_cases (singles n) m)
  where
    go : (A ∈ singles n) ⊎ (A ∈ merged_blocks ms) → A < 2 ^ n
    go (inl h) = (partition_singles n).small A h
    go (inr h) = merged_small n f (singles n) ms (partition_singles n) t A h

module _ {kind : Kind} {n : ℕ} {l : List ℤ} {sets : List ℕ} (b : Blocks kind n l sets) where
  pub small : (A : ℕ) → A ∈ sets → A < 2 ^ n
  small A m = block_small n _ b.merges b.tree A (subst (λ (s : List ℕ). A ∈ s) b.are m)
