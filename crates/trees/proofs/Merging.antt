-- What the linkage of the code leaves, as the tree of a kind.
use mathlib.Core.Path.{◌≡◌, sym, ap, subst, ◌∙◌}
use mathlib.Core.List.{List, ◌++◌, append_assoc}
use Prim.Native.Nat.{ℕ, ◌+◌, ◌-◌, ◌^◌, ◌≤◌}
use native.Mathlib.Omega.{arith}
use lib.Dec.{T}
use lib.IntN.{ℤ}
use lib.ListN.{length, take, drop, length-append, length-map}
use lib.Seq.{take_at}
use Rattle.integers.specs.Range.{Bounded}
use Rattle.sets.specs.Sets.{◌∪◌}
use Rattle.clusters.specs.Farris.{farris, anchored_scores}
use Rattle.clusters.specs.Groups.{Kind, strong, clean, splits, tree_linkage, lent_scores}
use Rattle.clusters.specs.Linkage.{single, average, Tree, singles, merged_blocks, blocks}
use Rattle.clusters.specs.PairList.{row_start, score, in_range}
use Rattle.clusters.proofs.Exists.{tree_length, count_singles}
use Rattle.clusters.proofs.PairList.{length_pair_list}
use Rattle.farris.proofs.Bounds.{anchored_bounded}
use Rattle.linkage.specs.Steps as Linkage
use Rattle.trees.specs.Trees.{Merged, Blocks}
use Rattle.trees.proofs.Trees.{anchored_tree}

-- the scores as lent
module _ {n : ℕ} {l : List ℤ} {lent after : List ℕ} where
  pub merged_strong : Linkage.Merged single n l lent after → Merged strong n l lent after
  unfolding tree_linkage lent_scores
  merged_strong m = record { merges = m.merges; tree = m.tree; written = m.written }

  pub merged_clean : Linkage.Merged average n l lent after → Merged clean n l lent after
  unfolding tree_linkage lent_scores
  merged_clean m = record { merges = m.merges; tree = m.tree; written = m.written }

-- the anchored scores are the first k numbers of a list
pub record Front (n : ℕ) (l all : List ℤ) (k : ℕ) : Type 0 where
  pub count : k ≡ row_start n
  pub rest : List ℤ
  pub are : all ≡ anchored_scores n 0 l ++ rest

pub in_front : {n : ℕ} {l all : List ℤ} {k : ℕ} (rest : List ℤ) → k ≡ row_start n → all ≡ anchored_scores n 0 l ++ rest → Front n l all k
in_front rest e h = record { count = e; rest = rest; are = h }

module _ {n : ℕ} {l all : List ℤ} {k : ℕ} (f : Front n l all k) where
  long : length (anchored_scores n 0 l) ≡ row_start n
  unfolding anchored_scores
  long = length_pair_list n (farris (score l) 0)

  front : take k all ≡ anchored_scores n 0 l
  front = ap (take k) f.are ∙ take_at (anchored_scores n 0 l) f.rest k (long ∙ sym f.count)

  pub front_long : length (take k all) ≡ row_start n
  front_long = ap length front ∙ long

  pub front_bounded : T (in_range l) → Bounded (2 ^ 31) (take k all)
  front_bounded t = subst (Bounded (2 ^ 31)) (sym front) (anchored_bounded n 0 l t)

  pub front_fits : k ≤ length all
  front_fits = omega (arith, ap length f.are, length-append (anchored_scores n 0 l) f.rest, long)

  pub merged_splits : {lent after : List ℕ} → Linkage.Merged single n (take k all) lent after → Merged splits n l lent after
  unfolding tree_linkage lent_scores
  merged_splits m = record {
    merges = m.merges;
    tree = anchored_tree n 0 l single m.merges (subst (λ (s : List ℤ). Tree single n (score s) m.merges) front m.tree);
    written = m.written;
  }

-- the single entries, and the merged blocks in the part after them
pub blocks_written : {kind : Kind} {n : ℕ} {l : List ℤ} {mid part : List ℕ} (all rest post : List ℕ) → all ≡ singles n ++ rest → Merged kind n l mid part
    → Blocks kind n l (take (n + (n - 1)) (take n all ++ (part ++ post)))
unfolding blocks merged_blocks
blocks_written {kind} {n} {l} {mid} all rest post e m =
    let ms = m.merges in
    let front : take n all ≡ singles n = ap (take n) e ∙ take_at (singles n) rest n (count_singles n) in
    let count : length (singles n ++ merged_blocks ms) ≡ n + (n - 1) = omega (
      arith,
      length-append (singles n) (merged_blocks ms),
      count_singles n,
      length-map ms (λ (m : ℕ × ℕ). m.0 ∪ m.1),
      tree_length (tree_linkage kind) n (lent_scores kind (score l)) ms m.tree,
    ) in
    record {
      merges = ms;
      tree = m.tree;
      are = rw (front, m.written, append_assoc, ← append_assoc (singles n) (merged_blocks ms) (drop (n - 1) mid ++ post))
          (take_at (singles n ++ merged_blocks ms) (drop (n - 1) mid ++ post) (n + (n - 1)) count);
    }
