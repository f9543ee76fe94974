-- The order of merging, said of the slots that a linkage call wrote.
use Rattle.std.specs.Prelude.{◌≡◌, ◌⊎◌, ◌≢◌, ◌↔◌, List, [], ◌∷◌, ℕ, ◌+◌, ◌*◌, ◌^◌, ◌<◌, ◌≤◌, ℤ, pos, ◌*ℤ◌, ◌≤ℤ◌, length}
use Rattle.std.specs.Prelude.{get_or, take}
use Rattle.lists.specs.Lists.{◌∈◌}
use Rattle.integers.specs.Integers.{sum_of}
use Rattle.sets.specs.Sets.{◌∋◌, members, size, Subset}
use Rattle.clusters.specs.PairList.{Similarity, score}
use Rattle.clusters.specs.Linkage.{Linkage, single, average, Tree, merged_blocks}
use Rattle.answers.specs.Answers.{number_of, Answer, count_of}
use Rattle.interface.specs.Calls.{LinkageCall}

-- what stands before slot k: "start from the n single entries", and the slots before it
abbrev pub Stands : (n : ℕ) (slots : List ℕ) (k : ℕ) → (X : ℕ) → Type 0
Stands n slots k X = ((i : ℕ) × (i < n) × (X ≡ 2 ^ i)) ⊎ (X ∈ take k slots)

-- the blocks that the slots before slot k left: those that no other holds
pub record LeftBefore (n : ℕ) (slots : List ℕ) (k : ℕ) (X : ℕ) : Type 0 where
  pub stands : Stands n slots k X
  pub largest : (Y : ℕ) → Stands n slots k Y → Subset n X Y → Y ≡ X

-- "The link is the greatest score between the blocks (single) or the sum of scores divided by the product of the sizes
-- (average), compared exactly": the link of U and W is no smaller than that of P and Q
abbrev pub NoSmaller : Linkage → (n : ℕ) → Similarity → (U W P Q : ℕ) → Type 0
NoSmaller single n s U W P Q = (p q : ℕ) → p < n → q < n → P ∋ p → Q ∋ q
    → (u w : ℕ) × (u < n) × (w < n) × (U ∋ u) × (W ∋ w) × (s p q ≤ℤ s u w)
NoSmaller average n s U W P Q =
    (pos (size n U * size n W) *ℤ sum_of (members n P) (λ p. sum_of (members n Q) (s p)))
    ≤ℤ (pos (size n P * size n Q) *ℤ sum_of (members n U) (λ u. sum_of (members n W) (s u)))

-- "merge two whose link is the greatest between any two blocks left": slot k is the union of two that the slots before
-- it left
pub record SlotMerges (linkage : Linkage) (n : ℕ) (s : Similarity) (slots : List ℕ) (k : ℕ) : Type 0 where
  pub U : ℕ
  pub W : ℕ
  pub one : LeftBefore n slots k U
  pub other : LeftBefore n slots k W
  pub apart : U ≢ W
  pub union : (i : ℕ) → i < n → (get_or slots k 0 ∋ i) ↔ ((U ∋ i) ⊎ (W ∋ i))
  pub greatest : (P Q : ℕ) → LeftBefore n slots k P → LeftBefore n slots k Q → P ≢ Q
      → NoSmaller linkage n s U W P Q

-- four entries of which C and D are the nearest, then A and B: d joins c, b joins a, then all
unfoldable pub four_scores : List ℤ
four_scores = pos 0 ∷ pos 5 ∷ pos 0 ∷ pos 1 ∷ pos 2 ∷ pos 0 ∷ pos 1 ∷ pos 2 ∷ pos 9 ∷ pos 0 ∷ []

pub record InOrder : Type 0 where
  -- "writes the n − 1 merged blocks in the order of merging"
  pub slots : {linkage : Linkage} {n : ℕ} {l : List ℤ} {lent after : List ℕ} {r : Answer}
      → LinkageCall linkage n l lent r after → number_of r ≡ 0
      → (count_of r + 1 ≡ n) × ((k : ℕ) → k < count_of r → SlotMerges linkage n (score l) (take (count_of r) after) k)
  -- "every list of this kind, down to one block, is a tree that the sheet allows": n − 1 sets of entries of which each
  -- merges so are the merged blocks of a tree, whatever the choice at ties
  pub every_tree : (linkage : Linkage) (n : ℕ) (s : Similarity) (slots : List ℕ)
      → length slots + 1 ≡ n → ((X : ℕ) → X ∈ slots → X < 2 ^ n)
      → ((k : ℕ) → k < length slots → SlotMerges linkage n s slots k)
      → (ms : List (ℕ × ℕ)) × Tree linkage n s ms × (merged_blocks ms ≡ slots)
  -- one call computed, of which every tree has the same blocks in the same order
  pub four : {linkage : Linkage} {lent after : List ℕ} {r : Answer} → LinkageCall linkage 4 four_scores lent r after
      → 3 ≤ length lent → (number_of r ≡ 0) × (take 3 after ≡ 12 ∷ 3 ∷ 15 ∷ [])
