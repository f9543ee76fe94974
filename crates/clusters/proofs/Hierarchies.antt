-- Sets of n entries in written order, none of them empty or all entries, any two nested or disjoint: a hierarchy. The groups of a kind are one.
use mathlib.Core.Path.{sym}
use mathlib.Core.Logic.{◌⊎◌, inl, inr}
use mathlib.Core.List.{List}
use Prim.Native.Nat.{ℕ, ◌^◌, ◌<◌}
use Rattle.lists.specs.Lists.{◌∈◌}
use Rattle.sets.specs.Sets.{◌∋◌, ◌∌◌, size, all_entries, Subset, Disjoint, Nested}
use Rattle.sets.proofs.Sets.{clash}
use Rattle.sets.proofs.Subsets.{strict_size, subset_equal, all_entries_in}
use Rattle.clusters.specs.PairList.{Similarity, Symmetric}
use Rattle.clusters.specs.Groups.{Kind, group_sets, Before, Rising}
use Rattle.clusters.proofs.Groups.{in_group_sets, listed_some, listed_proper, groups_rise, before_apart, before_size}
use Rattle.clusters.proofs.Theorems.{groups_nested}

pub record Hierarchy (n : ℕ) (l : List ℕ) : Type 0 where
  pub low : (A : ℕ) → A ∈ l → A < 2 ^ n
  pub some : (A : ℕ) → A ∈ l → (a : ℕ) × (a < n) × (A ∋ a)
  pub proper : (A : ℕ) → A ∈ l → (x : ℕ) × (x < n) × (A ∌ x)
  pub rising : Rising n l
  pub nested : (A B : ℕ) → A ∈ l → B ∈ l → Nested n A B ⊎ Disjoint n A B

-- a split is there by its written side
pub groups_hierarchy : (k : Kind) (n : ℕ) (s : Similarity) → Symmetric s → Hierarchy n (group_sets k n s)
groups_hierarchy k n s symm = record {
  low = λ A m. ((in_group_sets k n s A).0 m).0;
  some = λ A m. listed_some k n s A ((in_group_sets k n s A).0 m).1;
  proper = λ A m. listed_proper k n s A ((in_group_sets k n s A).0 m).1;
  rising = groups_rise k n s;
  nested = groups_nested k n s symm;
}

module _ (n : ℕ) {l : List ℕ} (h : Hierarchy n l) where
  pub all_entries_unlisted : all_entries n ∈ l → ⊥
  all_entries_unlisted m = let (x, hx, out) = h.proper (all_entries n) m in clash (all_entries_in n hx) out

  -- two sets with a common entry are nested
  pub common_nested : {A B : ℕ} → A ∈ l → B ∈ l → (i : ℕ) → i < n → A ∋ i → B ∋ i → Nested n A B
  common_nested {A} {B} a b i hi ai bi = go (h.nested A B a b)
    where
      go : Nested n A B ⊎ Disjoint n A B → Nested n A B
      go (inl s) = s
      go (inr d) = clash bi (d.all i hi ai)

  -- the earlier is inside the later, and smaller
  pub chain : {A B : ℕ} → A ∈ l → B ∈ l → (i : ℕ) → i < n → A ∋ i → B ∋ i → Before n A B → Subset n A B × (size n A < size n B)
  chain {A} {B} a b i hi ai bi f = go (common_nested a b i hi ai bi)
    where
      go : Nested n A B → Subset n A B × (size n A < size n B)
      go (inl s) = (s, strict_size n (h.low A a) (h.low B b) s (before_apart n f))
      go (inr s) = absurd (before_apart n f (sym (subset_equal n (h.low B b) (h.low A a) s (before_size n f))))
