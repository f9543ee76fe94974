-- Request 2.1, the smallest group two entries share, said of what the call answers.
use Rattle.std.specs.Prelude.{◌≡◌, ◌≢◌, ◌↔◌, List, [], ◌∷◌, ◌++◌, ℕ, ◌^◌, ◌<◌, ◌≤◌, ℤ, pos}
use Rattle.lists.specs.Lists.{◌∈◌}
use Rattle.sets.specs.Sets.{◌∋◌, size, all_entries, Subset}
use Rattle.clusters.specs.PairList.{score}
use Rattle.clusters.specs.Groups.{sets_of}
use Rattle.clusters.specs.declared.Group.{Group}
use Rattle.clusters.specs.Reordering.{Permutation, Reordered, image}
use Rattle.clusters.specs.Nesting.{smallest_of_all, OnLine}
use Rattle.answers.specs.Answers.{number_of}
use Rattle.answers.specs.Shared.{Shared, shared_set, shared_line}
use Rattle.interface.specs.Calls.{SharedCall, SharedInC}
use Rattle.demands.specs.Sentences.{NoEntries}
use Rattle.demands.specs.Tables.{Table, Judged, pair_table, kind_table}
use Rattle.demands.specs.TurnedAway.{NumberInC}
use Rattle.demands.specs.Taken.{FitsList, ListKind}
use Rattle.demands.specs.Demands.{Wrote}

-- "Kind 3 gets 1 here; after the numbers call's checks, 13 left out, an entry number of n or more gets 15"
abbrev pub NoGroupKind : ℤ → Type 0
NoGroupKind kind = (kind ≢ pos 1) × (kind ≢ pos 2)

abbrev pub shared_table : (kind : ℤ) (n : ℕ) → List ℤ → (i j : ℕ) → Table
shared_table kind n l i j =
    ((1, NoGroupKind kind) ∷ pair_table n l) ++ kind_table kind n l ++ ((15, NoEntries n i j) ∷ [])

-- of a set and its line, and of all sets that a call wrote for the same kind number and entries: "the smallest group
-- that holds both"
pub record SmallestFound (n i j : ℕ) (sets : List ℕ) (set line : ℕ) : Type 0 where
  -- "the set and its line, counted from 1 after the first line"
  pub on_line : line ≢ 0 → OnLine sets line set
  pub holds_both_lem : (set ∋ i) × (set ∋ j)
  -- "it equals the smallest found by reading all lines"
  pub of_all : record { set = set; line = line } ≡ smallest_of_all n i j sets
  -- every other line's set that holds both strictly holds it
  pub inside : (C : ℕ) → C ∈ sets → C ∋ i → C ∋ j → C ≢ set → Subset n set C × (size n set < size n C)
  -- and it is the only one: a set that holds both and is larger than no other that does
  pub only : (C : ℕ) → C ∈ sets → C ∋ i → C ∋ j
      → ((D : ℕ) → D ∈ sets → D ∋ i → D ∋ j → size n C ≤ size n D) → C ≡ set
  -- "If no line holds both, the answer is all n entries and line 0", and only then
  pub no_line : (line ≡ 0) ↔ ((C : ℕ) → C ∈ sets → C ∋ i → C ∋ j → ⊥)
  pub all_entries_lem : (line ≡ 0) ↔ (set ≡ all_entries n)

pub record Request2_1 (kind : ℤ) : Type 0 where
  -- each number is given if and only if its line holds and none before it does; "A refusal answers set 0, line 0."
  pub judged : {n : ℕ} {l : List ℤ} {i j : ℕ} {r : Shared} → SharedCall kind n l i j r
      → Judged (shared_table kind n l i j) (number_of r) ((shared_set r ≡ 0) × (shared_line r ≡ 0))
  -- in C the line is answered as a count is, and the set goes to a slot
  pub in_C : {n : ℕ} {l : List ℤ} {i j : ℕ} {r : ℤ} {set : ℕ} → SharedInC kind n l i j r set
      → (a : Shared) × SharedCall kind n l i j a × NumberInC (number_of a) (shared_line a) r × (set ≡ shared_set a)
  -- whatever fits is taken
  pub fits : {n : ℕ} {l : List ℤ} → FitsList n l → ListKind n l kind → kind ≢ pos 3
      → {i j : ℕ} {r : Shared} → SharedCall kind n l i j r → i < n → j < n → number_of r ≡ 0
  pub smallest : {n : ℕ} {l : List ℤ} {i j : ℕ} {r : Shared} → SharedCall kind n l i j r → number_of r ≡ 0
      → {found : List Group} → Wrote kind n l found → SmallestFound n i j (sets_of found) (shared_set r) (shared_line r)
  -- which of the two is named first makes no difference
  pub swapped : {n : ℕ} {l : List ℤ} {i j : ℕ} {r r' : Shared}
      → SharedCall kind n l i j r → SharedCall kind n l j i r' → r' ≡ r
  -- "The same entry twice is allowed": the entry alone, if it has a line
  pub twice : {n : ℕ} {l : List ℤ} {i : ℕ} {r : Shared} → SharedCall kind n l i i r → number_of r ≡ 0
      → {found : List Group} → Wrote kind n l found → 2 ^ i ∈ sets_of found → shared_set r ≡ 2 ^ i
  -- a reordering carries the set answered to the set answered, and line 0 to line 0
  pub reordered : {n : ℕ} {l l' : List ℤ} {i j : ℕ} {r r' : Shared} (p : Permutation n)
      → SharedCall kind n l i j r → number_of r ≡ 0
      → SharedCall kind n l' (p.to i) (p.to j) r' → number_of r' ≡ 0 → Reordered n p (score l) (score l')
      → (shared_set r' ≡ image n p (shared_set r)) × ((shared_line r ≡ 0) ↔ (shared_line r' ≡ 0))
