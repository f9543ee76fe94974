-- The demands, said of what the calls answer and write. What is said of an answer here is said of its number in C too:
-- that number determines it (`TurnedAway.in-C`).
use Rattle.std.specs.Prelude.{◌≡◌, ◌⊎◌, ◌≢◌, ◌↔◌, List, ◌++◌, map, ℕ, ◌^◌, ◌<◌, ◌≤◌, ℤ, pos, neg_ℤ, ◌≤ℤ◌, length}
use Rattle.std.specs.Prelude.{get_or, take, drop}
use Rattle.std.proofs.Math.Option.{some}
use Rattle.lists.specs.Lists.{◌∈◌, Distinct}
use Rattle.sets.specs.Sets.{◌∋◌, ◌∌◌, size, complement, Nested, Disjoint}
use Rattle.clusters.specs.PairList.{Similarity, score, score_limit}
use Rattle.clusters.specs.Indices.{clean_index, separation_index}
use Rattle.clusters.specs.Fillings.{Fills, LeastFilling}
use Rattle.clusters.specs.Farris.{farris}
use Rattle.clusters.specs.Linkage.{single, average, singles, Tree, blocks}
use Rattle.clusters.specs.Groups.{Kind, strong, clean, splits, kind_of}
use Rattle.clusters.specs.declared.Group.{Group}
use Rattle.clusters.specs.Groups.{sets_of, HasLine, written_set, Rising, most_groups}
use Rattle.clusters.specs.Reordering.{Permutation, Reordered, image}
use Rattle.answers.specs.Answers.{number_of, Answer, count_of}
use Rattle.interface.specs.Sheet.{entries, pairs}
use Rattle.interface.specs.Listing.{Line, group_of, sheet_listing, listing_read}
use Rattle.interface.specs.Calls.{SheetCall, CCall, NumbersCall, groups_in, LinkageCall, AnchoredCall, BackCall}
use Rattle.demands.specs.Tables.{GivenFirst, NoneGiven, sheet_table}

-- Demand 1, of the C call: "any kind number, any sheet, any buffer gets the complete listing or the one refusal that
-- document 01 names; a refusal writes no byte, a listing only its own bytes".
pub record ListedOrRefused (kind : ℤ) (sheet lent : List ℕ) (r : ℤ) (after : List ℕ) : Type 0 where
  -- minus a number is answered exactly if its line holds and none before it does
  pub refusal : (k : ℕ) → 0 < k → (r ≡ neg_ℤ (pos k)) ↔ GivenFirst (sheet_table kind sheet (length lent)) k
  pub refused : (k : ℕ) → 0 < k → r ≡ neg_ℤ (pos k) → after ≡ lent
  -- the listing's length is answered exactly if no line holds
  pub listed : (r ≡ pos (length (sheet_listing kind sheet))) ↔ NoneGiven (sheet_table kind sheet (length lent))
  pub written : (count : ℕ) → r ≡ pos count
      → (take count after ≡ sheet_listing kind sheet) × (drop count after ≡ drop count lent)
  -- there is no third
  pub either : ((k : ℕ) × (0 < k) × (r ≡ neg_ℤ (pos k))) ⊎ (r ≡ pos (length (sheet_listing kind sheet)))

pub record Demand1 : Type 0 where
  pub answered : {kind : ℤ} {sheet lent after : List ℕ} {r : ℤ} → CCall kind sheet lent r after
      → ListedOrRefused kind sheet lent r after

-- the bytes that a call listed for a sheet: as many as it answers, if it did not refuse
pub data Listed (kind : ℤ) (sheet : List ℕ) : List ℕ → Type 0 where
  by_sheet_call : {lent after : List ℕ} {r : Answer} → SheetCall kind sheet lent r after
      → number_of r ≡ 0 → Listed kind sheet (take (count_of r) after)

-- what a call wrote for a kind number, n entries and their pair list: the groups of the lines read back from the bytes
-- listed, or those in the numbers call's slots below its count
pub data Wrote (kind : ℤ) : ℕ → List ℤ → List Group → Type 0 where
  in_lines : {sheet bytes : List ℕ} {ls : List Line} → Listed kind sheet bytes → listing_read bytes ≡ some ls
      → Wrote kind (entries sheet) (pairs sheet) (map group_of ls)
  in_slots : {n : ℕ} {l lent_indices indices : List ℤ} {lent_sets sets : List ℕ} {r : Answer}
      → NumbersCall kind n l lent_sets lent_indices r sets indices
      → number_of r ≡ 0 → Wrote kind n l (groups_in (count_of r) sets indices)

-- Demand 2: "Every index written equals the definition of Bryant and Berry in document 01's whole-number form": 003,
-- formula 1, of which document 02, 2.2, has the least over all fillings with scores from −limit to limit; the clean
-- index; 003, formula 2.
abbrev pub IndexIs : (limit : ℕ) → Kind → ℕ → Similarity → ℕ → ℤ → Type 0
IndexIs limit strong n s A z = LeastFilling limit n s A z
IndexIs limit clean n s A z = z ≡ clean_index n s A
IndexIs limit splits n d A z = z ≡ separation_index n d A

pub record Indices (kind : ℤ) (n : ℕ) (s : Similarity) (found : List Group) : Type 0 where
  pub strong_index_lem : kind ≡ pos 1 → (g : Group) → g ∈ found → IndexIs score_limit strong n s g.set g.index
  pub clean_index_lem : kind ≡ pos 2 → (g : Group) → g ∈ found → IndexIs score_limit clean n s g.set g.index
  pub separation_index_lem : kind ≡ pos 3 → (g : Group) → g ∈ found → IndexIs score_limit splits n s g.set g.index

pub record Demand2 : Type 0 where
  pub indices : {kind : ℤ} {n : ℕ} {l : List ℤ} {found : List Group}
      → Wrote kind n l found → Indices kind n (score l) found
  -- "distances to anchored scores and back is the identity": the way back is given what the anchored call wrote, and
  -- room for as many. It is not refused, and writes the distances.
  pub back : {n x : ℕ} {distances lent after : List ℤ} {r : Answer}
      → AnchoredCall n x distances lent r after → number_of r ≡ 0
      → {lent' after' : List ℤ} {r' : Answer} → BackCall n x (take (count_of r) after) lent' r' after'
      → count_of r ≤ length lent'
      → (number_of r' ≡ 0) × (count_of r' ≡ count_of r) × (take (count_of r') after' ≡ distances)

-- Which sets a kind speaks of: "A is non-empty and not X"
pub record Proper (n A : ℕ) : Type 0 where
  pub a : ℕ
  pub x : ℕ
  pub there : (a < n) × (x < n)
  pub inside : A ∋ a
  pub outside : A ∌ x

-- for clean groups "A has at least 2 members"; of a split "the side without the first entry"
abbrev pub Spoken : Kind → (n A : ℕ) → Type 0
Spoken strong n A = Proper n A
Spoken clean n A = Proper n A × ((a b : ℕ) × (a < n) × (b < n) × (A ∋ a) × (A ∋ b) × (a ≢ b))
Spoken splits n A = Proper n A × (A ∌ 0)

-- A set of positive index, or a split of positive index by the side that is written, with its index.
pub record Positive (limit : ℕ) (k : Kind) (n : ℕ) (s : Similarity) (A : ℕ) (z : ℤ) : Type 0 where
  pub fits : A < 2 ^ n
  pub spoken : Spoken k n A
  pub index_is : IndexIs limit k n s A z
  pub positive : pos 1 ≤ℤ z

-- the same groups and splits with the same indices, by their new numbers: "a set A has a line in the old one exactly
-- when the set of all p(a), a in A, has a line in the new one, and the index is equal. In kind 3 this is said of the
-- splits"
abbrev pub SameGroups : Kind → (n : ℕ) → Permutation n → (old new : List Group) → Type 0
SameGroups k n p old new =
    (A : ℕ) → A < 2 ^ n → (z : ℤ) → HasLine old (written_set k n A) z ↔ HasLine new (written_set k n (image n p A)) z

-- Demand 3, of all that a call wrote: "exactly one line for each set of positive index and no other; .. every strong
-- group is a block of every single linkage tree, every clean group of every average linkage tree; two groups of one
-- kind are nested or disjoint". With unscored pairs "the tree claim holds in every filling"; with none the scores are
-- their own filling (document 02, 2.2). A split is there by its written side, in the trees of the scores anchored at
-- the first entry.
pub record Complete (kind : ℤ) (n : ℕ) (s : Similarity) (found : List Group) : Type 0 where
  pub exactly : (A : ℕ) (z : ℤ) → HasLine found A z ↔ Positive score_limit (kind_of kind) n s A z
  pub once : Distinct (sets_of found)
  pub rising : Rising n (sets_of found)
  pub few : length found ≤ most_groups (kind_of kind) n
  pub strong_in_trees : kind ≡ pos 1 → (g : Group) → g ∈ found
      → (f : Similarity) → Fills score_limit n s f → (ms : List (ℕ × ℕ)) → Tree single n f ms → g.set ∈ blocks n ms
  pub clean_in_trees : kind ≡ pos 2 → (g : Group) → g ∈ found
      → (ms : List (ℕ × ℕ)) → Tree average n s ms → g.set ∈ blocks n ms
  pub splits_in_trees : kind ≡ pos 3 → (g : Group) → g ∈ found
      → (ms : List (ℕ × ℕ)) → Tree single n (farris s 0) ms → g.set ∈ blocks n ms
  pub nested : (g h : Group) → g ∈ found → h ∈ found → Nested n g.set h.set ⊎ Disjoint n g.set h.set
  -- "A|B and B|A are one split", with one index, "written as the side without the first entry", and found by either
  pub one_split : kind ≡ pos 3 → (g : Group) → g ∈ found → let A = g.set in let z = g.index in
      (A ∌ 0) × IndexIs score_limit splits n s A z × IndexIs score_limit splits n s (complement n A) z
  pub either_side : kind ≡ pos 3 → (A : ℕ) → A < 2 ^ n → Proper n A
      → (z : ℤ) → IndexIs score_limit splits n s A z → pos 1 ≤ℤ z
      → (A ∌ 0 → HasLine found A z) × (A ∋ 0 → HasLine found (complement n A) z)

-- every group is a single entry or a block that this linkage call wrote
abbrev pub InBlocks : (n : ℕ) → (found : List Group) → (r : Answer) → (after : List ℕ) → Type 0
InBlocks n found r after = (g : Group) → g ∈ found → g.set ∈ (singles n ++ take (count_of r) after)

-- and of every call: "neither the order of the entries nor any choice among equal scores changes what is found"
pub record Demand3 (kind : ℤ) : Type 0 where
  -- what is listed is of the written form, and each line has "the number of members"
  pub lines : {sheet bytes : List ℕ} → Listed kind sheet bytes
      → (ls : List Line) × (listing_read bytes ≡ some ls)
      × ((l : Line) → l ∈ ls → l.size ≡ size (entries sheet) l.set)
  -- the numbers call's slots hold as many groups as it counts, each with its index in the slot of the same number
  pub slots : {n : ℕ} {l lent_indices indices : List ℤ} {lent_sets sets : List ℕ} {r : Answer}
      → NumbersCall kind n l lent_sets lent_indices r sets indices → number_of r ≡ 0
      → let found = groups_in (count_of r) sets indices in
      (length found ≡ count_of r) × ((k : ℕ) → k < count_of r → (none : Group)
      → ((get_or found k none).set ≡ get_or sets k 0) × ((get_or found k none).index ≡ get_or indices k (pos 0)))
  pub complete : {n : ℕ} {l : List ℤ} {found : List Group} → Wrote kind n l found → Complete kind n (score l) found
  -- of the same list, or of one that fills it: every strong group is in the blocks of the single linkage call, every
  -- clean group in those of the average linkage call
  pub strong_linked : kind ≡ pos 1 → {n : ℕ} {l : List ℤ} {lent after : List ℕ} {r : Answer}
      → LinkageCall single n l lent r after → number_of r ≡ 0
      → {found : List Group} → Wrote kind n l found → InBlocks n found r after
  pub filled_linked : kind ≡ pos 1 → {n : ℕ} {l filling : List ℤ} {lent after : List ℕ} {r : Answer}
      → LinkageCall single n filling lent r after → number_of r ≡ 0 → Fills score_limit n (score l) (score filling)
      → {found : List Group} → Wrote kind n l found → InBlocks n found r after
  pub clean_linked : kind ≡ pos 2 → {n : ℕ} {l : List ℤ} {lent after : List ℕ} {r : Answer}
      → LinkageCall average n l lent r after → number_of r ≡ 0
      → {found : List Group} → Wrote kind n l found → InBlocks n found r after
  -- of any two calls on entries of which one order is a reordering of the other
  pub reordered : {n : ℕ} {l l' : List ℤ} {found found' : List Group}
      → Wrote kind n l found → Wrote kind n l' found'
      → (p : Permutation n) → Reordered n p (score l) (score l') → SameGroups (kind_of kind) n p found found'
