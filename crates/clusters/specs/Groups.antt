-- The groups and splits of each kind, in written order (document 01, What the engine holds; What is written).
use Rattle.std.specs.Prelude.{◌≡◌, Bool, not, cond, ◌&&◌, ◌⊎◌, List, [], ◌∷◌, map, ℕ, suc, ◌*◌, ◌-◌, ◌^◌, ◌<◌, ℤ, pos}
use Rattle.std.specs.Prelude.{eqb, leb, ltb}
use Rattle.std.specs.Int.Signed.{le_z}
use Rattle.lists.specs.Lists.{◌∈◌, below, each, keep}
use Rattle.integers.specs.Integers.{eq_z}
use Rattle.sets.specs.Sets.{has, size, complement}
use Rattle.clusters.specs.PairList.{Similarity, score_limit}
use Rattle.clusters.specs.Indices.{strong_index, clean_index, separation_index}
use Rattle.clusters.specs.Fillings.{Fills, filled_index}
use Rattle.clusters.specs.Farris.{farris}
use Rattle.clusters.specs.Linkage.{Linkage, single, average}
-- a group, or a split by the side that is written, with its index
use Rattle.clusters.specs.declared.Group.{Group}

-- "kind 1 strong groups (Apresjan clusters), kind 2 clean groups, kind 3 Buneman splits"
pub data Kind : Type 0 where
  strong clean splits : Kind

-- the sets and the indices of what was found
abbrev pub sets_of : List Group → List ℕ
sets_of found = map (λ g. g.set) found

abbrev pub indices_of : List Group → List ℤ
indices_of found = map (λ g. g.index) found

-- "a set A has a line", with the index z
abbrev pub HasLine : List Group → (A : ℕ) (z : ℤ) → Type 0
HasLine found A z = (g : Group) × (g ∈ found) × (g.set ≡ A) × (g.index ≡ z)

-- the kind of each of these numbers; check 1 refuses any other
unfoldable pub kind_of : ℤ → Kind
kind_of k = cond (eq_z k (pos 1)) strong (cond (eq_z k (pos 2)) clean splits)

-- the strong index is "the least over all fillings" (document 02, 2.2)
unfoldable pub index : Kind → ℕ → Similarity → ℕ → ℤ
index strong n s A = filled_index score_limit n s A
index clean n s A = clean_index n s A
index splits n d A = separation_index n d A

-- "A proper set is any but X"
unfoldable pub proper : ℕ → ℕ → Bool
proper n A = ltb (size n A) n

-- which sets a kind speaks of: "A is non-empty and not X"; "A has at least 2 members and is not X"; of a split "Both
-- sides are non-empty", and it "is written as the side without the first entry"
unfoldable pub speaks_of : Kind → ℕ → ℕ → Bool
speaks_of strong n A = leb 1 (size n A) && proper n A
speaks_of clean n A = leb 2 (size n A) && proper n A
speaks_of splits n A = leb 1 (size n A) && proper n A && not (has A 0)

-- "its index is 1 or more", in the unit of the list: half a point (document 02, 2.6)
unfoldable pub positive : Kind → ℕ → (index : ℕ → ℤ) → ℕ → Bool
positive kind n index A = speaks_of kind n A && le_z (pos 1) (index A)

-- "A group or split is listed if its index is 1 or more"
unfoldable pub listed : Kind → ℕ → Similarity → ℕ → Bool
listed kind n s = positive kind n (index kind n s)

-- all sets of the n entries, in the order that "Lines rise by size, then by set"
unfoldable pub sets : ℕ → List ℕ
sets n = each (below (suc n)) λ k. keep (λ A. eqb (size n A) k) (below (2 ^ n))

-- those that pass a test, and each with its index
unfoldable pub sets_by : (test : ℕ → Bool) → ℕ → List ℕ
sets_by test n = keep test (sets n)

unfoldable pub groups_by : (test : ℕ → Bool) (index : ℕ → ℤ) → ℕ → List Group
groups_by test index n = map (λ A. record { set = A; index = index A }) (sets_by test n)

-- the groups or splits of a kind
unfoldable pub group_sets : Kind → ℕ → Similarity → List ℕ
group_sets kind n s = sets_by (listed kind n s) n

unfoldable pub groups : Kind → ℕ → Similarity → List Group
groups kind n s = groups_by (listed kind n s) (index kind n s) n

-- the strong groups as document 01 has them: of scores of which none is unscored
unfoldable pub plain_groups : ℕ → Similarity → List Group
plain_groups n s = groups_by (positive strong n (strong_index n s)) (strong_index n s) n

-- the set by which the group A, or the split of A and the entries outside, is written
unfoldable pub written_set : Kind → ℕ → ℕ → ℕ
written_set strong n A = A
written_set clean n A = A
written_set splits n A = cond (has A 0) (complement n A) A

-- the written order: A comes before B
abbrev pub Before : ℕ → ℕ → ℕ → Type 0
Before n A B = (size n A < size n B) ⊎ ((size n A ≡ size n B) × (A < B))

-- each set comes before all that follow it
abbrev pub Rising : ℕ → List ℕ → Type 0
Rising n [] = Unit {0}
Rising n (A ∷ l) = ((B : ℕ) → B ∈ l → Before n A B) × Rising n l

-- "Strong listings have at most 2n − 2 lines, clean ones at most the larger of 0 and n − 2, splits at most the larger
-- of 0 and 2n − 3" (a difference of naturals is 0 where it would be negative)
unfoldable pub most_groups : Kind → ℕ → ℕ
most_groups strong n = 2 * n - 2
most_groups clean n = n - 2
most_groups splits n = 2 * n - 3

-- the linkage trees that have every group of a kind among their blocks: by this linkage, of these scores. Of strong
-- groups "the tree claim holds in every filling". A split is there by its written side, in the trees of the scores
-- anchored at the first entry.
unfoldable pub tree_linkage : Kind → Linkage
tree_linkage strong = single
tree_linkage clean = average
tree_linkage splits = single

abbrev pub TreeScores : Kind → ℕ → Similarity → Similarity → Type 0
TreeScores strong n s f = Fills score_limit n s f
TreeScores clean n s f = f ≡ s
TreeScores splits n d f = f ≡ farris d 0

-- those of one tree that has them too: of the numbers as lent, in which the mark of an unscored pair is one like any
-- other
unfoldable pub lent_scores : Kind → Similarity → Similarity
lent_scores strong s = s
lent_scores clean s = s
lent_scores splits d = farris d 0
