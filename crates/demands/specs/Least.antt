-- The indices (document 01, Definitions), by the entries that they speak of: the least of all values, and one that has
-- it. No list of all values is named, and nothing is sorted.
use Rattle.std.specs.Prelude.{◌≡◌, ◌⊎◌, ◌≢◌, ◌↔◌, List, ℕ, ◌<◌, ℤ, pos, ◌+ℤ◌, ◌-ℤ◌, ◌≤ℤ◌}
use Rattle.lists.specs.Lists.{◌∈◌}
use Rattle.integers.specs.Integers.{sum_of}
use Rattle.sets.specs.Sets.{◌∋◌, ◌∌◌}
use Rattle.clusters.specs.PairList.{Similarity, score}
use Rattle.clusters.specs.Indices.{strong_index, clean_index, separation_index}
use Rattle.clusters.specs.declared.Group.{Group}
use Rattle.clusters.specs.Triples.{Triple, triple_weight, TripleOf, ChosenTriples}
use Rattle.demands.specs.Demands.{Wrote, Proper}

-- the same two entries, in one order or the other
abbrev pub SamePair : (x x' y y' : ℕ) → Type 0
SamePair x x' y y' = ((x ≡ y) × (x' ≡ y')) ⊎ ((x ≡ y') × (x' ≡ y))

-- two entries of A and one outside
pub record Inside (n A a a' x : ℕ) : Type 0 where
  pub there : (a < n) × (a' < n) × (x < n)
  pub in_A : (A ∋ a) × (A ∋ a')
  pub outside : A ∌ x

-- "the least s(a,a') − s(a,x), a and a' in A, x outside A. a and a' may be the same entry"
pub record StrongLeast (n : ℕ) (s : Similarity) (A : ℕ) (z : ℤ) : Type 0 where
  pub least : (a a' x : ℕ) → Inside n A a a' x → z ≤ℤ (s a a' -ℤ s a x)
  pub a : ℕ
  pub a' : ℕ
  pub x : ℕ
  pub these : Inside n A a a' x
  pub attained : z ≡ s a a' -ℤ s a x

-- a triple of which only the order of its pair is not told
pub record UnorderedTriple (n A : ℕ) (t : Triple) (a b c : ℕ) : Type 0 where
  pub of_A : TripleOf n A t
  pub pair : SamePair t.a t.b a b
  pub outside : t.c ≡ c

-- "the sum of the |A| − 1 smallest weights, equal weights counted each": no |A| − 1 different triples have a smaller
-- sum, and some have this one
pub record CleanLeast (n : ℕ) (s : Similarity) (A : ℕ) (z : ℤ) : Type 0 where
  pub least : (ts : List Triple) → ChosenTriples n A ts → z ≤ℤ sum_of ts (triple_weight s)
  pub triples : List Triple
  pub these : ChosenTriples n A triples
  pub attained : z ≡ sum_of triples (triple_weight s)

-- two entries of A and two outside
pub record OnBoth (n A a a' b b' : ℕ) : Type 0 where
  pub there : (a < n) × (a' < n) × (b < n) × (b' < n)
  pub in_A : (A ∋ a) × (A ∋ a')
  pub outside : (A ∌ b) × (A ∌ b')

-- "the least d(a,b) + d(a',b') − d(a,a') − d(b,b') .. a may equal a', b may equal b'"
pub record SeparationLeast (n : ℕ) (d : Similarity) (A : ℕ) (z : ℤ) : Type 0 where
  pub least : (a a' b b' : ℕ) → OnBoth n A a a' b b' → z ≤ℤ (d a b +ℤ d a' b' -ℤ d a a' -ℤ d b b')
  pub a : ℕ
  pub a' : ℕ
  pub b : ℕ
  pub b' : ℕ
  pub these : OnBoth n A a a' b b'
  pub attained : z ≡ d a b +ℤ d a' b' -ℤ d a a' -ℤ d b b'

pub record LeastIndices : Type 0 where
  -- each index is the least, and the least is the index: of every such set, for any n and any scores
  pub strong_index_lem : (n : ℕ) (s : Similarity) (A : ℕ) → Proper n A
      → (z : ℤ) → (z ≡ strong_index n s A) ↔ StrongLeast n s A z
  pub clean_index_lem : (n : ℕ) (s : Similarity) (A : ℕ) → Proper n A
      → (z : ℤ) → (z ≡ clean_index n s A) ↔ CleanLeast n s A z
  pub separation_index_lem : (n : ℕ) (d : Similarity) (A : ℕ) → Proper n A
      → (z : ℤ) → (z ≡ separation_index n d A) ↔ SeparationLeast n d A z
  -- "Triple weight: s(a,b) − the larger of s(a,c) and s(b,c)": together with either of the two it is not above s(a,b),
  -- and it is one of the two differences
  pub weight : (s : Similarity) (t : Triple) → let w = triple_weight s t in
      ((w +ℤ s t.a t.c) ≤ℤ s t.a t.b) × ((w +ℤ s t.b t.c) ≤ℤ s t.a t.b)
      × ((w ≡ s t.a t.b -ℤ s t.a t.c) ⊎ (w ≡ s t.a t.b -ℤ s t.b t.c))
  -- "for three different entries; {a,b} is unordered", "All triples with a, b in A and c outside": each is one, and
  -- there is no other
  pub unordered : (n A a b c : ℕ) → Inside n A a b c → a ≢ b
      → (t : Triple) × UnorderedTriple n A t a b c × ((u : Triple) → UnorderedTriple n A u a b c → u ≡ t)
  pub of_entries : (n A : ℕ) (t : Triple) → TripleOf n A t → Inside n A t.a t.b t.c × (t.a ≢ t.b)
  -- and of what a call wrote: kind 1, with unscored pairs too: no pair of an entry of a listed set is one (2.2,
  -- `touched`)
  pub strong : {n : ℕ} {l : List ℤ} {found : List Group} → Wrote (pos 1) n l found
      → (g : Group) → g ∈ found → StrongLeast n (score l) g.set g.index
  pub clean : {n : ℕ} {l : List ℤ} {found : List Group} → Wrote (pos 2) n l found
      → (g : Group) → g ∈ found → CleanLeast n (score l) g.set g.index
  pub separation : {n : ℕ} {l : List ℤ} {found : List Group} → Wrote (pos 3) n l found
      → (g : Group) → g ∈ found → SeparationLeast n (score l) g.set g.index
