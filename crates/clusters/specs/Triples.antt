-- The clean index (document 01, Definitions) with no list of all triples and no sorting: what a triple of A is, and
-- |A| − 1 different ones.
use Rattle.std.specs.Prelude.{◌≡◌, List, ℕ, ◌-◌, ◌<◌, ℤ, length}
use Rattle.lists.specs.Lists.{◌∈◌, Distinct}
use Rattle.sets.specs.Sets.{◌∋◌, ◌∌◌, size}
use Rattle.clusters.specs.PairList.{Similarity}
use Rattle.clusters.specs.Indices.{weight}

-- a triple ab|c
pub record Triple : Type 0 where
  pub a : ℕ
  pub b : ℕ
  pub c : ℕ

-- "Triple weight: s(a,b) − the larger of s(a,c) and s(b,c)"
unfoldable pub triple_weight : Similarity → Triple → ℤ
triple_weight s t = weight s t.a t.b t.c

-- "All triples with a, b in A and c outside", "for three different entries; {a,b} is unordered": of the pair the later
-- entry first
pub record TripleOf (n A : ℕ) (t : Triple) : Type 0 where
  pub pair : (t.a < n) × (t.b < t.a) × (A ∋ t.a) × (A ∋ t.b)
  pub outside : (t.c < n) × (A ∌ t.c)

-- |A| − 1 different ones
pub record ChosenTriples (n A : ℕ) (ts : List Triple) : Type 0 where
  pub number : length ts ≡ size n A - 1
  pub different : Distinct ts
  pub of_A : (t : Triple) → t ∈ ts → TripleOf n A t
