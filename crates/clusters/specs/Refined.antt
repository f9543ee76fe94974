-- The refined weight of a split (document 02, 2.5). The refined Buneman index of Moulton and Steel (004, section 5) is
-- the mean of the n − 3 smallest scores of quartets, each half of what is called the doubled score here; the weight is
-- 2(n − 3) times that. The split is that of a set A and the entries outside A.
use Rattle.std.specs.Prelude.{◌≡◌, ◌⊎◌, List, map, ℕ, ◌-◌, ◌<◌, ℤ, ◌+ℤ◌, ◌-ℤ◌, length}
use Rattle.lists.specs.Lists.{◌∈◌, each, Distinct}
use Rattle.integers.specs.Integers.{min_z, sum_of_smallest}
use Rattle.sets.specs.Sets.{◌∋◌, ◌∌◌, complement, Subset}
use Rattle.clusters.specs.PairList.{Similarity}
use Rattle.clusters.specs.Indices.{pairs_of}

-- a quartet aa'|bb'
pub record Quartet : Type 0 where
  pub a : ℕ
  pub a' : ℕ
  pub b : ℕ
  pub b' : ℕ

unfoldable pub quartet : ℕ × ℕ → ℕ × ℕ → Quartet
quartet (a, a') (b, b') = record { a = a; a' = a'; b = b; b' = b' }

-- "Take all quartets aa'|bb' with a, a' different on one side and b, b' different on the other, pairs unordered."
unfoldable pub quartets : ℕ → ℕ → List Quartet
quartets n A = each (pairs_of n A) λ aa. map (quartet aa) (pairs_of n (complement n A))

-- "A quartet's doubled score is the smaller of d(a,b) + d(a',b') and d(a,b') + d(a',b), less the sum d(a,a') +
-- d(b,b')."
unfoldable pub doubled_score : Similarity → Quartet → ℤ
doubled_score d q =
    min_z (d q.a q.b +ℤ d q.a' q.b') (d q.a q.b' +ℤ d q.a' q.b)
    -ℤ (d q.a q.a' +ℤ d q.b q.b')

-- "The weight is the sum of the n − 3 smallest."
unfoldable pub refined_weight : ℕ → Similarity → ℕ → ℤ
refined_weight n d A = sum_of_smallest (n - 3) (map (doubled_score d) (quartets n A))

-- The same with no list of all quartets: a quartet of the split, of each of its pairs the later entry first
pub record Across (n A : ℕ) (q : Quartet) : Type 0 where
  pub one_side : (q.a < n) × (q.a' < q.a) × (A ∋ q.a) × (A ∋ q.a')
  pub other_side : (q.b < n) × (q.b' < q.b) × (A ∌ q.b) × (A ∌ q.b')

-- n − 3 different ones
pub record Chosen (n A : ℕ) (qs : List Quartet) : Type 0 where
  pub number : length qs ≡ n - 3
  pub different : Distinct qs
  pub across : (q : Quartet) → q ∈ qs → Across n A q

-- the splits of A and of C do not cross: "some side of one lies within a side of the other"
abbrev pub Compatible : ℕ → ℕ → ℕ → Type 0
Compatible n A C =
    (Subset n A C ⊎ Subset n A (complement n C))
    ⊎ (Subset n (complement n A) C ⊎ Subset n (complement n A) (complement n C))
