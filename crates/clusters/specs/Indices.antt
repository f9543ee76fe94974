-- The indices of a set of entries (document 01, Definitions), by enumeration of all that they speak of.
use Rattle.std.specs.Prelude.{List, map, ℕ, ◌-◌, ℤ, ◌+ℤ◌, ◌-ℤ◌}
use Rattle.lists.specs.Lists.{each}
use Rattle.integers.specs.Integers.{max_z, least, sum_of_smallest}
use Rattle.sets.specs.Sets.{members, others, size}
use Rattle.clusters.specs.PairList.{Similarity}

-- Strong index (003, formula 1, the strong isolation index): "the least s(a,a') − s(a,x), a and a' in A, x outside A.
-- a and a' may be the same entry"
unfoldable pub strong_values : ℕ → Similarity → ℕ → List ℤ
strong_values n s A = each (members n A) λ a. each (members n A) λ a'. map (λ x. s a a' -ℤ s a x) (others n A)

unfoldable pub strong_index : ℕ → Similarity → ℕ → ℤ
strong_index n s A = least (strong_values n s A)

-- Triple weight (003, formula 4, of the rooted triple ab|c): "s(a,b) − the larger of s(a,c) and s(b,c)"
unfoldable pub weight : Similarity → ℕ → ℕ → ℕ → ℤ
weight s a b c = s a b -ℤ max_z (s a c) (s b c)

-- the unordered pairs {a,b} of different members, each once: b before a
unfoldable pub pairs_of : ℕ → ℕ → List (ℕ × ℕ)
pairs_of n A = each (members n A) λ a. map (λ b. (a, b)) (members a A)

-- Clean index (003, the clean cluster index, times |A| − 1): "All triples with a, b in A and c outside; the sum of the
-- |A| − 1 smallest weights, equal weights counted each"
unfoldable pub weights : ℕ → Similarity → ℕ → List ℤ
weights n s A = each (pairs_of n A) λ (a, b). map (weight s a b) (others n A)

unfoldable pub clean_index : ℕ → Similarity → ℕ → ℤ
clean_index n s A = sum_of_smallest (size n A - 1) (weights n s A)

-- Separation index of the split A|B, B all entries outside A (003, formula 2, the strong separation index, doubled):
-- "the least d(a,b) + d(a',b') − d(a,a') − d(b,b') .. a may equal a', b may equal b'"
unfoldable pub separation_values : ℕ → Similarity → ℕ → List ℤ
separation_values n d A =
    each (members n A) λ a. each (members n A) λ a'. each (others n A) λ b.
    map (λ b'. d a b +ℤ d a' b' -ℤ d a a' -ℤ d b b') (others n A)

unfoldable pub separation_index : ℕ → Similarity → ℕ → ℤ
separation_index n d A = least (separation_values n d A)
