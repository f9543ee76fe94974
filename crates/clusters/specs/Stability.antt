-- Stable sets (003, the stability index, as sums): between clean groups and the blocks of the average linkage trees.
use Rattle.std.specs.Prelude.{◌≡◌, map, ℕ, ◌≤◌, ℤ, pos, ◌<ℤ◌}
use Rattle.lists.specs.Lists.{each}
use Rattle.integers.specs.Integers.{sum}
use Rattle.sets.specs.Sets.{members, size, ◌∪◌, Disjoint}
use Rattle.clusters.specs.PairList.{Similarity}
use Rattle.clusters.specs.Indices.{weight}

-- the sum of the weights of all triples uw|z, u in U, w in W, z in Z
unfoldable pub triple_sum : ℕ → Similarity → ℕ → ℕ → ℕ → ℤ
triple_sum n s U W Z = sum (each (members n U) λ u. each (members n W) λ w. map (weight s u w) (members n Z))

-- U and W are a division of A into two parts, and Z lies outside A; none of the three is empty
pub record Division (n A U W Z : ℕ) : Type 0 where
  pub some_u : 1 ≤ size n U
  pub some_w : 1 ≤ size n W
  pub some_z : 1 ≤ size n Z
  pub apart : Disjoint n U W
  pub whole : U ∪ W ≡ A
  pub outside : Disjoint n Z A

-- for every division of A and every set outside, the sum (and so the average) of the weights is positive
pub record Stable (n : ℕ) (s : Similarity) (A : ℕ) : Type 0 where
  pub positive : (U W Z : ℕ) → Division n A U W Z → pos 0 <ℤ triple_sum n s U W Z
