-- Pooled scores (document 02, 2.4).
use Rattle.std.specs.Prelude.{ℕ, ◌+ℤ◌}
use Rattle.pairs.specs.declared.Carried.{Carried}
use Rattle.pairs.specs.declared.Carried.TheVariants.{Scored, Unscored}
use Rattle.pairs.specs.Pairs.{number_for, carried}
use Rattle.clusters.specs.PairList.{Similarity}

-- "each score is the sum. A pair unscored in either is unscored in the pool."
unfoldable pub added : Carried → Carried → Carried
added (Scored y) (Scored z) = Scored (y +ℤ z)
added (Scored y) Unscored = Unscored
added Unscored p = Unscored

-- the pool of the scores s and t, of which t has entry i of s as its entry q i
unfoldable pub pooled : (q : ℕ → ℕ) → Similarity → Similarity → Similarity
pooled q s t i j = number_for (added (carried (s i j)) (carried (t (q i) (q j))))
