-- Scores in a unit half as large (document 02, 2.6): each is twice the number, and the mark stays the mark.
use Rattle.std.specs.Prelude.{◌≡◌, ℕ, ◌<◌, ℤ, ◌+ℤ◌}
use Rattle.pairs.specs.declared.Carried.{Carried}
use Rattle.pairs.specs.declared.Carried.TheVariants.{Scored, Unscored}
use Rattle.pairs.specs.Pairs.{carried}
use Rattle.clusters.specs.PairList.{Similarity}
use Rattle.clusters.specs.declared.Group.{Group}

unfoldable pub twice : ℤ → ℤ
twice z = z +ℤ z

unfoldable pub doubled_pair : Carried → Carried
doubled_pair (Scored z) = Scored (twice z)
doubled_pair Unscored = Unscored

-- t has the scores of s doubled, for n entries
pub record Doubles (n : ℕ) (s t : Similarity) : Type 0 where
  pub pairs : (a b : ℕ) → a < n → b < n → carried (t a b) ≡ doubled_pair (carried (s a b))

-- a group or split with twice its index
unfoldable pub doubled_group : Group → Group
doubled_group g = record { set = g.set; index = twice g.index }
