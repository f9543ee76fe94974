-- Pairs that were never compared (document 02, 2.2): fillings, and the least strong index over all of them. The allowed
-- range of a score is from −limit to limit.
use Rattle.std.specs.Prelude.{◌≡◌, cond, ℕ, ◌<◌, ℤ, pos, neg_ℤ, ◌≤ℤ◌, T}
use Rattle.std.specs.Bool.{xor}
use Rattle.integers.specs.Range.{Within}
use Rattle.sets.specs.Sets.{has}
use Rattle.pairs.specs.declared.Carried.{Carried}
use Rattle.pairs.specs.declared.Carried.TheVariants.{Scored, Unscored}
use Rattle.pairs.specs.Pairs.{carried, is_scored}
use Rattle.clusters.specs.PairList.{Similarity, Symmetric, is_allowed_pair}
use Rattle.clusters.specs.Indices.{strong_index}

-- "A filling gives each unscored pair any score in the allowed range": the scores that a filling may have for a pair
abbrev pub Fill : (limit : ℕ) → Carried → ℤ → Type 0
Fill limit (Scored z) y = y ≡ z
Fill limit Unscored y = Within limit y

-- f is a filling of the scores s of n entries. A pair has one score for both its places; "Own pairs may carry it too."
pub record Fills (limit n : ℕ) (s f : Similarity) : Type 0 where
  pub symmetric : Symmetric f
  pub pairs : (a b : ℕ) → a < n → b < n → Fill limit (carried (s a b)) (f a b)

-- "A strong index is then the least over all fillings": no filling has a smaller one, and some filling has this one
pub record LeastFilling (limit n : ℕ) (s : Similarity) (A : ℕ) (z : ℤ) : Type 0 where
  pub least : (f : Similarity) → Fills limit n s f → z ≤ℤ strong_index n f A
  pub filling : Similarity
  pub fills : Fills limit n s filling
  pub attained : strong_index n filling A ≡ z

-- every pair is scored
abbrev pub AllScored : ℕ → Similarity → Type 0
AllScored n s = (a b : ℕ) → a < n → b < n → T (is_scored (carried (s a b)))

-- "Scoring one more pair", or several: a score stays as it is, an unscored pair may get one in the allowed range
abbrev pub Scoring : (limit : ℕ) → Carried → Carried → Type 0
Scoring limit (Scored z) later = later ≡ Scored z
Scoring limit Unscored later = T (is_allowed_pair limit later)

pub record ScoredMore (limit n : ℕ) (s later : Similarity) : Type 0 where
  pub pairs : (a b : ℕ) → a < n → b < n → Scoring limit (carried (s a b)) (carried (later a b))

-- The least index by computing (theorem `least-filling`): that of the filling which is worst for A.
-- the least and the greatest score that a filling may have for a pair
unfoldable pub low : (limit : ℕ) → Carried → ℤ
low limit (Scored z) = z
low limit Unscored = neg_ℤ (pos limit)

unfoldable pub high : (limit : ℕ) → Carried → ℤ
high limit (Scored z) = z
high limit Unscored = pos limit

-- an unscored pair of a member of A and an entry outside gets the greatest score, any other the least
unfoldable pub worst : (limit A : ℕ) → Similarity → Similarity
worst limit A s a b = cond (xor (has A a) (has A b)) (high limit (carried (s a b))) (low limit (carried (s a b)))

unfoldable pub filled_index : (limit n : ℕ) → Similarity → ℕ → ℤ
filled_index limit n s A = strong_index n (worst limit A s) A
