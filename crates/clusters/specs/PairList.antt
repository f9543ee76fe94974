-- The pair list (document 01, The sheet): "the lower triangle with own pairs, row by row, n(n+1)/2 signed 32-bit
-- numbers".
use Rattle.std.specs.Prelude.{◌≡◌, Bool, true, not, ◌&&◌, List, map, ℕ, suc, ◌+◌, ◌*◌, ◌/◌, max, min, ℤ, pos, neg_ℤ}
use Rattle.std.specs.Prelude.{eqb, length, get_or}
use Rattle.std.specs.Int.Signed.{le_z}
use Rattle.lists.specs.Lists.{below, each, all}
use Rattle.integers.specs.Integers.{eq_z}
use Rattle.pairs.specs.declared.Carried.{Carried}
use Rattle.pairs.specs.declared.Carried.TheVariants.{Scored, Unscored}
use Rattle.pairs.specs.Pairs.{carried, is_scored}

-- s(a,b), the score of two entries: a similarity function. For kind 3 and the anchored scores, d(a,b): a dissimilarity.
abbrev pub Similarity : Type 0
Similarity = ℕ → ℕ → ℤ

-- "any symmetric function from pairs of objects" (003), as the score in a pair list is
abbrev pub Symmetric : Similarity → Type 0
Symmetric s = (a b : ℕ) → s a b ≡ s b a

-- "the row starts 0, 1, 3, 6 and so on": row i starts at i(i+1)/2
unfoldable pub row_start : ℕ → ℕ
row_start i = i * (i + 1) / 2

-- where the pair of a and b stands
unfoldable pub place : ℕ → ℕ → ℕ
place a b = row_start (max a b) + min a b

-- "Scores are looked up by two entries in the pair list"
unfoldable pub score : List ℤ → Similarity
score l a b = get_or l (place a b) (pos 0)

-- the pair list of n entries that holds s
unfoldable pub pair_list : ℕ → Similarity → List ℤ
pair_list n s = each (below n) λ a. map (s a) (below (suc a))

-- The unit. "The value reader now answers in half points" (document 02, 2.6): a point is 2 of the list's unit. Sheets
-- and listings are written in points.
unfoldable pub one_point : ℕ
one_point = 2

-- what checks 10, 11, 16 and 12 pass (Where a call is turned away); the range of 11, "the same in points", is from
-- −point_limit to point_limit, in the list's unit from −score_limit to score_limit, and no theorem knows the number
unfoldable pub point_limit : ℕ
point_limit = 1000000

unfoldable pub score_limit : ℕ
score_limit = one_point * point_limit

unfoldable pub has_length : ℕ → List ℤ → Bool
has_length n l = eqb (length l) (row_start n)

unfoldable pub is_in_range : (limit : ℕ) → ℤ → Bool
is_in_range limit z = le_z (neg_ℤ (pos limit)) z && le_z z (pos limit)

unfoldable pub in_range : List ℤ → Bool
in_range l = all (is_in_range score_limit) l

-- with unscored pairs (document 02, 2.2): the mark is "exempt from 11"
unfoldable pub is_allowed_pair : (limit : ℕ) → Carried → Bool
is_allowed_pair limit (Scored z) = is_in_range limit z
is_allowed_pair limit Unscored = true

unfoldable pub scores_in_range : List ℤ → Bool
scores_in_range l = all (λ v. is_allowed_pair score_limit (carried v)) l

-- 16: "a sheet with an unscored pair"
unfoldable pub has_unscored : List ℤ → Bool
has_unscored l = not (all (λ v. is_scored (carried v)) l)

unfoldable pub are_distances : ℕ → List ℤ → Bool
are_distances n l = all (le_z (pos 0)) l && all (λ a. eq_z (score l a a) (pos 0)) (below n)
