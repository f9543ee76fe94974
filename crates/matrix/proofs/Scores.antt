-- The size of a number of the pair list: a score that passes check 11 is within 2 ^ 22, the mark within 2 ^ 31.
use mathlib.Core.Path.{◌≡◌, sym, subst}
use mathlib.Core.Logic.{◌⊎◌, inl, inr}
use mathlib.Core.List.{List}
use Prim.Native.Nat.{ℕ, ◌^◌}
use lib.Dec.{T, lit≤}
use lib.IntN.{ℤ, pos}
use lib.ListN.{get_or}
use Rattle.lists.proofs.Lists.{all_in}
use Rattle.integers.specs.Range.{Within, Bounded}
use Rattle.integers.proofs.Linear.{up, dn}
use Rattle.integers.proofs.Range.{within, within_grow, value_within}
use Rattle.pairs.specs.Pairs.{mark, carried}
use Rattle.clusters.specs.PairList.{score, one_point, point_limit, score_limit, in_range, is_allowed_pair, scores_in_range}
use Rattle.clusters.proofs.Scored.{range_limit, allowed_cases}
use Rattle.clusters.proofs.Bounds.{score_within}

pub range_bounded : (l : List ℤ) → T (in_range l) → Bounded (2 ^ 22) l
unfolding one_point point_limit score_limit
range_bounded l t z m = within_grow (lit≤ tt) (range_limit l t z m)

mark_within : Within (2 ^ 31) mark
unfolding mark up dn
mark_within = within (lit≤ tt) (lit≤ tt)

pub lent_bounded : (l : List ℤ) → T (scores_in_range l) → Bounded (2 ^ 31) l
unfolding scores_in_range one_point point_limit score_limit
lent_bounded l t z m = go (allowed_cases (all_in (λ v. is_allowed_pair score_limit (carried v)) l t m))
  where
    go : (z ≡ mark) ⊎ Within score_limit z → Within (2 ^ 31) z
    go (inl e) = subst (Within (2 ^ 31)) (sym e) mark_within
    go (inr h) = within_grow (lit≤ tt) h

-- small numbers are far from the limits of 64 bits
module _ {l : List ℤ} (h : Bounded (2 ^ 22) l) where
  pub score_safe : (a b : ℕ) → Within (2 ^ 61) (score l a b)
  score_safe a b = within_grow (lit≤ tt) (score_within h a b)

  pub value_safe : (i : ℕ) → Within (2 ^ 61) (get_or l i (pos 0))
  value_safe i = within_grow (lit≤ tt) (value_within l i h)
