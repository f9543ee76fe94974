-- The sum of two pairs, as the code makes it, and its size.
use mathlib.Core.Path.{◌≡◌, refl, sym, ap, ap₂, subst, ◌∙◌}
use mathlib.Core.Bool.{true, false}
use Prim.Native.Nat.{◌-◌, ◌^◌}
use lib.Dec.{T, lit≤}
use lib.IntN.{ℤ, ◌+ℤ◌}
use Rattle.lists.proofs.Tests.{true_T}
use Rattle.integers.specs.Integers.{eq_z}
use Rattle.integers.specs.Range.{Within}
use Rattle.integers.proofs.Linear.{eq_z_yes}
use Rattle.integers.proofs.Range.{within_grow, within_sum}
use Rattle.pairs.specs.declared.Carried.{Carried}
use Rattle.pairs.specs.declared.Carried.TheVariants.{Scored, Unscored}
use Rattle.pairs.specs.Pairs.{mark, number_for, carried}
use Rattle.clusters.specs.PairList.{one_point, point_limit, score_limit, is_allowed_pair}
use Rattle.clusters.specs.Pooling.{added}
use Rattle.clusters.proofs.Scored.{allowed_within}

marked : (x : ℤ) → eq_z x mark ≡ true → carried x ≡ Unscored
unfolding carried
marked x e = rw e

scored : {x : ℤ} → eq_z x mark ≡ false → carried x ≡ Scored x
unfolding carried
scored e = rw e

-- the mark, if the first or the second is the mark; else the sum
pub first_marked : {x : ℤ} (y : ℤ) → eq_z x mark ≡ true → x ≡ number_for (added (carried x) (carried y))
unfolding added number_for
first_marked {x} y e = eq_z_yes x mark (true_T e) ∙ sym (ap (λ p. number_for (added p (carried y))) (marked x e))

pub second_marked : (x : ℤ) {y : ℤ} → eq_z y mark ≡ true → y ≡ number_for (added (carried x) (carried y))
unfolding added number_for
second_marked x {y} e = eq_z_yes y mark (true_T e) ∙ sym (ap (λ p. number_for (added (carried x) p)) (marked y e) ∙ go (carried x))
  where
    go : (p : Carried) → number_for (added p Unscored) ≡ mark
    go (Scored z) = refl
    go Unscored = refl

pub both_scored : (x y : ℤ) → eq_z x mark ≡ false → eq_z y mark ≡ false → x +ℤ y ≡ number_for (added (carried x) (carried y))
unfolding added number_for
both_scored x y e f = sym (ap₂ (λ p q. number_for (added p q)) (scored e) (scored f))

-- an allowed score is small, and so is the sum of two
score_small : {x : ℤ} → T (is_allowed_pair score_limit (carried x)) → eq_z x mark ≡ false → Within 2000000 x
unfolding score_limit one_point point_limit
score_small t e = allowed_within (subst (λ p. T (is_allowed_pair score_limit p)) (scored e) t)

pub sum_small : (x y : ℤ) → T (is_allowed_pair score_limit (carried x)) → T (is_allowed_pair score_limit (carried y))
    → eq_z x mark ≡ false → eq_z y mark ≡ false → Within (2 ^ 31 - 1) (x +ℤ y)
sum_small x y t u e f = within_grow (lit≤ tt) (within_sum (score_small t e) (score_small u f))
