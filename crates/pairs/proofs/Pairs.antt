-- What a number of the pair list stands for.
use mathlib.Core.Path.{◌≡◌, refl, sym, ap, ◌∙◌, subst}
use mathlib.Core.Bool.{Bool, true, false, not, cond}
use mathlib.Core.Logic.{◌⊎◌, inl, inr, ◌≢◌}
use lib.IntN.{ℤ}
use lib.Dec.{T}
use Rattle.lists.proofs.Tests.{cond_elim}
use Rattle.integers.specs.Integers.{eq_z}
use Rattle.integers.proofs.Linear.{eq_z_yes}
use Rattle.pairs.specs.declared.Carried.TheVariants.{Scored, Unscored}
use Rattle.pairs.specs.Pairs.{mark, number_for, list_number, carried, pair_of, is_scored}

-- a score, or the mark
abbrev pub Cases : ℤ → Type 0
Cases z = (carried z ≡ Scored z) ⊎ ((z ≡ mark) × (carried z ≡ Unscored))

pub carried_cases : (z : ℤ) → Cases z
unfolding carried
carried_cases z = cond_elim (eq_z z mark) Unscored (Scored z) (λ p. (p ≡ Scored z) ⊎ ((z ≡ mark) × (p ≡ Unscored)))
    (λ t. inr (eq_z_yes z mark t, refl)) (λ t. inl refl)

-- the mark is unscored, any other number is a score
pub marked : {z : ℤ} → z ≡ mark → carried z ≡ Unscored
unfolding carried eq_z mark
marked e = ap carried e

pub unmarked : {z : ℤ} → z ≢ mark → carried z ≡ Scored z
unmarked {z} f = go (carried_cases z)
  where
    go : Cases z → carried z ≡ Scored z
    go (inl e) = e
    go (inr (m, _)) = absurd (f m)

-- the pair of a number has that number
pub number_carried : (z : ℤ) → number_for (carried z) ≡ z
unfolding number_for
number_carried z = go (carried_cases z)
  where
    go : Cases z → number_for (carried z) ≡ z
    go (inl e) = ap number_for e
    go (inr (m, e)) = ap number_for e ∙ sym m

pub number_pair : (z : ℤ) → list_number (pair_of z) ≡ z
unfolding list_number pair_of
number_pair z = number_carried z

-- a number that is scored is a score
pub scored_is : {z : ℤ} → T (is_scored (carried z)) → carried z ≡ Scored z
unfolding is_scored
scored_is t = unmarked (λ m. subst (λ p. T (is_scored p)) (marked m) t)

pub is_scored_lem : {z : ℤ} → carried z ≡ Scored z → T (is_scored (carried z))
unfolding is_scored
is_scored_lem e = subst (λ p. T (is_scored p)) (sym e) tt

-- the test as the code makes it
pub scored_test : (z : ℤ) → not (eq_z z mark) ≡ is_scored (carried z)
unfolding carried is_scored
scored_test z = go (eq_z z mark)
  where
    go : (b : Bool) → not b ≡ is_scored (cond b Unscored (Scored z))
    go true = refl
    go false = refl
