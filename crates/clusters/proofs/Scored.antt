-- What checks 11 and 16 leave of a pair list.
use mathlib.Core.Path.{◌≡◌, refl, sym, subst}
use mathlib.Core.Bool.{Bool, true, false, not, cond, ◌||◌}
use mathlib.Core.Logic.{◌⊎◌, inl, inr, ◌↔◌}
use mathlib.Core.List.Memᴰ
use mathlib.Core.List.{List}
use Prim.Native.Nat.{ℕ, ◌<◌}
use lib.IntN.{ℤ, pos, neg_ℤ}
use lib.Signed.{le_z, le_z_yes}
use lib.Dec.{T, T_not, not_T}
use lib.ListN.{length}
use Rattle.lists.specs.Lists.{◌∈◌, all}
use Rattle.lists.proofs.Tests.{and_T, T_and}
use Rattle.lists.proofs.Lists.{all_in, in_all, some_fails}
use Rattle.integers.specs.Integers.{eq_z}
use Rattle.integers.specs.Range.{Within, Bounded}
use Rattle.pairs.specs.declared.Carried.TheVariants.{Scored, Unscored}
use Rattle.pairs.specs.Pairs.{mark, carried, is_scored}
use Rattle.pairs.proofs.Pairs.{Cases, carried_cases, scored_is, is_scored_lem}
use Rattle.clusters.specs.PairList.{Similarity, row_start, score, score_limit, is_in_range, in_range, is_allowed_pair, scores_in_range, has_unscored}
use Rattle.clusters.specs.Fillings.{AllScored}
use Rattle.clusters.proofs.PairList.{score_element}

-- every score of the pairs of n entries is allowed
abbrev pub AllAllowed : (limit n : ℕ) → Similarity → Type 0
AllAllowed limit n s = (a b : ℕ) → a < n → b < n → T (is_allowed_pair limit (carried (s a b)))

pub range_within : {limit : ℕ} {z : ℤ} → T (is_in_range limit z) → Within limit z
unfolding is_in_range
range_within {limit} {z} t = let (l, u) = and_T (le_z (neg_ℤ (pos limit)) z) (le_z z (pos limit)) t in record { top = le_z_yes u; low = le_z_yes l }

pub within_range : {limit : ℕ} {z : ℤ} → Within limit z → T (is_in_range limit z)
unfolding is_in_range
within_range {limit} {z} h = T_and (le_z (neg_ℤ (pos limit)) z) (le_z z (pos limit)) h.low.le h.top.le

pub allowed_within : {limit : ℕ} {z : ℤ} → T (is_allowed_pair limit (Scored z)) → Within limit z
unfolding is_allowed_pair
allowed_within t = range_within t

-- an allowed number is the mark or a score in range
pub allowed_cases : {limit : ℕ} {z : ℤ} → T (is_allowed_pair limit (carried z)) → (z ≡ mark) ⊎ Within limit z
allowed_cases {limit} {z} t = go (carried_cases z)
  where
    go : Cases z → (z ≡ mark) ⊎ Within limit z
    go (inl e) = inr (allowed_within (subst (λ p. T (is_allowed_pair limit p)) e t))
    go (inr (m, _)) = inl m

pub within_allowed : {limit : ℕ} {z : ℤ} → Within limit z → T (is_allowed_pair limit (carried z))
unfolding is_allowed_pair
within_allowed {limit} {z} h = go (carried_cases z)
  where
    go : Cases z → T (is_allowed_pair limit (carried z))
    go (inl e) = subst (λ p. T (is_allowed_pair limit p)) (sym e) (within_range h)
    go (inr (_, e)) = subst (λ p. T (is_allowed_pair limit p)) (sym e) tt

-- the test as the code makes it
pub allowed_test : (limit : ℕ) (z : ℤ) → eq_z z mark || is_in_range limit z ≡ is_allowed_pair limit (carried z)
unfolding carried is_allowed_pair
allowed_test limit z = go (eq_z z mark)
  where
    go : (b : Bool) → b || is_in_range limit z ≡ is_allowed_pair limit (cond b Unscored (Scored z))
    go true = refl
    go false = refl

mark_unscored : T (is_scored (carried mark)) → ⊥
unfolding carried eq_z mark is_scored
mark_unscored t = t

-- a pair list of n entries that passes 11, and one that has no unscored pair
module _ (n : ℕ) (l : List ℤ) (long : length l ≡ row_start n) where
  pub list_allowed : T (scores_in_range l) → AllAllowed score_limit n (score l)
  unfolding scores_in_range
  list_allowed t a b ha hb = all_in (λ v. is_allowed_pair score_limit (carried v)) l t (score_element n l long ha hb)

-- a list has an unscored pair exactly if the mark stands in it
pub unscored_there : (l : List ℤ) → T (has_unscored l) ↔ (mark ∈ l)
unfolding has_unscored
unscored_there l = (
  λ t. let (v, m, f) = some_fails (λ v. is_scored (carried v)) l t in at v m f (carried_cases v),
  λ m. not_T (all (λ v. is_scored (carried v)) l) (λ t. mark_unscored (all_in (λ v. is_scored (carried v)) l t m)),
)
  where
    at : (v : ℤ) → v ∈ l → T (not (is_scored (carried v))) → Cases v → mark ∈ l
    at v m f (inl e) = absurd (T_not (is_scored (carried v)) f (is_scored_lem e))
    at v m f (inr (e, _)) = Memᴰ.cast (sym e) m

all_scored : (l : List ℤ) → T (not (has_unscored l)) → (z : ℤ) → z ∈ l → T (is_scored (carried z))
all_scored l t z m = at (carried_cases z)
  where
    at : Cases z → T (is_scored (carried z))
    at (inl e) = is_scored_lem e
    at (inr (e, _)) = absurd (T_not (has_unscored l) t ((unscored_there l).1 (Memᴰ.cast (sym e) m)))

pub list_scored : (n : ℕ) (l : List ℤ) → length l ≡ row_start n → T (not (has_unscored l)) → AllScored n (score l)
list_scored n l long t a b ha hb = all_scored l t (score l a b) (score_element n l long ha hb)

pub range_limit : (l : List ℤ) → T (in_range l) → Bounded score_limit l
unfolding in_range
range_limit l t z m = range_within (all_in (is_in_range score_limit) l t m)

-- with no unscored pair every number is in range
pub scored_in_range : (l : List ℤ) → T (scores_in_range l) → T (not (has_unscored l)) → T (in_range l)
unfolding scores_in_range in_range is_allowed_pair
scored_in_range l t u = in_all (is_in_range score_limit) l (λ z m.
    subst (λ p. T (is_allowed_pair score_limit p)) (scored_is (all_scored l u z m)) (all_in (λ v. is_allowed_pair score_limit (carried v)) l t m))
