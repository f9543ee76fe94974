-- The sizes that a kind speaks of, and what the code for the indices asks.
use mathlib.Core.Path.{◌≡◌, refl, sym, subst}
use mathlib.Core.Bool.{Bool, true, false, not, cond, ◌&&◌}
use mathlib.Core.List.{List}
use Prim.Native.Nat.{ℕ, ◌^◌, ◌≤◌, ◌<◌}
use native.Mathlib.Omega.{arith}
use borrow.Author.Tests.{lt-leb, le-leb}
use lib.Dec.{T, leb, ltb, lit≤}
use lib.IntN.{ℤ, pos}
use Rattle.lists.specs.Lists.{all}
use Rattle.lists.proofs.Tests.{false_T}
use Rattle.integers.specs.Integers.{eq_z}
use Rattle.integers.specs.Range.{Within}
use Rattle.integers.proofs.Range.{within_grow}
use Rattle.sets.specs.Sets.{◌∋◌, size}
use Rattle.sets.proofs.Sizes.{size_wide}
use Rattle.pairs.proofs.Pairs.{scored_is}
use Rattle.clusters.specs.PairList.{score, one_point, point_limit, score_limit, in_range, is_allowed_pair, has_unscored}
use Rattle.clusters.specs.Touched.{untouched}
use Rattle.clusters.specs.Groups.{Kind, strong, clean, splits, proper, speaks_of, kind_of}
use Rattle.clusters.proofs.Groups.{least_size, speaks_size}
use Rattle.clusters.proofs.Scored.{allowed_within, list_allowed, scored_in_range}
use Rattle.clusters.proofs.Untouched.{of_untouched}
use Rattle.interface.specs.Refusals.{first_of, pair_checks, wrong_unscored}
use Rattle.interface.proofs.Refusals.{under}
use Rattle.matrix.specs.Checks.{Checked}
use Rattle.matrix.specs.Rows.{Scores}
use Rattle.matrix.proofs.Checks.{checked}
use Rattle.indices.specs.Asked.{Proper}
use Rattle.kinds.specs.Kinds.{scored_for, Accepted}

module _ {least n A m : ℕ} (most : n ≤ 32) (low : A < 2 ^ n) (e : m ≡ size 32 A) where
  pub too_small : m < least → false ≡ leb least (size n A) && proper n A
  too_small h = rw (lt-leb least (size n A) (omega (arith, size_wide n 32 A low most)))

  pub large_enough : least ≤ m → ltb m n ≡ leb least (size n A) && proper n A
  unfolding proper
  large_enough h = let p : m ≡ size n A = omega (arith, size_wide n 32 A low most) in rw (le-leb least (size n A) (omega arith), p)

-- what the code for the indices asks
pub checked_scores : {n : ℕ} {l : List ℤ} → Checked n l → Scores n l
checked_scores {n} {l} c = record { few = c.few; long = c.long }

-- of scores only
pub accepted_range : {l : List ℤ} {n : ℕ} → Checked n l → T (not (has_unscored l)) → T (in_range l)
accepted_range {l} c t = scored_in_range l c.range t

-- of the members of a set that no unscored pair touches
pub untouched_small : {n : ℕ} {l : List ℤ} → Checked n l → (A : ℕ) → T (untouched n (score l) A) → (a : ℕ) → a < n → A ∋ a → (y : ℕ) → y < n → Within (2 ^ 22) (score l a y)
unfolding one_point point_limit score_limit
untouched_small {n} {l} c A t a ha ka y hy =
    let q = scored_is (of_untouched n (score l) A t a y ha hy ka) in
    within_grow (lit≤ tt) (allowed_within (subst (λ p. T (is_allowed_pair score_limit p)) q (list_allowed n l c.long c.range a y ha hy)))

-- what 6, 10 and 11 leave
pub left : (n : ℕ) (l : List ℤ) → 0 ≡ first_of (pair_checks n l) → Checked n l
unfolding under all
left n l e = checked n l (pair_checks n l) tt (sym e) refl refl refl

-- what 16 leaves to each kind
pub accepted : (kind : ℤ) {n : ℕ} {l : List ℤ} → Checked n l → wrong_unscored kind l ≡ false → Accepted (kind_of kind) n l
unfolding wrong_unscored kind_of
accepted kind {n} {l} c e = record { checked = c; scored = go (eq_z kind (pos 1)) (eq_z kind (pos 2)) e }
  where
    go : (a b : Bool) → not a && has_unscored l ≡ false → T (scored_for (cond a strong (cond b clean splits)) l)
    go true b e = tt
    go false true e = false_T e
    go false false e = false_T e

pub spoken : (n A : ℕ) → A < 2 ^ n → (kind : Kind) → T (speaks_of kind n A) → Proper n A
unfolding least_size
spoken n A low strong t = let (some, rest) = speaks_size strong n A t in record { fits = low; some = some; rest = rest }
spoken n A low clean t = let (some, rest) = speaks_size clean n A t in record { fits = low; some = omega arith; rest = rest }
spoken n A low splits t = let (some, rest) = speaks_size splits n A t in record { fits = low; some = some; rest = rest }
