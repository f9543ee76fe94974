-- The size of anchored scores and of distances back, and of what the code adds up for them.
use mathlib.Core.Path.{◌≡◌, refl, sym, subst}
use mathlib.Core.List.{List}
use Prim.Native.Nat.{ℕ, ◌+◌, ◌-◌, ◌^◌, ◌<◌}
use native.Mathlib.Omega.{arith}
use lib.Dec.{T}
use lib.IntN.{ℤ, pos, ◌+ℤ◌, ◌-ℤ◌}
use lib.Signed.{quot_z}
use mir.Facts.{to_z-of_z}
use mir.Syntax.{w64}
use mir.Val.{SFits, of_z, to_z}
use Rattle.std.proofs.lemmas.Int.{ints}
use Rattle.integers.specs.Integers.{half}
use Rattle.integers.specs.Range.{Within, Bounded}
use Rattle.integers.proofs.Range.{within_grow, within_fits, within_sum, within_difference}
use Rattle.clusters.specs.PairList.{score, one_point, point_limit, score_limit, in_range}
use Rattle.clusters.specs.Farris.{farris, unfarris, anchored_scores, distances_back}
use Rattle.clusters.proofs.PairList.{of_pair_list}
use Rattle.clusters.proofs.Farris.{score_back}
use Rattle.clusters.proofs.Scored.{range_limit}
use Rattle.clusters.proofs.Bounds.{score_within}

-- half of a number of the machine is one
half_fits : {z : ℤ} → SFits w64 z → SFits w64 (quot_z z (pos 2))
half_fits f = grind (arith, ints)

-- what a local of the machine holds
abbrev m : ℤ → ℤ
m z = to_z w64 (of_z w64 z)

-- the distance of two entries as the machine finds it, from their own scores and that of the two
pub back_value : {u v w : ℤ} → Within (2 ^ 31) u → Within (2 ^ 31) v → Within (2 ^ 31) w
    → m (quot_z (m (m (m u +ℤ m v) -ℤ m (m w +ℤ m w))) (pos 2)) ≡ half (u +ℤ v -ℤ (w +ℤ w))
unfolding half
back_value {u} {v} {w} p q r =
    let s = within_sum p q in
    let t = within_sum r r in
    let d = within_difference s t in
    let f = within_fits w64 (omega arith) d in
    rw (
      to_z-of_z (within_fits w64 (omega arith) p),
      to_z-of_z (within_fits w64 (omega arith) q),
      to_z-of_z (within_fits w64 (omega arith) r),
      to_z-of_z (within_fits w64 (omega arith) s),
      to_z-of_z (within_fits w64 (omega arith) t),
      to_z-of_z f,
      to_z-of_z (half_fits f),
    ) refl

farris_within : (l : List ℤ) (x a b : ℕ) → T (in_range l) → Within (score_limit + score_limit + score_limit) (farris (score l) x a b)
unfolding farris
farris_within l x a b t = within_difference (within_sum (score_within (range_limit l t) a x) (score_within (range_limit l t) b x)) (score_within (range_limit l t) a b)

-- what is written fits 32 bits
pub anchored_small : (l : List ℤ) (x a b : ℕ) → T (in_range l) → Within (2 ^ 31 - 1) (farris (score l) x a b)
unfolding one_point point_limit score_limit
anchored_small l x a b t = within_grow (omega arith) (farris_within l x a b t)

pub back_small : (n : ℕ) (l : List ℤ) (a b : ℕ) → T (in_range (distances_back n l)) → a < n → b < n → Within (2 ^ 31 - 1) (unfarris (score l) a b)
unfolding one_point point_limit score_limit
back_small n l a b t h k = within_grow (omega arith)
    (subst (Within score_limit) (score_back n l a b h k) (score_within (range_limit (distances_back n l) t) a b))

pub anchored_bounded : (n x : ℕ) (l : List ℤ) → T (in_range l) → Bounded (2 ^ 31) (anchored_scores n x l)
unfolding anchored_scores one_point point_limit score_limit
anchored_bounded n x l t z m =
    let (a, b, _, _, e) = of_pair_list n (farris (score l) x) m in
    within_grow (omega arith) (subst (Within (score_limit + score_limit + score_limit)) (sym e) (farris_within l x a b t))
