-- The test of the way back, made pair by pair.
use mathlib.Core.Path.{◌≡◌, refl, sym, ap, ◌∙◌, subst}
use mathlib.Core.Bool.{Bool, true, false, ◌&&◌}
use mathlib.Core.List.{List}
use Prim.Native.Nat.{ℕ, suc, ◌<◌}
use native.Mathlib.Omega.{arith}
use lib.Dec.{T}
use lib.IntN.{ℤ, pos, ◌+ℤ◌, ◌-ℤ◌}
use lib.Signed.{le_z}
use Rattle.lists.specs.Lists.{◌∈◌, below, all}
use Rattle.lists.proofs.Tests.{and_T, T_and, T_same}
use Rattle.lists.proofs.Lists.{below_lt, lt_below, all_in, in_all}
use Rattle.integers.specs.Integers.{eq_z, half, even}
use Rattle.integers.proofs.Linear.{up, dn, zarith, -at, yes_eq_z}
use Rattle.clusters.specs.PairList.{Similarity, score, score_limit, is_in_range, in_range, are_distances}
use Rattle.clusters.specs.Farris.{unfarris, distances_back, is_anchored}
use Rattle.clusters.proofs.PairList.{in_pair_list, of_pair_list}
use Rattle.clusters.proofs.Farris.{score_back}
use Rattle.farris.specs.Distances.{is_distance}

and_assoc : (a b c : Bool) → a && b && c ≡ a && (b && c)
and_assoc true b c = refl
and_assoc false b c = refl

less_itself : (z : ℤ) → z -ℤ z ≡ pos 0
unfolding up dn
less_itself z = omega (zarith, -at z z)

-- an own distance is found back as 0
own_zero : (S : Similarity) (a : ℕ) → unfarris S a a ≡ pos 0
unfolding unfarris half
own_zero S a = ap half (less_itself (S a a +ℤ S a a))

distance_parts : (z : ℤ) → T (is_distance z) → T (le_z (pos 0) z) × T (is_in_range score_limit z)
unfolding is_distance
distance_parts z t = and_T (le_z (pos 0) z) (is_in_range score_limit z) t

ranged_distance : (z : ℤ) → T (is_in_range score_limit z) → T (le_z (pos 0) z) → T (is_distance z)
unfolding is_distance
ranged_distance z t u = T_and (le_z (pos 0) z) (is_in_range score_limit z) u t

module _ (n : ℕ) (l : List ℤ) where
  abbrev D : List ℤ
  D = distances_back n l

  abbrev own : ℕ → Bool
  own a = eq_z (score D a a) (pos 0)

  abbrev row : ℕ → Bool
  row a = all (λ b. is_distance (unfarris (score l) a b)) (below (suc a))

  fore : T (all row (below n)) → T (in_range D && are_distances n D)
  unfolding distances_back in_range are_distances
  fore t = T_and (in_range D) (are_distances n D) (in_all (is_in_range score_limit) D (λ z m. (each z m).1))
      (T_and (all (le_z (pos 0)) D) (all own (below n))
      (in_all (le_z (pos 0)) D (λ z m. (each z m).0)) (in_all own (below n) (λ a m. own_passes a (below_lt n m))))
    where
      each : (z : ℤ) → z ∈ D → T (le_z (pos 0) z) × T (is_in_range score_limit z)
      each z m =
          let (a, b, h, k, e) = of_pair_list n (unfarris (score l)) m in
          let r = all_in row (below n) t (lt_below n a h) in
          distance_parts z
          (subst (λ z. T (is_distance z)) (sym e) (all_in (λ b. is_distance (unfarris (score l) a b)) (below (suc a)) r (lt_below (suc a) b (omega arith))))

      own_passes : (a : ℕ) → a < n → T (own a)
      own_passes a h = yes_eq_z (score D a a) (pos 0) (score_back n l a a h h ∙ own_zero (score l) a)

  rear : T (in_range D && are_distances n D) → T (all row (below n))
  unfolding distances_back in_range are_distances
  rear t =
      let (r, d) = and_T (in_range D) (are_distances n D) t in
      let (p, _) = and_T (all (le_z (pos 0)) D) (all own (below n)) d in
      in_all row (below n) (λ a m. in_all (λ b. is_distance (unfarris (score l) a b)) (below (suc a)) (λ b k.
      let e = in_pair_list n (unfarris (score l)) (below_lt n m) (omega (arith, below_lt (suc a) k)) in
      ranged_distance (unfarris (score l) a b) (all_in (is_in_range score_limit) D r e) (all_in (le_z (pos 0)) D p e)))

  pub back_test : all (λ a. all (λ b. is_distance (unfarris (score l) a b)) (below (suc a))) (below n)
      ≡ in_range (distances_back n l) && are_distances n (distances_back n l)
  back_test = T_same (all row (below n)) (in_range D && are_distances n D) fore rear

-- the test of a list: what its entries have, and what is found back
abbrev entry : ℕ → List ℤ → ℕ → Bool
entry x l a = eq_z (score l a x) (pos 0) && even (score l a a)

pub anchored_parts : (n x : ℕ) (l : List ℤ)
    → all (entry x l) (below n) && (in_range (distances_back n l) && are_distances n (distances_back n l)) ≡ is_anchored n x l
unfolding is_anchored
anchored_parts n x l = sym (and_assoc (all (entry x l) (below n)) (in_range (distances_back n l)) (are_distances n (distances_back n l)))

pub anchored_ranged : (n x : ℕ) (l : List ℤ) → T (is_anchored n x l) → T (in_range (distances_back n l))
anchored_ranged n x l t =
    let D = distances_back n l in
    let (_, u) = and_T (all (entry x l) (below n)) (in_range D && are_distances n D) (subst (λ b. T b) (sym (anchored_parts n x l)) t) in
    (and_T (in_range D) (are_distances n D) u).0
