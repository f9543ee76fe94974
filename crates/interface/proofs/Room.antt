-- How long a listing can be: at most 1,503 bytes, of every list that passes 6, 10, 11 and 16.
use mathlib.Core.Path.{◌≡◌, refl, sym, subst}
use mathlib.Core.Bool.{Bool, true, false, not, cond, ◌&&◌}
use mathlib.Core.List.{List}
use Prim.Native.Nat.{ℕ, ◌*◌, ◌^◌, ◌<◌, ◌≤◌}
use native.Mathlib.Omega.{arith}
use lib.IntN.{ℤ, pos, negsuc}
use lib.Signed.{◌≤ℤ◌}
use lib.Dec.{T, lit≤}
use lib.ListN.{length}
use Rattle.lists.specs.Lists.{◌∈◌}
use Rattle.integers.specs.Integers.{eq_z}
use Rattle.integers.specs.Range.{Within, Bounded}
use Rattle.integers.proofs.Linear.{up, dn}
use Rattle.integers.proofs.Range.{within_grow, up_le}
use Rattle.clusters.specs.PairList.{score, one_point, point_limit, score_limit, has_unscored}
use Rattle.clusters.specs.Groups.{Kind, strong, clean, splits, kind_of, index, groups}
use Rattle.clusters.specs.declared.Group.{Group}
use Rattle.clusters.proofs.PairList.{score_symm}
use Rattle.clusters.proofs.Scored.{range_limit, scored_in_range}
use Rattle.clusters.proofs.Bounds.{strong_within, clean_within, separation_within}
use Rattle.clusters.proofs.Fillings.{least_filling, filling_within}
use Rattle.clusters.proofs.Groups.{in_groups, listed_index}
use Rattle.clusters.proofs.Theorems.{groups_most}
use Rattle.interface.specs.Listing.{groups_found, pairs_listing}
use Rattle.interface.specs.Refusals.{wrong_unscored}
use Rattle.interface.proofs.Accepted.{Passed, passed_allowed}
use Rattle.interface.proofs.Lengths.{lines_length, length_listing}

pub groups_few : (kind : Kind) (n : ℕ) (l : List ℤ) → n ≤ 32 → length (groups kind n (score l)) ≤ 62
groups_few kind n l few = omega (arith, groups_most kind n (score l) (score_symm l))

module _ {kind : ℤ} {n : ℕ} {l : List ℤ} (few : n ≤ 32) (p : Passed kind n l) where
  -- a strong index is that of a filling, whose scores are in range; of the other kinds there are scores only
  index_within_lem : (A : ℕ) → Within (62 * score_limit) (index (kind_of kind) n (score l) A)
  unfolding index kind_of wrong_unscored one_point point_limit score_limit
  index_within_lem A = go (eq_z kind (pos 1)) (eq_z kind (pos 2)) p.sixteen
    where
      bounded : T (not (has_unscored l)) → Bounded score_limit l
      bounded t = range_limit l (scored_in_range l p.range t)

      go : (one two : Bool) → T (not (not one && has_unscored l)) → Within (62 * score_limit) (index (cond one strong (cond two clean splits)) n (score l) A)
      go true _ t =
          let r = least_filling score_limit n (score l) (score_symm l) A in
          within_grow (lit≤ tt) (subst (Within (2 * score_limit)) r.attained (strong_within n r.filling (filling_within (passed_allowed p) r.fills) A))
      go false true t = clean_within (bounded t) n A few
      go false false t = within_grow (lit≤ tt) (separation_within (bounded t) n A)

  pub listing_room : length (pairs_listing kind n l) ≤ 1503
  unfolding pairs_listing groups_found up dn one_point point_limit score_limit
  listing_room =
      let g = groups k n (score l) in
      omega (arith, length_listing n g, lines_length n few g at, groups_few k n l few)
    where
      k : Kind
      k = kind_of kind

      natural : (z : ℤ) → pos 1 ≤ℤ z → Within (62 * score_limit) z → (k : ℕ) × (z ≡ pos k) × (k < 10 ^ 9)
      natural (pos k) h w = (k, refl, omega (arith, up_le w))
      natural (negsuc k) h w = absurd h.le

      at : (g : Group) → g ∈ groups k n (score l) → (k : ℕ) × (g.index ≡ pos k) × (k < 10 ^ 9)
      at g m =
          let (h, t, e) = (in_groups k n (score l) g).0 m in
          let one = subst (λ z. pos 1 ≤ℤ z) (sym e) (listed_index k n (score l) g.set t) in
          natural g.index one (subst (Within (62 * score_limit)) (sym e) (index_within_lem g.set))
