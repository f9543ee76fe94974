-- The anchored call and the way back: what passes their checks, and that the one undoes the other.
use mathlib.Core.Path.{◌≡◌, refl, sym, ◌∙◌}
use mathlib.Core.Bool.{true, false, not, ◌||◌}
use mathlib.Core.List.{List}
use Prim.Native.Nat.{ℕ, ◌≤◌, ◌<◌}
use borrow.Author.Tests.{not-false, eq-eqb, lt-leb, le-ltb, leb-false, ltb-false}
use lib.Dec.{T, leb, ltb}
use lib.IntN.{ℤ, pos}
use lib.ListN.{length}
use Rattle.lists.proofs.Tests.{T_true, T_false, true_T, or_none}
use Rattle.lists.specs.Lists.{all}
use Rattle.integers.specs.Integers.{eq_z}
use Rattle.clusters.specs.PairList.{row_start, score, has_length, in_range, scores_in_range, are_distances}
use Rattle.clusters.specs.Farris.{farris, anchored_scores, distances_back, is_anchored}
use Rattle.clusters.proofs.PairList.{length_pair_list}
use Rattle.clusters.proofs.Scored.{scored_in_range}
use Rattle.clusters.proofs.Farris.{anchored_back, anchored_iff}
use Rattle.interface.specs.Refusals.{
  first_of,
  wrong_count,
  wrong_distances,
  wrong_anchor,
  short_slice,
  not_anchored,
  anchored_checks,
  anchored_refusal,
  back_checks,
  back_refusal,
}
use Rattle.interface.proofs.Refusals.{under, passes, right_length}

-- "judged as kind 3"
pub judged : (n : ℕ) (l : List ℤ) → wrong_distances (pos 3) n l ≡ not (are_distances n l)
unfolding wrong_distances eq_z
judged n l = refl

-- an anchor and a slice that pass 15
pub in_place : (n x slots : ℕ) → wrong_anchor n x || short_slice slots (row_start n) ≡ false → (x < n) × (row_start n ≤ slots)
unfolding wrong_anchor short_slice
in_place n x slots e =
    let (p, q) = or_none (leb n x) (ltb slots (row_start n)) e in
    (leb-false n x p, ltb-false slots (row_start n) q)

-- what passes the checks of the anchored call
pub record Anchorable (n x : ℕ) (l : List ℤ) (slots : ℕ) : Type 0 where
  pub count : wrong_count n ≡ false
  pub long : length l ≡ row_start n
  pub range : T (in_range l)
  pub distances : T (are_distances n l)
  pub anchor : x < n
  pub room : row_start n ≤ slots

pub anchored_passes : (n x : ℕ) (l : List ℤ) (slots : ℕ) → anchored_refusal n x l slots ≡ 0 → Anchorable n x l slots
unfolding anchored_refusal anchored_checks under all
anchored_passes n x l slots e =
    let checks = anchored_checks n x l slots in
    let c₆ = T_false {b = wrong_count n} (passes 6 checks tt e) in
    let c₁₀ = T_false {b = not (has_length n l)} (passes 10 checks tt e) in
    let c₁₁ = T_false {b = not (scores_in_range l)} (passes 11 checks tt e) in
    let c₁₆ = passes 16 checks tt e in
    let c₁₂ = T_false {b = wrong_distances (pos 3) n l} (passes 12 checks tt e) in
    let c₁₅ = T_false {b = wrong_anchor n x || short_slice slots (row_start n)} (passes 15 checks tt e) in
    let (hx, hr) = in_place n x slots c₁₅ in
    record {
      count = c₆;
      long = right_length n l c₁₀;
      range = scored_in_range l (true_T (not-false (scores_in_range l) c₁₁)) c₁₆;
      distances = true_T (not-false (are_distances n l) (sym (judged n l) ∙ c₁₂));
      anchor = hx;
      room = hr;
    }

pub length_anchored : (n x : ℕ) (l : List ℤ) → length (anchored_scores n x l) ≡ row_start n
unfolding anchored_scores
length_anchored n x l = length_pair_list n (farris (score l) x)

-- distances to anchored scores and back is the identity, and the way back takes what the anchored call wrote
pub way_back : (n x : ℕ) (l : List ℤ) (slots slots' : ℕ) → anchored_refusal n x l slots ≡ 0 → row_start n ≤ slots'
    → (back_refusal n x (anchored_scores n x l) slots' ≡ 0) × (distances_back n (anchored_scores n x l) ≡ l)
unfolding back_refusal back_checks has_length first_of wrong_anchor short_slice not_anchored
way_back n x l slots slots' e h =
    let S = anchored_scores n x l in
    let p = anchored_passes n x l slots e in
    let size : length S ≡ row_start n = length_anchored n x l in
    let test : is_anchored n x S ≡ true =
    T_true ((anchored_iff n x S p.anchor size).1 (l, p.long, p.range, p.distances, refl)) in (
      simp (p.count, eq-eqb (length S) (row_start n) size, lt-leb n x p.anchor, le-ltb slots' (row_start n) h, test),
      anchored_back n x l p.anchor p.long p.distances,
    )
