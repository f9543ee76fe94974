use mathlib.Core.Path.{◌≡◌, sym, ap, ◌∙◌, refl}
use mathlib.Core.Bool.{Bool, not}
use mathlib.Core.List.{List}
use Prim.Native.Nat.{ℕ}
use lib.IntN.{ℤ}
use Rattle.std.proofs.lemmas.Result.{err_from_is_err_and}
use Rattle.lists.proofs.Tests.{or_first, or_second}
use Rattle.lists.specs.Lists.{all}
use Rattle.clusters.specs.Farris.{is_anchored}
use Rattle.interface.specs.Refusals.{first_of, not_anchored, back_checks, back_refusal, length_checks}
use Rattle.interface.proofs.Refusals.{first_yes, first_no, no_more, under, refused_front, passed_back}
use Rattle.interface.proofs.Anchored.{in_place}
use Rattle.matrix.proofs.Checks.{sized}
use Rattle.matrix.specs.Rows.{Scores}
use Rattle.farris.proofs.check_back.Goals.{
  then-is_out_of_place-via-then-is_out_of_place,
  then-is_out_of_place-via-else-is_out_of_place+then-not-is_anchored,
}
use Rattle.farris.proofs.check_back.Goals as goal

-- what the first checks leave
left : (n : ℕ) (l : List ℤ) → 0 ≡ first_of (length_checks n l) → Scores n l
unfolding under all
left n l e = let (few, long) = sized n l (length_checks n l) tt (sym e) refl refl in record { few = few; long = long }

-- the last condition, as the code finds it
tested : (n x : ℕ) (l : List ℤ) {r t : Bool} → r ≡ is_anchored n x l → not r ≡ t → not_anchored n x l ≡ t
unfolding not_anchored
tested n x l e f = ap not (sym e) ∙ f

pub returns-in_err-check_length : goal.returns-in_err-check_length
unfolding back_refusal back_checks all
returns-in_err-check_length c = let p = err_from_is_err_and c.from_residual.result c.from_residual.ensures.1 in
    rw (p.1, p.2) (refused_front (length_checks _ _) _ tt _ c.in_err-check_length.ensures)

pub is_out_of_place-requires : goal.is_out_of_place-requires
is_out_of_place-requires c = (left _ _ c.in_ok-check_length.ensures).few

pub invariant_of-list : goal.invariant_of-list
invariant_of-list c = record { fits = left _ _ c.in_ok-check_length.ensures }

pub is_anchored-requires : goal.is_anchored-requires
is_anchored-requires c = (in_place _ _ _ (sym c.is_out_of_place.ensures ∙ c.if-is_out_of_place.false)).0

pub returns-then-is_out_of_place : goal.returns-then-is_out_of_place
unfolding back_refusal back_checks all
returns-then-is_out_of_place c =
    let e = sym c.is_out_of_place.ensures in
    let under = passed_back (length_checks _ _) _ tt c.in_ok-check_length.ensures in
    elim c.then-is_out_of_place.branch [
      | then-is_out_of_place-via-then-is_out_of_place w ↦ under (first_yes (or_first _ (e ∙ w.if-is_out_of_place.true)))
      | then-is_out_of_place-via-else-is_out_of_place+then-not-is_anchored w ↦
          under (first_yes (or_second (e ∙ w.if-is_out_of_place.false) (tested _ _ _ w.is_anchored.ensures (ap not w.if-not-is_anchored.true))))
    ]

pub returns : goal.returns
unfolding back_refusal back_checks all
returns c =
    passed_back (length_checks _ _) _ tt c.in_ok-check_length.ensures
    (first_no (or_second (sym c.is_out_of_place.ensures ∙ c.if-is_out_of_place.false)
    (tested _ _ _ c.is_anchored.ensures (ap not c.if-not-is_anchored.false))) no_more)
