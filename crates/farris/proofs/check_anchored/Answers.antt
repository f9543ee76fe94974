use mathlib.Core.Path.{sym, ◌∙◌, refl}
use Rattle.std.proofs.lemmas.Result.{err_from_is_err_and}
use Rattle.lists.specs.Lists.{all}
use Rattle.interface.specs.Refusals.{anchored_checks, anchored_refusal, distance_checks}
use Rattle.interface.proofs.Refusals.{first_yes, first_no, no_more, under, refused_front, passed_back}
use Rattle.matrix.proofs.Checks.{checked}
use Rattle.farris.proofs.check_anchored.Goals as goal

pub returns-in_err-check_distances : goal.returns-in_err-check_distances
unfolding anchored_refusal anchored_checks all
returns-in_err-check_distances c = let p = err_from_is_err_and c.from_residual.result c.from_residual.ensures.1 in
    rw (p.1, p.2) (refused_front (distance_checks _ _) _ tt _ c.in_err-check_distances.ensures)

pub is_out_of_place-requires : goal.is_out_of_place-requires
unfolding under all
is_out_of_place-requires c = (checked _ _ (distance_checks _ _) tt (sym c.in_ok-check_distances.ensures) refl refl refl).few

pub returns-then-is_out_of_place : goal.returns-then-is_out_of_place
unfolding anchored_refusal anchored_checks all
returns-then-is_out_of_place c =
    passed_back (distance_checks _ _) _ tt c.in_ok-check_distances.ensures (first_yes (sym c.is_out_of_place.ensures ∙ c.if-is_out_of_place.true))

pub returns : goal.returns
unfolding anchored_refusal anchored_checks all
returns c =
    passed_back (distance_checks _ _) _ tt c.in_ok-check_distances.ensures (first_no (sym c.is_out_of_place.ensures ∙ c.if-is_out_of_place.false) no_more)
