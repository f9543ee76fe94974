use mathlib.Core.Path.{◌≡◌, sym, ap, ◌∙◌, refl}
use mathlib.Core.Bool.{not}
use lib.IntN.{pos}
use Rattle.std.proofs.lemmas.Result.{err_from_is_err_and}
use Rattle.lists.specs.Lists.{all}
use Rattle.interface.specs.Refusals.{wrong_distances, scored_checks}
use Rattle.interface.proofs.Refusals.{first_yes, first_no, no_more, under, refused_front, passed_back}
use Rattle.interface.proofs.Anchored.{judged}
use Rattle.matrix.specs.Checks.{Checked}
use Rattle.matrix.proofs.Checks.{checked}
use Rattle.matrix.proofs.check_distances.Goals.{After-are_distances, In_ok-check_scored}
use Rattle.matrix.proofs.check_distances.Goals as goal

-- check 12, as the code finds it
wrong-is : (c : After-are_distances) → let a = c.args in
    wrong_distances (pos 3) a.n a.pairs.now ≡ not c.are_distances.result
wrong-is c = let a = c.args in judged a.n a.pairs.now ∙ ap not (sym c.are_distances.ensures)

-- what the first checks leave
left : (c : In_ok-check_scored) → let a = c.args in Checked a.n a.pairs.now
unfolding under all
left c = checked _ _ (scored_checks _ _) tt (sym c.in_ok-check_scored.ensures) refl refl refl

pub returns-in_err-check_scored : goal.returns-in_err-check_scored
unfolding all
returns-in_err-check_scored c = let p = err_from_is_err_and c.from_residual.result c.from_residual.ensures.1 in
    rw (p.1, p.2) (refused_front (scored_checks _ _) _ tt _ c.in_err-check_scored.ensures)

pub invariant_of-are_distances : goal.invariant_of-are_distances
invariant_of-are_distances c = record { fits = record { few = (left c).few; long = (left c).long } }

pub returns-then-not-are_distances : goal.returns-then-not-are_distances
unfolding all
returns-then-not-are_distances c =
    passed_back (scored_checks _ _) _ tt c.in_ok-check_scored.ensures (first_yes (wrong-is c.before ∙ ap not c.if-not-are_distances.true))

pub returns : goal.returns
unfolding all
returns c =
    passed_back (scored_checks _ _) _ tt c.in_ok-check_scored.ensures (first_no (wrong-is c.before ∙ ap not c.if-not-are_distances.false) no_more)
