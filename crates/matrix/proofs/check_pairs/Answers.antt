use mathlib.Core.Path.{sym, ap, ◌∙◌}
use mathlib.Core.Bool.{not}
use Rattle.std.proofs.lemmas.Result.{err_from_is_err_and}
use Rattle.lists.specs.Lists.{all}
use Rattle.interface.proofs.Refusals.{first_yes, first_no, no_more, refused_front, passed_back}
use Rattle.interface.specs.Refusals.{length_checks}
use Rattle.matrix.proofs.check_pairs.Goals as goal

pub returns-in_err-check_length : goal.returns-in_err-check_length
unfolding all
returns-in_err-check_length c = let p = err_from_is_err_and c.from_residual.result c.from_residual.ensures.1 in
    rw (p.1, p.2) (refused_front (length_checks _ _) _ tt _ c.in_err-check_length.ensures)

pub returns-then-not-scores_in_range : goal.returns-then-not-scores_in_range
unfolding all
returns-then-not-scores_in_range c =
    passed_back (length_checks _ _) _ tt c.in_ok-check_length.ensures (first_yes (ap not (sym c.scores_in_range.ensures) ∙ ap not c.if-not-scores_in_range.true))

pub returns : goal.returns
unfolding all
returns c =
    passed_back (length_checks _ _) _ tt c.in_ok-check_length.ensures
    (first_no (ap not (sym c.scores_in_range.ensures) ∙ ap not c.if-not-scores_in_range.false) no_more)
