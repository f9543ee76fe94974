use mathlib.Core.Path.{sym, ◌∙◌}
use Rattle.std.proofs.lemmas.Result.{err_from_is_err_and}
use Rattle.lists.specs.Lists.{all}
use Rattle.interface.specs.Refusals.{score_checks, score_refusal, length_checks}
use Rattle.interface.proofs.Refusals.{first_yes, first_no, no_more, refused_front, passed_back}
use Rattle.triangle.proofs.check_score.Goals as goal

pub returns-in_err-check_length : goal.returns-in_err-check_length
unfolding score_refusal score_checks all
returns-in_err-check_length c = let p = err_from_is_err_and c.from_residual.result c.from_residual.ensures.1 in
    rw (p.1, p.2) (refused_front (length_checks _ _) _ tt _ c.in_err-check_length.ensures)

pub returns-then-are_wrong_entries : goal.returns-then-are_wrong_entries
unfolding score_refusal score_checks all
returns-then-are_wrong_entries c =
    passed_back (length_checks _ _) _ tt c.in_ok-check_length.ensures (first_yes (sym c.are_wrong_entries.ensures ∙ c.if-are_wrong_entries.true))

pub returns : goal.returns
unfolding score_refusal score_checks all
returns c =
    passed_back (length_checks _ _) _ tt c.in_ok-check_length.ensures (first_no (sym c.are_wrong_entries.ensures ∙ c.if-are_wrong_entries.false) no_more)
