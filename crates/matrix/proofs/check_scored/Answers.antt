use mathlib.Core.Path.{sym, ◌∙◌}
use Rattle.std.proofs.lemmas.Result.{err_from_is_err_and}
use Rattle.lists.specs.Lists.{all}
use Rattle.interface.proofs.Refusals.{first_yes, first_no, no_more, refused_front, passed_back}
use Rattle.interface.specs.Refusals.{pair_checks}
use Rattle.matrix.proofs.check_scored.Goals as goal

pub returns-in_err-check_pairs : goal.returns-in_err-check_pairs
unfolding all
returns-in_err-check_pairs c = let p = err_from_is_err_and c.from_residual.result c.from_residual.ensures.1 in
    rw (p.1, p.2) (refused_front (pair_checks _ _) _ tt _ c.in_err-check_pairs.ensures)

pub returns-then-has_unscored : goal.returns-then-has_unscored
unfolding all
returns-then-has_unscored c =
    passed_back (pair_checks _ _) _ tt c.in_ok-check_pairs.ensures (first_yes (sym c.has_unscored.ensures ∙ c.if-has_unscored.true))

pub returns : goal.returns
unfolding all
returns c =
    passed_back (pair_checks _ _) _ tt c.in_ok-check_pairs.ensures (first_no (sym c.has_unscored.ensures ∙ c.if-has_unscored.false) no_more)
