use mathlib.Core.Path.{sym, ◌∙◌}
use mir.Facts.{to_z-of_z}
use mir.Syntax.{w32}
use Rattle.std.proofs.lemmas.Result.{err_from_is_err_and}
use Rattle.lists.specs.Lists.{all}
use Rattle.interface.specs.Refusals.{wrong_unscored, shared_checks, shared_refusal, pair_checks}
use Rattle.interface.proofs.Refusals.{gives, first_yes, first_no, no_more, refused_front, passed_back}
use Rattle.kinds.proofs.Listed.{checked_scores, left}
use Rattle.kinds.proofs.Read.{accepted_for, number_read, said}
use Rattle.shared.proofs.Answers.{no_distances}
use Rattle.shared.proofs.check_shared.Goals as goal

pub returns-in_err-kind-clause-refusal : goal.returns-in_err-kind-clause-refusal
unfolding shared_refusal shared_checks
returns-in_err-kind-clause-refusal c = let p = err_from_is_err_and c.from_residual.result c.from_residual.ensures.1 in
    let (is, wrong) = c.in_err-kind.ensures in
    rw (p.1, p.2, is) (gives (first_yes (rw (to_z-of_z {w = w32} c.ranges.kind) at wrong)))

pub returns-in_err-check_pairs-clause-refusal : goal.returns-in_err-check_pairs-clause-refusal
unfolding shared_refusal shared_checks all
returns-in_err-check_pairs-clause-refusal c = let r = c.from_residual-in_err-check_pairs in
    let p = err_from_is_err_and r.result r.ensures.1 in
    rw (p.1, p.2) (gives (first_no (rw (to_z-of_z {w = w32} c.ranges.kind) at c.in_ok-kind.ensures.1)
    (record { is = refused_front (pair_checks _ _) _ tt _ c.in_err-check_pairs.ensures })))

pub returns-then-has_wrong_unscored-clause-refusal : goal.returns-then-has_wrong_unscored-clause-refusal
unfolding shared_refusal shared_checks all
returns-then-has_wrong_unscored-clause-refusal c =
    gives (first_no (rw (to_z-of_z {w = w32} c.ranges.kind) at c.in_ok-kind.ensures.1) (record {
      is = passed_back (pair_checks _ _) _ tt c.in_ok-check_pairs.ensures
          (first_yes (said (λ k. wrong_unscored k c.args.pairs.now) (number_read c.ranges.kind c.in_ok-kind.ensures.0) c.has_wrong_unscored.ensures c.if-has_wrong_unscored.true));
    }))

pub returns-then-are_wrong_entries-clause-refusal : goal.returns-then-are_wrong_entries-clause-refusal
unfolding shared_refusal shared_checks all
returns-then-are_wrong_entries-clause-refusal c = let one = rw (to_z-of_z {w = w32} c.ranges.kind) at c.in_ok-kind.ensures.1 in
    gives (first_no one (record {
      is = passed_back (pair_checks _ _) _ tt c.in_ok-check_pairs.ensures (first_no (said (λ k. wrong_unscored k c.args.pairs.now) (number_read c.ranges.kind c.in_ok-kind.ensures.0) c.has_wrong_unscored.ensures c.if-has_wrong_unscored.false)
          (first_no (no_distances _ _ _ one) (first_yes (sym c.are_wrong_entries.ensures ∙ c.if-are_wrong_entries.true))));
    }))

pub invariant_of-list : goal.invariant_of-list
invariant_of-list c = record { fits = checked_scores (left c.args.n c.args.pairs.now c.in_ok-check_pairs.ensures) }

pub invariant_of-result : goal.invariant_of-result
invariant_of-result c = record {
  accepted = accepted_for c.in_ok-kind.kind (left c.args.n c.args.pairs.now c.in_ok-check_pairs.ensures) (sym c.has_wrong_unscored.ensures ∙ c.if-has_wrong_unscored.false);
}

pub returns-clause-refusal : goal.returns-clause-refusal
unfolding shared_refusal shared_checks all
returns-clause-refusal c = let one = rw (to_z-of_z {w = w32} c.ranges.kind) at c.in_ok-kind.ensures.1 in
    gives (first_no one (record {
      is = passed_back (pair_checks _ _) _ tt c.in_ok-check_pairs.ensures (first_no (said (λ k. wrong_unscored k c.args.pairs.now) (number_read c.ranges.kind c.in_ok-kind.ensures.0) c.has_wrong_unscored.ensures c.if-has_wrong_unscored.false)
          (first_no (no_distances _ _ _ one) (first_no (sym c.are_wrong_entries.ensures ∙ c.if-are_wrong_entries.false) no_more)));
    }))
