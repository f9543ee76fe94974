use mathlib.Core.Path.{sym, ◌∙◌}
use native.Mathlib.Omega.{arith}
use Rattle.shared.proofs.Answers.{started, next, found, not_found}
use Rattle.shared.proofs.first_shared.Goals as goal

pub loop-i-init : goal.loop-i-init
loop-i-init c = started

pub returns-then-holds_both : goal.returns-then-holds_both
returns-then-holds_both c = let l = c.loop-i in
    found l.invariant (omega arith) (sym c.holds_both.ensures ∙ c.if-holds_both.true)

pub loop-i-preserved : goal.loop-i-preserved
loop-i-preserved c = let l = c.loop-i in next l.invariant (omega arith) (sym c.holds_both.ensures ∙ c.if-holds_both.false)

pub returns : goal.returns
returns c = let l = c.loop-i in not_found l.invariant c.all_entries.ensures (omega arith)
