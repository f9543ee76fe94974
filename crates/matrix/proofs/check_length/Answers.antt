use mathlib.Core.Path.{◌≡◌, sym, ap, ◌∙◌}
use mathlib.Core.Bool.{false, not}
use Rattle.interface.specs.Refusals.{wrong_count}
use Rattle.interface.proofs.Refusals.{gives, first_yes, first_no, no_more, right_count}
use Rattle.matrix.proofs.check_length.Goals.{Else-is_wrong_count}
use Rattle.matrix.proofs.check_length.Goals as goal

-- check 6 is passed
passed-6 : (c : Else-is_wrong_count) → wrong_count c.args.n ≡ false
passed-6 c = sym c.is_wrong_count.ensures ∙ c.if-is_wrong_count.false

pub returns-then-is_wrong_count : goal.returns-then-is_wrong_count
returns-then-is_wrong_count c = gives (first_yes (sym c.is_wrong_count.ensures ∙ c.if-is_wrong_count.true))

pub has_length-requires : goal.has_length-requires
has_length-requires c = right_count _ (passed-6 c)

pub returns-then-not-has_length : goal.returns-then-not-has_length
returns-then-not-has_length c = gives (first_no (passed-6 c.before.before) (first_yes (ap not (sym c.has_length.ensures) ∙ (ap not c.if-not-has_length.true))))

pub returns : goal.returns
returns c = gives (first_no (passed-6 c.before.before) (first_no (ap not (sym c.has_length.ensures) ∙ (ap not c.if-not-has_length.false)) no_more))
