use mathlib.Core.Path.{sym, ◌∙◌}
use Rattle.sheet.proofs.Names.{first_equal, others_equal, none_equal}
use Rattle.sheet.proofs.has_equal.Goals as goal

pub returns-then-is_among : goal.returns-then-is_among
returns-then-is_among c =
    sym (sym c.loop-word.invariant ∙ first_equal c.in-Some.ensures.0 (sym c.is_among.ensures ∙ c.if-is_among.true))

pub loop-word-preserved : goal.loop-word-preserved
loop-word-preserved c =
    sym (others_equal c.in-Some.ensures.0 (sym c.is_among.ensures ∙ c.if-is_among.false)) ∙ c.loop-word.invariant

pub returns : goal.returns
returns c = sym (sym c.loop-word.invariant ∙ none_equal c.in_default.ensures)
