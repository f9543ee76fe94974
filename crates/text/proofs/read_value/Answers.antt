use mathlib.Core.Path.{◌≡◌, sym, ◌∙◌}
use native.Mathlib.Omega.{arith}
use borrow.Author.Rules.{rules}
use mir.Val.{of_z, to_z}
use mir.Syntax.{w32}
use Rattle.text.proofs.Values.{value_call}
use Rattle.text.proofs.Cells.{lone_inside, mark_at, number_at_lem, none_at}
use Rattle.text.proofs.read_value.Goals as goal

pub overflow_add-result : goal.overflow_add-result
overflow_add-result c = omega (arith, lone_inside c.args.line.now c.args.at (sym c.is_lone_minus.ensures ∙ c.if-is_lone_minus.true))

pub returns-then-is_lone_minus : goal.returns-then-is_lone_minus
returns-then-is_lone_minus c = value_call (mark_at _ _ (sym c.is_lone_minus.ensures ∙ c.if-is_lone_minus.true))

pub returns : goal.returns
returns c = value_call (none_at _ _ (sym c.in_default.is ∙ c.read_number.ensures) (sym c.is_lone_minus.ensures ∙ c.if-is_lone_minus.false))

pub returns-in-Some : goal.returns-in-Some
returns-in-Some c =
    let same : to_z w32 (of_z w32 c.in-Some.number) ≡ c.in-Some.number = search rules in
    rw same (value_call (number_at_lem _ _ (sym c.in-Some.is ∙ c.read_number.ensures)))
