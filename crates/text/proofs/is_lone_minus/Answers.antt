use mathlib.Core.Path.{sym, ◌∙◌}
use mathlib.Core.Bool.{true≢false}
use borrow.Author.Tests.{eqb-true, eqb-false, le-ltb}
use Rattle.text.proofs.Cells.{lone_none, lone_other, lone_is}
use Rattle.text.proofs.is_lone_minus.Goals.{then-at-line, else-at-line}
use Rattle.text.proofs.is_lone_minus.Goals as goal

pub returns-then-line-at-eq45 : goal.returns-then-line-at-eq45
returns-then-line-at-eq45 c =
    elim c.if-at-line.branch [
      | then-at-line w ↦ c.is_end.ensures ∙ lone_is _ _ w.if-at-line.true (eqb-true _ _ (sym w.value-is ∙ c.if-line-at-eq45.true))
      | else-at-line w ↦ absurd (true≢false (sym c.if-line-at-eq45.true ∙ w.value-is ∙ le-ltb _ _ w.if-at-line.false))
    ]

pub returns-else-line-at-eq45 : goal.returns-else-line-at-eq45
returns-else-line-at-eq45 c =
    c.if-line-at-eq45.false ∙ elim c.if-at-line.branch [
      | then-at-line w ↦ lone_other _ _ w.if-at-line.true (eqb-false _ _ (sym w.value-is ∙ c.if-line-at-eq45.false))
      | else-at-line w ↦ lone_none _ _ w.if-at-line.false
    ]
