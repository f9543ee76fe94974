use borrow.Author.Tests.{eq-eqb, ne_eqb}
use Rattle.interface.specs.Refusals.{most_bytes, wrong_length}
use Rattle.sheet.proofs.wrong_length.Goals as goal

pub returns-then-sheet-eq0 : goal.returns-then-sheet-eq0
unfolding wrong_length
returns-then-sheet-eq0 c = simp (eq-eqb _ _ c.if-sheet-eq0.true)

pub returns : goal.returns
unfolding wrong_length most_bytes
returns c = simp (ne_eqb _ _ c.if-sheet-eq0.false)
