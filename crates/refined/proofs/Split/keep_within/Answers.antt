use mathlib.Core.Path.{sym, ◌∙◌}
use native.Mathlib.Omega.{arith}
use Rattle.sets.specs.Sets.{members}
use Rattle.smallest.proofs.Kept.{kept_start, kept_yes, kept_no, kept_end}
use Rattle.refined.specs.Kept.{keep_within}
use Rattle.refined.proofs.Split.keep_within.Goals.{then-has, else-has}
use Rattle.refined.proofs.Split.keep_within.Goals as goal

pub loop-a2-init : goal.loop-a2-init
loop-a2-init c = (omega arith, kept_start)

pub loop-a2-preserved : goal.loop-a2-preserved
loop-a2-preserved c = elim c.if-has.branch [
  | then-has w ↦ (omega arith, kept_yes c.loop-a2.invariant.1 (sym c.has.ensures ∙ w.if-has.true) w.kept-is w.keep_across.ensures)
  | else-has w ↦ (omega arith, kept_no c.loop-a2.invariant.1 (sym c.has.ensures ∙ w.if-has.false) w.kept-is)
]

pub returns : goal.returns
unfolding keep_within members
returns c = kept_end c.loop-a2.invariant.1 (omega arith)
