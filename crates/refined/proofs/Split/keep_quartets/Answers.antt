use mathlib.Core.Path.{sym, ◌∙◌}
use native.Mathlib.Omega.{arith}
use Rattle.sets.specs.Sets.{members}
use Rattle.smallest.proofs.Kept.{kept_start, kept_yes, kept_no, kept_end}
use Rattle.refined.specs.Kept.{keep_quartets}
use Rattle.refined.proofs.Split.keep_quartets.Goals.{then-has, else-has}
use Rattle.refined.proofs.Split.keep_quartets.Goals as goal

pub loop-a-init : goal.loop-a-init
loop-a-init c = (omega arith, kept_start)

pub loop-a-preserved : goal.loop-a-preserved
loop-a-preserved c = elim c.if-has.branch [
  | then-has w ↦ (omega arith, kept_yes c.loop-a.invariant.1 (sym c.has.ensures ∙ w.if-has.true) w.kept-is w.keep_within.ensures)
  | else-has w ↦ (omega arith, kept_no c.loop-a.invariant.1 (sym c.has.ensures ∙ w.if-has.false) w.kept-is)
]

pub returns : goal.returns
unfolding keep_quartets members
returns c = kept_end c.loop-a.invariant.1 (omega arith)
