use mathlib.Core.Path.{sym, ◌∙◌}
use native.Mathlib.Omega.{arith}
use Rattle.lists.proofs.Tests.{true_T}
use Rattle.sets.specs.Sets.{members}
use Rattle.sets.proofs.Sets.{has_yes}
use Rattle.smallest.proofs.Kept.{kept_start, kept_yes, kept_no, kept_end}
use Rattle.indices.specs.Triples.{keep_all}
use Rattle.indices.proofs.Nearest.keep_all.Goals.{then-has, else-has}
use Rattle.indices.proofs.Nearest.keep_all.Goals as goal

pub loop-a-init : goal.loop-a-init
loop-a-init c = (omega arith, kept_start)

pub keep_before-requires : goal.keep_before-requires
keep_before-requires c =
    (omega arith, has_yes c.args.self.now.set c.loop-a.a (true_T (sym c.has.ensures ∙ c.if-has.true)))

pub loop-a-preserved : goal.loop-a-preserved
loop-a-preserved c =
    let r = c.loop-a.invariant.1 in
    let t = sym c.has.ensures in
    elim c.if-has.branch [
      | then-has w ↦ (omega arith, kept_yes r (t ∙ w.if-has.true) w.kept-is w.keep_before.ensures)
      | else-has w ↦ (omega arith, kept_no r (t ∙ w.if-has.false) w.kept-is)
    ]

pub returns : goal.returns
unfolding keep_all members
returns c = kept_end c.loop-a.invariant.1 (omega arith)
