use mathlib.Core.Path.{sym, ◌∙◌}
use native.Mathlib.Omega.{arith}
use Rattle.lists.proofs.Tests.{true_T}
use Rattle.sets.specs.Sets.{members}
use Rattle.sets.proofs.Sets.{has_yes}
use Rattle.smallest.proofs.Kept.{kept_start, kept_yes, kept_no, kept_end}
use Rattle.indices.specs.Triples.{keep_before}
use Rattle.indices.proofs.Nearest.keep_before.Goals.{then-has, else-has}
use Rattle.indices.proofs.Nearest.keep_before.Goals as goal

pub loop-b-init : goal.loop-b-init
loop-b-init c = (omega arith, kept_start)

pub keep_pair-requires : goal.keep_pair-requires
keep_pair-requires c =
    let (low, member) = c.requires in
    (low, omega arith, member, has_yes c.args.self.now.set c.loop-b.b (true_T (sym c.has.ensures ∙ c.if-has.true)))

pub loop-b-preserved : goal.loop-b-preserved
loop-b-preserved c =
    let r = c.loop-b.invariant.1 in
    let t = sym c.has.ensures in
    elim c.if-has.branch [
      | then-has w ↦ (omega arith, kept_yes r (t ∙ w.if-has.true) w.kept-is w.keep_pair.ensures)
      | else-has w ↦ (omega arith, kept_no r (t ∙ w.if-has.false) w.kept-is)
    ]

pub returns : goal.returns
unfolding keep_before members
returns c = kept_end c.loop-b.invariant.1 (omega arith)
