use mathlib.Core.Path.{refl, ap, ◌∙◌}
use mathlib.Core.List.{foldl}
use native.Mathlib.Omega.{arith}
use lib.ListN.{length}
use Rattle.lists.specs.Lists.{below}
use Rattle.lists.proofs.Lists.{keep_true}
use Rattle.smallest.proofs.Kept.{kept_start, kept_yes, kept_end}
use Rattle.refined.specs.Kept.{keep_across}
use Rattle.refined.proofs.Split.keep_across.Goals as goal

pub loop-i-init : goal.loop-i-init
loop-i-init c = (omega arith, kept_start)

pub loop-i-preserved : goal.loop-i-preserved
loop-i-preserved c = (omega arith, kept_yes c.loop-i.invariant.1 refl refl c.keep_beside.ensures)

pub returns : goal.returns
unfolding keep_across
returns c = kept_end c.loop-i.invariant.1 (omega arith) ∙ ap (foldl _ _) (keep_true (below (length c.args.self.now.outside.now)))
