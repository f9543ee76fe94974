use mathlib.Core.Path.{ap}
use mathlib.Core.List.{◌++◌}
use native.Mathlib.Omega.{arith}
use lib.ListN.{drop}
use lib.Seq.{length-take-le}
use Rattle.lists.proofs.Written.{nothing, one_more}
use Rattle.linkage.proofs.Merging.{all_slots}
use Rattle.clusters.specs.Linkage.{singles}
use Rattle.linkage.proofs.put_singles.Goals as goal

pub loop-i-init : goal.loop-i-init
loop-i-init c = nothing

pub loop-i-preserved : goal.loop-i-preserved
loop-i-preserved c = one_more c.loop-i.invariant (omega (arith, c.loop-i.invariant.same)) c.single.ensures

pub returns : goal.returns
unfolding singles
returns c = ap (λ l. l ++ drop c.args.n c.args.out.now) (all_slots c.args.out.now c.args.n (omega arith) c.loop-i.invariant (omega (arith, c.loop-i.invariant.same, length-take-le c.args.n c.args.out.now (omega arith))))
