use Prim.Native.Nat.{◌-◌, ◌≤◌}
use lib.ListN.{length}
use mir.Syntax.{w64}
use mir.Val.{of_z}
use Rattle.integers.specs.Integers.{min_z}
use Rattle.integers.proofs.Running.{Run}
use Rattle.sets.specs.Sets.{has}
use Rattle.smallest.proofs.Tops.{top}
use Rattle.clusters.specs.PairList.{score}
use Rattle.indices.specs.Margins.{separation_from}
use Rattle.indices.proofs.separation_in.Given as goal

abbrev pub invariant-loop-a : goal.invariant-loop-a
invariant-loop-a g l = (l.a ≤ l.list.n) × (l.list.n ≤ length l.numbers)
    × Run min_z top (has l.set) (separation_from l.list.n (score l.list.pairs.now) l.set) l.a (of_z w64 l.least)

abbrev pub decreases-loop-a : goal.decreases-loop-a
decreases-loop-a g l = l.list.n - l.a
