use mathlib.Core.Bool.{beq}
use Prim.Native.Nat.{◌-◌, ◌≤◌}
use mir.Syntax.{w64}
use mir.Val.{of_z}
use Rattle.integers.specs.Integers.{min_z}
use Rattle.integers.proofs.Running.{Run}
use Rattle.sets.specs.Sets.{has}
use Rattle.smallest.proofs.Tops.{top}
use Rattle.clusters.specs.PairList.{score}
use Rattle.indices.specs.Margins.{spread}
use Rattle.indices.proofs.Sides.least_margin.Given as goal

abbrev pub invariant-loop-x : goal.invariant-loop-x
invariant-loop-x g l = (l.x ≤ l.list.n)
    × Run min_z top (λ x'. beq (has l.set x') l.inner) (λ x'. spread l.list.n (score l.list.pairs.now x') l.self.inside l.self.outside) l.x (of_z w64 l.least)

abbrev pub decreases-loop-x : goal.decreases-loop-x
decreases-loop-x g l = l.list.n - l.x
