use Prim.Native.Nat.{◌-◌, ◌≤◌}
use Rattle.indices.specs.Margins.{Parted}
use Rattle.indices.proofs.Sides.part.Given as goal

abbrev pub invariant-loop-y : goal.invariant-loop-y
invariant-loop-y g l = (l.y ≤ l.n) × Parted l.y l.numbers l.set l.self.inside l.self.outside

abbrev pub decreases-loop-y : goal.decreases-loop-y
decreases-loop-y g l = l.n - l.y
