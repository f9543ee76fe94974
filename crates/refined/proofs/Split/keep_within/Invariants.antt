use Prim.Native.Nat.{◌≤◌}
use Rattle.sets.specs.Sets.{has}
use Rattle.smallest.proofs.Kept.{Kept}
use Rattle.links.specs.Table.{entry}
use Rattle.refined.specs.Kept.{keep_across}
use Rattle.refined.proofs.Split.keep_within.Given as goal

abbrev pub invariant-loop-a2 : goal.invariant-loop-a2
invariant-loop-a2 l = (l.a2 ≤ l.a) × Kept (λ ks y. keep_across (entry l.self.table.now) l.a y l.self.outside.now ks) (has l.self.side) l.initial.kept l.a2 l.kept
