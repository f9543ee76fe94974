use Prim.Native.Nat.{◌≤◌}
use Rattle.sets.specs.Sets.{has}
use Rattle.smallest.proofs.Kept.{Kept}
use Rattle.links.specs.Table.{entry}
use Rattle.refined.specs.Kept.{keep_within}
use Rattle.refined.proofs.Split.keep_quartets.Given as goal

abbrev pub invariant-loop-a : goal.invariant-loop-a
invariant-loop-a l = (l.a ≤ l.self.n) × Kept (λ ks y. keep_within (entry l.self.table.now) l.self.side l.self.outside.now y ks) (has l.self.side) l.initial.kept l.a l.kept
