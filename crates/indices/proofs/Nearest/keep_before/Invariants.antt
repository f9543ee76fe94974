use Prim.Native.Nat.{◌-◌, ◌≤◌}
use Rattle.sets.specs.Sets.{has}
use Rattle.smallest.proofs.Kept.{Kept}
use Rattle.clusters.specs.PairList.{score}
use Rattle.indices.specs.Triples.{keep_outside}
use Rattle.indices.proofs.Nearest.keep_before.Given as goal

abbrev pub invariant-loop-b : goal.invariant-loop-b
invariant-loop-b l = (l.b ≤ l.a) × Kept (λ m b. keep_outside l.self.list.n (score l.self.list.pairs.now) l.self.set l.a b m) (has l.self.set) l.initial.kept l.b l.kept

abbrev pub decreases-loop-b : goal.decreases-loop-b
decreases-loop-b l = l.a - l.b
