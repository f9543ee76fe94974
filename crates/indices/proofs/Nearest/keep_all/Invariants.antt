use Prim.Native.Nat.{◌-◌, ◌≤◌}
use Rattle.sets.specs.Sets.{has}
use Rattle.smallest.proofs.Kept.{Kept}
use Rattle.clusters.specs.PairList.{score}
use Rattle.indices.specs.Triples.{keep_before}
use Rattle.indices.proofs.Nearest.keep_all.Given as goal

abbrev pub invariant-loop-a : goal.invariant-loop-a
invariant-loop-a l = (l.a ≤ l.self.list.n) × Kept (λ m a. keep_before l.self.list.n (score l.self.list.pairs.now) l.self.set a m) (has l.self.set) l.initial.kept l.a l.kept

abbrev pub decreases-loop-a : goal.decreases-loop-a
decreases-loop-a l = l.self.list.n - l.a
