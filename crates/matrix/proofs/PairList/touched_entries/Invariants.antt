use mathlib.Core.Bool.{not}
use Prim.Native.Nat.{◌-◌, ◌≤◌}
use Rattle.clusters.specs.PairList.{score}
use Rattle.clusters.specs.Touched.{row_scored}
use Rattle.matrix.proofs.Touched.{Joined}
use Rattle.matrix.proofs.PairList.touched_entries.Given as goal

abbrev pub invariant-loop-a : goal.invariant-loop-a
invariant-loop-a l = (l.a ≤ l.self.n) × Joined l.self.n (λ a'. not (row_scored l.self.n (score l.self.pairs.now) a')) l.touched l.a

abbrev pub decreases-loop-a : goal.decreases-loop-a
decreases-loop-a l = l.self.n - l.a
