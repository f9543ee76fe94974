use mathlib.Core.Path.{◌≡◌}
use Prim.Native.Nat.{◌-◌, ◌≤◌}
use Rattle.lists.specs.Lists.{below}
use Rattle.lists.proofs.Walk.{Passed}
use Rattle.pairs.specs.Pairs.{carried, is_scored}
use Rattle.clusters.specs.PairList.{place, score}
use Rattle.matrix.proofs.PairList.is_row_scored.Given as goal

abbrev pub invariant-loop-b : goal.invariant-loop-b
invariant-loop-b l = (l.b ≤ l.self.n) × (l.at ≡ place l.a l.b) × Passed (λ b'. is_scored (carried (score l.self.pairs.now l.a b'))) (below l.self.n) l.b

abbrev pub decreases-loop-b : goal.decreases-loop-b
decreases-loop-b l = l.self.n - l.b
