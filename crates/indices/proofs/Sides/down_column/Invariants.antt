use mathlib.Core.Path.{◌≡◌}
use Prim.Native.Nat.{◌-◌, ◌<◌, ◌≤◌}
use Rattle.clusters.specs.PairList.{place, score}
use Rattle.indices.specs.Seen.{Seen}
use Rattle.indices.proofs.Sides.down_column.Given as goal

abbrev pub invariant-loop-y : goal.invariant-loop-y
invariant-loop-y g l = (l.x < l.y) × (l.y ≤ l.list.n) × (l.at ≡ place l.x l.y) × Seen (score l.list.pairs.now l.x) l.self.inside l.self.outside l.y l.seen

abbrev pub decreases-loop-y : goal.decreases-loop-y
decreases-loop-y g l = l.list.n - l.y
