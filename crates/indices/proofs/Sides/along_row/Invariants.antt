use mathlib.Core.Path.{◌≡◌}
use Prim.Native.Nat.{◌+◌, ◌-◌, ◌≤◌}
use Rattle.clusters.specs.PairList.{row_start, score}
use Rattle.indices.specs.Seen.{Seen}
use Rattle.indices.proofs.Sides.along_row.Given as goal

abbrev pub invariant-loop-y : goal.invariant-loop-y
invariant-loop-y g l = (l.y ≤ l.y-end) × (l.y-end ≡ l.x + 1) × (l.start ≡ row_start l.x) × Seen (score l.list.pairs.now l.x) l.self.inside l.self.outside l.y l.seen

abbrev pub decreases-loop-y : goal.decreases-loop-y
decreases-loop-y g l = l.y-end - l.y
