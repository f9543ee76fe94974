use mathlib.Core.Path.{◌≡◌}
use Prim.Native.Nat.{◌-◌, ◌≤◌}
use lib.ListN.{length}
use Rattle.clusters.specs.PairList.{place, score}
use Rattle.matrix.specs.Rows.{Row}
use Rattle.matrix.proofs.PairList.put_row.Given as goal

abbrev pub invariant-loop-y : goal.invariant-loop-y
invariant-loop-y l = (l.y ≤ l.self.n) × (l.at ≡ place l.a l.y) × (length l.row ≡ length l.initial.row) × Row l.y (score l.self.pairs.now l.a) l.row

abbrev pub decreases-loop-y : goal.decreases-loop-y
decreases-loop-y l = l.self.n - l.y
