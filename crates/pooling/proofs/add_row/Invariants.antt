use mathlib.Core.Path.{◌≡◌}
use Prim.Native.Nat.{◌+◌, ◌≤◌}
use lib.ListN.{length, get_or}
use Rattle.clusters.specs.PairList.{row_start, score}
use Rattle.clusters.specs.Pooling.{pooled}
use Rattle.clusters.proofs.Rows.{Row}
use Rattle.pooling.proofs.add_row.Given as goal

abbrev pub invariant-loop-j : goal.invariant-loop-j
invariant-loop-j l =
    (l.j ≤ l.j-end) × (l.j-end ≡ l.i + 1) × (l.start ≡ row_start l.i) × (length l.out ≡ length l.initial.out)
    × Row (pooled (λ k. get_or l.places k 0) (score l.first) (score l.second) l.i) l.start l.initial.out l.out l.j
