use mathlib.Core.Path.{◌≡◌}
use Prim.Native.Nat.{◌≤◌}
use lib.ListN.{length, get_or}
use Rattle.clusters.specs.PairList.{score}
use Rattle.clusters.specs.Pooling.{pooled}
use Rattle.clusters.proofs.Rows.{Rows}
use Rattle.pooling.proofs.add.Given as goal

abbrev pub invariant-loop-i : goal.invariant-loop-i
invariant-loop-i l =
    (l.i ≤ l.n) × (length l.out ≡ length l.initial.out) × Rows (pooled (λ k. get_or l.places k 0) (score l.first) (score l.second)) l.initial.out l.out l.i
