use mathlib.Core.Path.{◌≡◌}
use mathlib.Core.Bool.{not}
use Prim.Native.Nat.{◌-◌, ◌≤◌}
use Rattle.sets.specs.Sets.{has}
use Rattle.smallest.specs.Smallest.{kept_with}
use Rattle.smallest.proofs.Kept.{Kept}
use Rattle.clusters.specs.PairList.{place, score}
use Rattle.clusters.specs.Indices.{weight}
use Rattle.indices.proofs.Nearest.keep_outside.Given as goal

abbrev pub invariant-loop-c : goal.invariant-loop-c
invariant-loop-c l = (l.c ≤ l.list.n) × (l.of_a ≡ place l.a l.c)
    × (l.of_b ≡ place l.b l.c) × Kept (λ m c. kept_with m (weight (score l.list.pairs.now) l.a l.b c)) (λ c. not (has l.self.set c)) l.initial.kept l.c l.kept

abbrev pub decreases-loop-c : goal.decreases-loop-c
decreases-loop-c l = l.list.n - l.c
