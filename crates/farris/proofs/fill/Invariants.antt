use mathlib.Core.Path.{◌≡◌}
use Prim.Native.Nat.{◌≤◌}
use lib.ListN.{length}
use Rattle.clusters.specs.PairList.{Similarity}
use Rattle.clusters.proofs.Rows.{Rows}
use Rattle.farris.specs.Values.{Gives}
use Rattle.farris.proofs.fill.Given as goal

abbrev pub invariant-loop-a : goal.invariant-loop-a
invariant-loop-a g l = (l.a ≤ l.n) × (length l.out ≡ length l.initial.out)
    × ((S : Similarity) → Gives l.n (goal.F-post g l.value) S → Rows S l.initial.out l.out l.a)
