use mathlib.Core.Path.{◌≡◌}
use Prim.Native.Nat.{◌+◌, ◌≤◌}
use lib.ListN.{length}
use Rattle.clusters.specs.PairList.{Similarity, row_start}
use Rattle.clusters.proofs.Rows.{Row}
use Rattle.farris.specs.Values.{Gives}
use Rattle.farris.proofs.fill_row.Given as goal

abbrev pub invariant-loop-b : goal.invariant-loop-b
invariant-loop-b g l =
    (l.b ≤ l.b-end) × (l.b-end ≡ l.a + 1) × (l.start ≡ row_start l.a) × (length l.out ≡ length l.initial.out)
    × ((S : Similarity) → Gives l.n (goal.F-post g l.value) S → Row (S l.a) l.start l.initial.out l.out l.b)
