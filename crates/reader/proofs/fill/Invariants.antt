use mathlib.Core.Path.{◌≡◌}
use Prim.Native.Nat.{◌≤◌}
use Rattle.clusters.specs.PairList.{row_start}
use Rattle.clusters.proofs.Rows.{Rows}
use Rattle.reader.specs.Square.{square}
use Rattle.reader.proofs.fill.Given as goal

abbrev pub invariant-loop-i : goal.invariant-loop-i
invariant-loop-i l =
    (l.i ≤ l.n)
    × (l.start ≡ row_start l.i)
    × Rows (square l.values) l.initial.pairs l.pairs l.i
