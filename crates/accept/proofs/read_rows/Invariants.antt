use mathlib.Core.Path.{◌≡◌}
use Prim.Native.Nat.{◌≤◌}
use lib.ListN.{length}
use Rattle.interface.specs.Sheet.{value}
use Rattle.clusters.specs.PairList.{row_start}
use Rattle.clusters.proofs.Rows.{Rows}
use Rattle.accept.proofs.Whole.{RowsState}
use Rattle.accept.proofs.read_rows.Given as goal

abbrev pub invariant-loop-i : goal.invariant-loop-i
invariant-loop-i l =
    (l.i ≤ l.last)
    × (length l.cur ≡ 32)
    × (length l.pairs ≡ length l.initial.pairs)
    × RowsState l.sheet l.i l.at l.cur
    × (l.start ≡ row_start l.i)
    × Rows (value l.sheet) l.initial.pairs l.pairs l.i
