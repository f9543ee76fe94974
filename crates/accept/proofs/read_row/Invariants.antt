use mathlib.Core.Path.{◌≡◌}
use Prim.Native.Nat.{◌≤◌}
use lib.ListN.{length}
use Rattle.interface.specs.Sheet.{value}
use Rattle.clusters.proofs.Rows.{Row}
use Rattle.accept.proofs.Rows.{RowState}
use Rattle.accept.proofs.read_row.Given as goal

abbrev pub invariant-loop-j : goal.invariant-loop-j
invariant-loop-j l =
    (l.j ≤ l.i)
    × (length l.cur ≡ length l.initial.cur)
    × (length l.pairs ≡ length l.initial.pairs)
    × RowState l.sheet l.stop l.i l.j l.at l.cur
    × Row (value l.sheet l.i) l.start l.initial.pairs l.pairs l.j
