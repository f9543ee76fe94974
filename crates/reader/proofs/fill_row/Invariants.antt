use Prim.Native.Nat.{◌+◌, ◌≤◌}
use Rattle.clusters.proofs.Rows.{Row}
use Rattle.reader.specs.Square.{square}
use Rattle.reader.proofs.fill_row.Given as goal

abbrev pub invariant-loop-j : goal.invariant-loop-j
invariant-loop-j l = (l.j ≤ l.i + 1) × Row (square l.values l.i) l.start l.initial.pairs l.pairs l.j
