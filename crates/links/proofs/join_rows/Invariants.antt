use Prim.Native.Nat.{◌≤◌}
use Rattle.links.specs.Table.{joined_row, Written}
use Rattle.links.proofs.join_rows.Given as goal

abbrev pub invariant-loop-q : goal.invariant-loop-q
invariant-loop-q l = (l.q ≤ l.count) × Written l.i (joined_row l.method l.i l.j l.initial.t) l.q l.initial.t l.t
