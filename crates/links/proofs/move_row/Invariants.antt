use Prim.Native.Nat.{◌≤◌}
use Rattle.links.specs.Table.{entry, Written}
use Rattle.links.proofs.move_row.Given as goal

abbrev pub invariant-loop-q : goal.invariant-loop-q
invariant-loop-q l = (l.q ≤ l.last) × Written l.j (entry l.initial.t l.last) l.q l.initial.t l.t
