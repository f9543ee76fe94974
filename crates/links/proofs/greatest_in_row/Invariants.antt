use mathlib.Core.Path.{◌≡◌}
use Prim.Native.Nat.{◌≤◌, ◌*◌, ◌+◌}
use lib.IntN.{pos, ◌*ℤ◌}
use Rattle.links.specs.Table.{FoundBefore}
use Rattle.links.proofs.greatest_in_row.Given as goal

abbrev pub invariant-loop-i : goal.invariant-loop-i
invariant-loop-i l = (l.i ≤ l.j) × FoundBefore l.weights l.t (l.j * 32 + l.i) l.best × (l.scaled ≡ (pos l.own *ℤ l.best.num))
