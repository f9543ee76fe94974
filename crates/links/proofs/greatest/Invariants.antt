use Prim.Native.Nat.{◌≤◌, ◌*◌}
use Rattle.links.specs.Table.{FoundBefore}
use Rattle.links.proofs.greatest.Given as goal

abbrev pub invariant-loop-j : goal.invariant-loop-j
invariant-loop-j l = (l.j ≤ l.count) × FoundBefore l.weights l.t (l.j * 32) l.best
