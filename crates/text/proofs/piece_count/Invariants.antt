use mathlib.Core.Path.{◌≡◌}
use Prim.Native.Nat.{◌+◌, ◌≤◌}
use lib.ListN.{length, drop}
use Rattle.interface.specs.Sheet.{cut}
use Rattle.text.proofs.piece_count.Given as goal

abbrev pub invariant-loop-b : goal.invariant-loop-b
invariant-loop-b l = (l.n ≤ l.b-index + 1) × (l.n + length (cut l.c (drop l.b-index l.s)) ≡ 1 + length (cut l.c l.s))
