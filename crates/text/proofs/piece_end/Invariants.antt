use mathlib.Core.Path.{◌≡◌}
use Prim.Native.Nat.{◌+◌, ◌≤◌}
use lib.ListN.{length}
use Rattle.interface.specs.Calls.{piece_at}
use Rattle.text.proofs.piece_end.Given as goal

abbrev pub invariant-loop-end : goal.invariant-loop-end
invariant-loop-end l = (l.end ≤ length l.s) × (l.end + length (piece_at l.c l.s l.end) ≡ l.from + length (piece_at l.c l.s l.from))
