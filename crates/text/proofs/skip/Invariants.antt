use mathlib.Core.Path.{◌≡◌}
use Prim.Native.Nat.{◌+◌, ◌≤◌}
use lib.ListN.{length, drop}
use Rattle.interface.specs.Calls.{piece_at}
use Rattle.text.proofs.skip.Given as goal

abbrev pub invariant-loop-bytes : goal.invariant-loop-bytes
invariant-loop-bytes l = record {
  inside : l.at ≤ length l.s;
  size : l.bytes-iterator.size ≡ 16;
  rest : l.bytes-iterator.rest.now ≡ drop l.at l.s;
  piece : l.at + length (piece_at l.c l.s l.at) ≡ l.from + length (piece_at l.c l.s l.from);
}
