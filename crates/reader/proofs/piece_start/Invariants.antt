use mathlib.Core.Path.{◌≡◌}
use Prim.Native.Nat.{◌+◌, ◌-◌, ◌≤◌, ◌<◌}
use lib.ListN.{length, drop}
use Rattle.interface.specs.Sheet.{cut}
use Rattle.interface.specs.Calls.{start_of}
use Rattle.reader.proofs.piece_start.Given as goal

abbrev pub invariant-loop : goal.invariant-loop
invariant-loop l =
    let left = l.i - l.counter in
    (l.at ≤ length l.line)
    × (left < length (cut 32 (drop l.at l.line)))
    × (l.at + start_of (cut 32 (drop l.at l.line)) left ≡ start_of (cut 32 l.line) l.i)
