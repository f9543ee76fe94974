use mathlib.Core.Path.{◌≡◌}
use Prim.Native.Nat.{◌-◌, ◌+◌, ◌^◌, ◌≤◌, ◌<◌}
use lib.ListN.{length, drop}
use Rattle.text.specs.Reading.{digits, read_on}
use Rattle.text.proofs.read_digits.Given as goal

abbrev pub invariant-loop-end : goal.invariant-loop-end
invariant-loop-end l =
    (l.end ≤ l.stop)
    × (l.number < 10 ^ (l.end - l.from))
    × (read_on l.number l.end (digits (7 - (l.end - l.from)) (drop l.end l.line)) ≡ read_on 0 l.from (digits 7 (drop l.from l.line)))
