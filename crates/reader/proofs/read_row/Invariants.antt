use mathlib.Core.Path.{◌≡◌}
use mathlib.Core.List.{map}
use Prim.Native.Nat.{◌+◌, ◌-◌, ◌≤◌}
use lib.ListN.{length, drop}
use lib.Seq.{sets}
use Rattle.interface.specs.Sheet.{cut}
use Rattle.interface.specs.Refusals.{is_row}
use Rattle.reader.specs.Square.{number_said}
use Rattle.reader.proofs.read_row.Given as goal

abbrev pub invariant-loop-k : goal.invariant-loop-k
invariant-loop-k l =
    (l.k ≤ l.n)
    × (l.at ≤ length l.line)
    × (is_row (l.n - l.k) (cut 32 (drop l.at l.line)) ≡ is_row l.n (cut 32 l.line))
    × (sets l.values (l.base + l.k) (map number_said (cut 32 (drop l.at l.line))) ≡ sets l.initial.values l.base (map number_said (cut 32 l.line)))

abbrev pub decreases-loop-k : goal.decreases-loop-k
decreases-loop-k l = l.n - l.k
