use mathlib.Core.Path.{◌≡◌}
use Prim.Native.Nat.{ℕ, ◌+◌, ◌≤◌, ◌<◌}
use lib.ListN.{length, drop}
use Rattle.lists.specs.Lists.{below}
use Rattle.lists.proofs.Walk.{Passed}
use Rattle.interface.specs.Sheet.{cut, lines, words, value}
use Rattle.interface.specs.Refusals.{is_row}
use Rattle.reader.specs.Square.{square}
use Rattle.reader.proofs.read_rows.Given as goal

abbrev pub invariant-loop-i : goal.invariant-loop-i
invariant-loop-i l =
    (l.i ≤ l.n)
    × (l.at ≤ length l.sheet)
    × (cut 10 (drop l.at l.sheet) ≡ drop (l.i + 1) (lines l.sheet))
    × Passed (λ k. is_row l.n (words l.sheet k)) (below l.n) l.i
    × ((a b : ℕ) → a < l.i → b < l.n → square l.values a b ≡ value l.sheet a b)
    × (length l.values ≡ 1024)
