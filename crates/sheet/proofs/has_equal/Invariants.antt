use mathlib.Core.Path.{◌≡◌}
use lib.ListN.{length}
use Rattle.interface.specs.Sheet.{cut, has_equal}
use Rattle.sheet.proofs.has_equal.Given as goal

abbrev pub invariant-loop-word : goal.invariant-loop-word
invariant-loop-word l = has_equal (cut 32 l.rest) ≡ has_equal (cut 32 l.line)

abbrev pub decreases-loop-word : goal.decreases-loop-word
decreases-loop-word l = length l.rest
