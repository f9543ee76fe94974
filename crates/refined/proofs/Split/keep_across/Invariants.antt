use mathlib.Core.Bool.{true}
use Prim.Native.Nat.{◌≤◌}
use lib.ListN.{length, get_or, take}
use Rattle.smallest.proofs.Kept.{Kept}
use Rattle.links.specs.Table.{entry}
use Rattle.refined.specs.Kept.{keep_beside}
use Rattle.refined.proofs.Split.keep_across.Given as goal

abbrev pub invariant-loop-i : goal.invariant-loop-i
invariant-loop-i l = (l.i ≤ length l.self.outside.now)
    × Kept (λ ks i. keep_beside (entry l.self.table.now) l.a l.a2 (get_or l.self.outside.now i 0) (take i l.self.outside.now) ks) (λ _. true) l.initial.kept l.i l.kept
