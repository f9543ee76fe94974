use mathlib.Core.Bool.{true}
use Prim.Native.Nat.{◌≤◌}
use lib.ListN.{get_or, length}
use Rattle.smallest.specs.Smallest.{kept_with}
use Rattle.smallest.proofs.Kept.{Kept}
use Rattle.clusters.specs.Refined.{quartet, doubled_score}
use Rattle.links.specs.Table.{entry}
use Rattle.refined.proofs.Split.keep_beside.Given as goal

abbrev pub invariant-loop-b2 : goal.invariant-loop-b2
invariant-loop-b2 l = (l.b2-index ≤ length l.before)
    × Kept (λ ks j. kept_with ks (doubled_score (entry l.self.table.now) (quartet (l.a, l.a2) (l.b, get_or l.before j 0)))) (λ _. true) l.initial.kept l.b2-index l.kept
