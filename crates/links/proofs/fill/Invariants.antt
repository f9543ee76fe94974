use mathlib.Core.Path.{◌≡◌}
use Prim.Native.Nat.{◌≤◌}
use lib.ListN.{length}
use Rattle.clusters.specs.PairList.{score}
use Rattle.links.specs.Table.{Holds, OwnKept}
use Rattle.links.proofs.fill.Given as goal

abbrev pub invariant-loop-a : goal.invariant-loop-a
invariant-loop-a l = (l.a ≤ l.n) × Holds l.a (score l.pairs) l.t × OwnKept l.initial.t l.t × (length l.t ≡ length l.initial.t)
