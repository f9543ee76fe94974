use mathlib.Core.Path.{◌≡◌}
use Prim.Native.Nat.{◌-◌, ◌≤◌}
use lib.ListN.{length}
use Rattle.clusters.specs.PairList.{score}
use Rattle.indices.specs.Triples.{Near}
use Rattle.indices.proofs.Nearest.new.Given as goal

abbrev pub invariant-loop-a : goal.invariant-loop-a
invariant-loop-a l = (l.a ≤ l.list.n) × (length l.near ≡ 32) × Near l.list.n (score l.list.pairs.now) l.set l.a l.near

abbrev pub decreases-loop-a : goal.decreases-loop-a
decreases-loop-a l = l.list.n - l.a
