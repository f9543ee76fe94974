use Prim.Native.Nat.{◌≤◌}
use Rattle.clusters.specs.PairList.{score}
use Rattle.links.specs.Table.{Written}
use Rattle.links.proofs.fill_row.Given as goal

abbrev pub invariant-loop-b : goal.invariant-loop-b
invariant-loop-b l = (l.b ≤ l.a) × Written l.a (score l.pairs l.a) l.b l.initial.t l.t
