use mathlib.Core.Path.{◌≡◌}
use Prim.Native.Nat.{◌+◌}
use lib.ListN.{length}
use Rattle.clusters.specs.PairList.{score}
use Rattle.linkage.specs.Blocks.{blocks_of}
use Rattle.linkage.proofs.Choice.{Weighed}
use Rattle.linkage.proofs.Runs.{Run}
use Rattle.linkage.proofs.merge_with.Given as goal

abbrev pub invariant-loop-slot : goal.invariant-loop-slot
invariant-loop-slot l = let bs = blocks_of l.blocks in record {
  left : l.slot-index + l.blocks.count ≡ l.n;
  many : length bs ≡ l.blocks.count;
  weighed : Weighed l.method l.blocks.count bs l.weights;
  run : Run l.method l.n (score l.pairs) l.initial.slot-items l.slot-index bs l.table l.slot-items;
  room : length l.table ≡ length l.initial.table;
}
