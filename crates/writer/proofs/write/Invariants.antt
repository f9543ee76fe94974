use Prim.Native.Nat.{◌+◌, ◌*◌, ◌≤◌}
use Rattle.clusters.specs.PairList.{score}
use Rattle.listing.specs.Put.{Put}
use Rattle.writer.proofs.Texts.{rows_before}
use Rattle.writer.proofs.write.Given as goal

abbrev pub invariant-loop-i : goal.invariant-loop-i
invariant-loop-i l = record {
  near : l.sheet.at ≤ l.initial.sheet.at + 320 * l.i;
  put : Put l.initial.sheet (rows_before l.list.n (score l.list.pairs.now) l.i) l.sheet;
}
