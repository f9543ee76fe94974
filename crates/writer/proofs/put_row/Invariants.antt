use mathlib.Core.Path.{◌≡◌}
use Prim.Native.Nat.{◌+◌, ◌*◌, ◌≤◌, ◌<◌}
use lib.ListN.{length}
use Rattle.clusters.specs.PairList.{place, score}
use Rattle.listing.specs.Put.{Put}
use Rattle.writer.proofs.Texts.{cells_before}
use Rattle.writer.proofs.put_row.Given as goal

abbrev pub invariant-loop-j : goal.invariant-loop-j
invariant-loop-j l = record {
  place_is : l.place ≡ place l.i l.j;
  inside : l.place < length l.list.pairs.now;
  near : l.text.at ≤ l.initial.text.at + 10 * l.j;
  put : Put l.initial.text (cells_before (score l.list.pairs.now) l.i l.j) l.text;
}
