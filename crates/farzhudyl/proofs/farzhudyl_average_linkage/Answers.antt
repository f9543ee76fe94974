use lib.ListN.{length}
use mir.Syntax.{w64}
use Rattle.integers.proofs.Held.{passed}
use Rattle.farzhudyl.proofs.Small.{linkage_small}
use Rattle.farzhudyl.proofs.farzhudyl_average_linkage.Goals as goal

pub as_number-requires : goal.as_number-requires
as_number-requires c = let a = c.args in
    linkage_small a.n a.pairs.now (length a.blocks.now) c.average_linkage.ensures.answered

pub returns : goal.returns
returns c = record {
  given = c.average_linkage.result;
  number = passed w64 c.as_number.type_inv c.as_number.ensures;
  outcome = c.average_linkage.ensures;
}
