use lib.ListN.{length}
use mir.Syntax.{w64}
use Rattle.integers.proofs.Held.{passed}
use Rattle.farzhudyl.proofs.Small.{back_small}
use Rattle.farzhudyl.proofs.farzhudyl_distances_back.Goals as goal

pub as_number-requires : goal.as_number-requires
as_number-requires c = let a = c.args in
    back_small a.n a.scores.now _ (length a.out.now) c.distances_back.ensures.answered

pub returns : goal.returns
returns c = record {
  given = c.distances_back.result;
  number = passed w64 c.as_number.type_inv c.as_number.ensures;
  outcome = c.distances_back.ensures;
}
