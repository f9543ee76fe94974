use lib.ListN.{length}
use mir.Syntax.{w64}
use Rattle.integers.proofs.Held.{passed}
use Rattle.farzhudyl.proofs.Small.{anchored_small}
use Rattle.farzhudyl.proofs.farzhudyl_anchored_scores.Goals as goal

pub as_number-requires : goal.as_number-requires
as_number-requires c = let a = c.args in
    anchored_small a.n a.pairs.now _ (length a.out.now) c.anchored_scores.ensures.answered

pub returns : goal.returns
returns c = record {
  given = c.anchored_scores.result;
  number = passed w64 c.as_number.type_inv c.as_number.ensures;
  outcome = c.anchored_scores.ensures;
}
