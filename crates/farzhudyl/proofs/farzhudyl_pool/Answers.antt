use lib.ListN.{length}
use mir.Syntax.{w64}
use Rattle.integers.proofs.Held.{passed}
use Rattle.farzhudyl.proofs.Small.{pool_small}
use Rattle.farzhudyl.proofs.farzhudyl_pool.Goals as goal

pub as_number-requires : goal.as_number-requires
as_number-requires c = let a = c.args in
    pool_small a.first.now _ (length a.out.now) c.pool.ensures.answered

pub returns : goal.returns
returns c = record {
  given = c.pool.result;
  number = passed w64 c.as_number.type_inv c.as_number.ensures;
  outcome = c.pool.ensures;
}
