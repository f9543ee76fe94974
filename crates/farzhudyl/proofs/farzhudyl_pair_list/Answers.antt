use mir.Syntax.{w64}
use Rattle.integers.proofs.Held.{passed}
use Rattle.farzhudyl.proofs.Small.{read_small}
use Rattle.farzhudyl.proofs.farzhudyl_pair_list.Goals as goal

pub as_number-requires : goal.as_number-requires
as_number-requires c = read_small c.args.sheet.now c.read.ensures.answered

pub returns : goal.returns
returns c = record {
  given = c.read.result;
  number = passed w64 c.as_number.type_inv c.as_number.ensures;
  outcome = c.read.ensures;
}
