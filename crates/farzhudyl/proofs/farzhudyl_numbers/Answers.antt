use mathlib.Core.Path.{subst}
use lib.ListN.{length}
use mir.Syntax.{w32, w64}
use mir.Facts.{to_z-of_z}
use Rattle.integers.proofs.Held.{passed}
use Rattle.interface.specs.Calls.{NumbersCall}
use Rattle.farzhudyl.proofs.Small.{numbers_small}
use Rattle.farzhudyl.proofs.farzhudyl_numbers.Goals as goal

pub as_number-requires : goal.as_number-requires
as_number-requires c = let a = c.args in
    numbers_small a.n a.pairs.now _ (length a.sets.now) (length a.indices.now)
    c.numbers.ensures.answered

pub returns : goal.returns
returns c = record {
  given = c.numbers.result;
  number = passed w64 c.as_number.type_inv c.as_number.ensures;
  outcome = subst (λ k. NumbersCall k c.args.n c.args.pairs.now c.args.sets.now c.args.indices.now c.numbers.result c.numbers.new.sets c.numbers.new.indices)
      (to_z-of_z {w = w32} c.ranges.kind) c.numbers.ensures;
}
