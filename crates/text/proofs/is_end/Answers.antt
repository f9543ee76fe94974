use lib.ListN.{drop_of_length-le}
use Rattle.text.specs.Reading.{is_end}
use Rattle.text.proofs.Pieces.{here}
use Rattle.text.proofs.is_end.Goals as goal

pub returns-then-at-line : goal.returns-then-at-line
unfolding is_end
returns-then-at-line c = rw (drop_of_length-le c.before.args.line.now c.if-at-line.true)

pub returns : goal.returns
unfolding is_end
returns c = rw (here c.before.before.args.line.now _ c.before.if-at-line.false)
