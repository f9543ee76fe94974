use mathlib.Core.Path.{◌∙◌}
use borrow.Author.Tests.{lt-leb}
use Rattle.kinds.proofs.Listed.{too_small, large_enough}
use Rattle.kinds.proofs.has_size.Goals as goal

pub returns-then-least-size : goal.returns-then-least-size
returns-then-least-size c = large_enough c.requires.0 c.requires.1 c.size-size.ensures c.if-least-size.true

pub returns-else-least-size : goal.returns-else-least-size
returns-else-least-size c = lt-leb _ _ c.if-least-size.false ∙ too_small c.requires.0 c.requires.1 c.size-size.ensures c.if-least-size.false
