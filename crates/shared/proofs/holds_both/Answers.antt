use Rattle.integers.proofs.Tests.{and_second, and_first}
use Rattle.clusters.specs.Nesting.{holds_both}
use Rattle.shared.proofs.holds_both.Goals as goal

pub returns-then-has : goal.returns-then-has
unfolding holds_both
returns-then-has c = and_second c.has.ensures c.if-has.true c.has-then-has.ensures

pub returns-else-has : goal.returns-else-has
unfolding holds_both
returns-else-has c = and_first _ c.has.ensures c.if-has.false
