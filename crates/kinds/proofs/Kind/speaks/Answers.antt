use mathlib.Core.Path.{ap}
use mathlib.Core.Bool.{not}
use Rattle.integers.proofs.Tests.{and_second, and_first}
use Rattle.clusters.specs.Groups.{speaks_of}
use Rattle.kinds.specs.Kinds.{kind_for}
use Rattle.kinds.proofs.Kind.speaks.Goals as goal

pub returns-in-Strong : goal.returns-in-Strong
unfolding speaks_of kind_for
returns-in-Strong c = rw c.in-Strong.is c.has_size.ensures

pub returns-in-Clean : goal.returns-in-Clean
unfolding speaks_of kind_for
returns-in-Clean c = rw c.in-Clean.is c.has_size-in-Clean.ensures

pub returns-then-has_size : goal.returns-then-has_size
unfolding speaks_of kind_for
returns-then-has_size c = rw c.in-Splits.is
    (and_second c.has_size-in-Splits.ensures c.if-has_size.true (ap not c.has.ensures))

pub returns-else-has_size : goal.returns-else-has_size
unfolding speaks_of kind_for
returns-else-has_size c = rw c.in-Splits.is (and_first _ c.has_size-in-Splits.ensures c.if-has_size.false)
