use mathlib.Core.Path.{refl}
use Rattle.sets.specs.Sets.{◌∪◌}
use Rattle.sets.proofs.union.Goals as goal

pub returns : goal.returns
unfolding ◌∪◌
returns c = refl
