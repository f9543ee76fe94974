use mathlib.Core.Path.{refl}
use Rattle.interface.specs.Refusals.{is_allowed}
use Rattle.text.proofs.is_allowed.Goals as goal

pub returns : goal.returns
unfolding is_allowed
returns c = rw c.is_name_byte.ensures refl
