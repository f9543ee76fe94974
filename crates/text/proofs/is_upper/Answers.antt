use mathlib.Core.Path.{refl}
use Rattle.interface.specs.Sheet.{is_upper}
use Rattle.text.proofs.is_upper.Goals as goal

pub returns : goal.returns
unfolding is_upper
returns c = refl
