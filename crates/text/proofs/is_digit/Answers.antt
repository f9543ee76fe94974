use mathlib.Core.Path.{refl}
use Rattle.interface.specs.Sheet.{is_digit}
use Rattle.text.proofs.is_digit.Goals as goal

pub returns : goal.returns
unfolding is_digit
returns c = refl
