use mathlib.Core.Path.{ap}
use mathlib.Core.Bool.{not}
use Rattle.interface.specs.Refusals.{is_allowed, wrong_byte}
use Rattle.sheet.proofs.wrong_byte.Goals as goal

pub returns : goal.returns
unfolding wrong_byte
returns c = ap not (c.all_bytes.ensures is_allowed (λ b h r k. k))
