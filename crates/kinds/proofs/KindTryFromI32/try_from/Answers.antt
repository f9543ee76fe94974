use mathlib.Core.Path.{refl}
use borrow.Author.Rules.{rules}
use Rattle.kinds.proofs.Read.{is_wrong}
use Rattle.kinds.proofs.KindTryFromI32.try_from.Goals as goal

pub returns-in_default : goal.returns-in_default
returns-in_default c = (refl, is_wrong (λ e. search rules) (λ e. search rules) (λ e. search rules))
