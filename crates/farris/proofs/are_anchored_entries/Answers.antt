use mathlib.Core.Path.{refl}
use borrow.Author.Rules.{rules}
use Rattle.lists.proofs.Chains.{all_below}
use Rattle.farris.proofs.are_anchored_entries.Goals as goal

pub returns : goal.returns
returns c = all_below _ _ _ c.all.ensures.ran refl (λ x b q k. search rules)
