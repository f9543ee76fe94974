use native.Mathlib.Omega.{arith}
use borrow.Author.Rules.{rules}
use Rattle.lists.proofs.Chains.{all_below}
use Rattle.farris.proofs.is_row_back.Goals as goal

pub returns : goal.returns
returns c = all_below _ _ _ c.all.ensures.ran (omega arith) (λ x b q k. search rules)
