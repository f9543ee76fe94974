use native.Mathlib.Omega.{arith}
use borrow.Author.Rules.{rules}
use Rattle.integers.proofs.Operators.{operators}
use Rattle.lists.proofs.Chains.{all_below}
use Rattle.reader.specs.Square.{square}
use Rattle.reader.proofs.is_mirrored_row.Goals as goal

pub returns : goal.returns
unfolding square
returns c = all_below _ _ _ c.all.ensures.ran (omega arith) (λ x b q k. search (rules, operators))
