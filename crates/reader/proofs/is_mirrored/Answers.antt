use mathlib.Core.Path.{◌∙◌}
use native.Mathlib.Omega.{arith}
use borrow.Author.Rules.{rules}
use Rattle.lists.proofs.Chains.{all_below}
use Rattle.reader.specs.Square.{square}
use Rattle.reader.proofs.Answers.{mirrored_lower}
use Rattle.reader.proofs.is_mirrored.Goals as goal

pub returns : goal.returns
returns c = all_below _ _ _ c.all.ensures.ran (omega arith) (λ x b q k. search rules) ∙ mirrored_lower c.args.n (square c.args.values.now)
