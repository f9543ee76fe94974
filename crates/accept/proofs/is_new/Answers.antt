use borrow.Author.Rules.{rules}
use borrow.Author.Tests.{tests}
use Rattle.lists.proofs.Chains.{fold_and}
use Rattle.accept.proofs.is_new.Goals as goal

pub returns : goal.returns
returns c = fold_and _ _ c.iter.result c.fold.result c.iter.ensures.rest c.fold.ensures.ran (λ a x b f k. search (rules, tests))
