use borrow.Author.Rules.{rules}
use borrow.Author.Tests.{tests}
use Rattle.clusters.specs.PairList.{has_unscored}
use Rattle.pairs.specs.Pairs.{carried, is_scored}
use Rattle.lists.proofs.Chains.{fold_or}
use Rattle.matrix.proofs.has_unscored.Goals as goal

pub returns : goal.returns
unfolding has_unscored carried is_scored
returns c = fold_or _ _ c.iter.result c.fold.result c.iter.ensures.rest c.fold.ensures.ran (λ a x b f k. search (rules, tests))
