use borrow.Author.Rules.{rules}
use borrow.Author.Tests.{tests}
use Rattle.clusters.specs.PairList.{scores_in_range}
use Rattle.lists.proofs.Chains.{fold_and}
use Rattle.matrix.proofs.scores_in_range.Goals as goal

pub returns : goal.returns
unfolding scores_in_range
returns c = fold_and _ _ c.iter.result c.fold.result c.iter.ensures.rest c.fold.ensures.ran (λ a x b f k. search (rules, tests))
