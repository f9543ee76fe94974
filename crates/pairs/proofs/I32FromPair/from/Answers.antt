use borrow.Author.Rules.{rules}
use Rattle.pairs.specs.Pairs.{mark, number_for, list_number}
use Rattle.pairs.proofs.I32FromPair.from.Goals as goal

pub returns-in-Unscored : goal.returns-in-Unscored
unfolding mark number_for list_number
returns-in-Unscored c = search rules
