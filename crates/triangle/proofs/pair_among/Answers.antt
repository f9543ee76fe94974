use mathlib.Core.Path.{sym, ◌∙◌}
use Rattle.triangle.proofs.Among.{among_pair, among_asks, among_none}
use Rattle.triangle.proofs.pair_among.Goals as goal

pub pair-requires : goal.pair-requires
pair-requires c = among_asks _ _ _ _ (sym c.is_pair.ensures ∙ c.if-is_pair.true)

pub returns-then-is_pair : goal.returns-then-is_pair
returns-then-is_pair c = c.pair.ensures ∙ among_pair _ c.args.pairs.now _ _ (sym c.is_pair.ensures ∙ c.if-is_pair.true)

pub returns-else-is_pair : goal.returns-else-is_pair
returns-else-is_pair c = among_none _ c.args.pairs.now _ _ (sym c.is_pair.ensures ∙ c.if-is_pair.false)
