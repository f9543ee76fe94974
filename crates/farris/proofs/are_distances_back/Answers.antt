use mathlib.Core.Path.{refl, ◌∙◌}
use borrow.Author.Rules.{rules}
use Rattle.farris.proofs.Distances.{back_test}
use Rattle.lists.proofs.Chains.{all_below}
use Rattle.farris.proofs.are_distances_back.Goals as goal

pub returns : goal.returns
returns c = let a = c.args in
    all_below _ _ _ c.all.ensures.ran refl (λ x b q k. search rules) ∙ back_test a.scores.now.n a.scores.now.pairs.now
