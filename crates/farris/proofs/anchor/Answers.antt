use mathlib.Core.Path.{◌≡◌}
use borrow.Author.Rules.{rules}
use Rattle.clusters.specs.Farris.{farris, anchored_scores}
use Rattle.clusters.specs.PairList.{score}
use Rattle.farris.proofs.Bounds.{anchored_small}
use Rattle.farris.proofs.anchor.Goals as goal

pub fill-requires-clause-fitting : goal.fill-requires-clause-fitting
fill-requires-clause-fitting c a b r h k p = let l = c.args.list.now.pairs.now in
    let e : r ≡ farris (score l) c.args.x a b = search rules in
    rw e (anchored_small l c.args.x a b c.requires.1)

pub returns : goal.returns
unfolding anchored_scores
returns c = c.fill.ensures (farris (score c.args.list.now.pairs.now) c.args.x) (λ a b r h k p. search rules)
