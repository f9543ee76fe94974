use mathlib.Core.Path.{◌∙◌}
use borrow.Author.Rules.{rules}
use lib.IntN.{pos}
use lib.ListN.{get_or}
use mir.Syntax.{w32, w64}
use mir.Facts.{to_z-of_z}
use mir.Val.{SFits}
use Rattle.integers.proofs.Held.{passed}
use Rattle.integers.proofs.Range.{fits_within}
use Rattle.matrix.proofs.score.Goals as goal

pub returns-clause-narrow : goal.returns-clause-narrow
returns-clause-narrow c = let f : SFits w32 (get_or c.args.pairs.now c.place_of.result (pos 0)) = search rules in
    let e = passed w64 c.from.type_inv (c.from.ensures ∙ to_z-of_z f) in rw e (fits_within w32 f)
