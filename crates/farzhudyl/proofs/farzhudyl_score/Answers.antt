use mathlib.Core.Path.{ap, ◌∙◌}
use lib.IntN.{pos}
use mir.Syntax.{w32, w64}
use Rattle.integers.proofs.Held.{passed}
use Rattle.pairs.specs.Pairs.{list_number}
use Rattle.farzhudyl.proofs.InC.{score_refused, score_put}
use Rattle.farzhudyl.proofs.farzhudyl_score.Goals as goal

pub returns-in-Err : goal.returns-in-Err
returns-in-Err c = score_refused _ _ _ _ _ _ c.in-Err.ensures (passed w32 c.from.type_inv (c.from.ensures ∙ ap pos c.number.ensures))

pub returns : goal.returns
returns c = score_put _ _ _ _ _ c.in_default.ensures
    (passed w64 c.from-3.type_inv (c.from-3.ensures ∙ passed w32 c.from-2.type_inv (c.from-2.ensures ∙ ap list_number c.pair_of.ensures)))
