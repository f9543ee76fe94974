use mathlib.Core.Path.{ap, ◌∙◌}
use lib.IntN.{pos}
use borrow.Author.Rules.{rules}
use mir.Syntax.{w32}
use Rattle.integers.proofs.Held.{passed}
use Rattle.farzhudyl.proofs.Refined.{weight_put, weight_refused}
use Rattle.farzhudyl.proofs.farzhudyl_refined_weight.Goals as goal

pub returns-in-Ok : goal.returns-in-Ok
returns-in-Ok c = weight_put _ _ _ c.in-Ok.ensures (search rules)

pub returns-in-Err : goal.returns-in-Err
returns-in-Err c = weight_refused _ _ _ c.in-Err.ensures (passed w32 c.from.type_inv (c.from.ensures ∙ ap pos c.number.ensures))
