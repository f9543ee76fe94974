use mathlib.Core.Path.{sym, ap, ◌∙◌, subst}
use Prim.Native.Nat.{◌^◌, ◌<◌}
use borrow.Author.Rules.{rules}
use mir.Syntax.{w64}
use mir.Facts.{to_z_pos}
use Rattle.integers.proofs.Held.{passed}
use Rattle.answers.specs.Answers.{Answer, count_of}
use Rattle.interface.specs.Calls.{c_number}
use Rattle.farzhudyl.proofs.as_number.Goals as goal

pub overflow_cast-result : goal.overflow_cast-result
unfolding count_of
overflow_cast-result c = let h = subst (λ (a : Answer). count_of a < 2 ^ 63) c.in-Ok.is c.requires in search rules

pub returns-in-Ok : goal.returns-in-Ok
unfolding c_number count_of
returns-in-Ok c = to_z_pos w64 (subst (λ (a : Answer). count_of a < 2 ^ 63) c.in-Ok.is c.requires) ∙ sym (ap c_number c.in-Ok.is)

pub returns-in-Err : goal.returns-in-Err
unfolding c_number
returns-in-Err c = passed w64 c.minus_number.type_inv c.minus_number.ensures ∙ sym (ap c_number c.in-Err.is)
