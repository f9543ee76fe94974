use mathlib.Core.Path.{sym, ap, ◌∙◌}
use borrow.Author.Rules.{rules}
use lib.IntN.{nat_abs}
use mir.Syntax.{w32}
use mir.Val.{SFits}
use Rattle.std.specs.Int.{is_negative}
use mir.Facts.{to_z-of_z}
use Rattle.writer.proofs.Texts.{carries, mark_put, plain_put, signed_put}
use Rattle.writer.proofs.put_pair.Goals as goal
use Rattle.writer.proofs.put_pair.Goals.{then-is_negative, else-is_negative}

pub returns-in-Unscored : goal.returns-in-Unscored
returns-in-Unscored c = mark_put (sym (carries c.from.ensures (to_z-of_z c.ranges.v)) ∙ c.in-Unscored.is) c.put_byte-in-Unscored.ensures

pub returns-after-is_negative : goal.returns-after-is_negative
returns-after-is_negative c =
    let scored = sym (carries c.from.ensures (to_z-of_z c.ranges.v)) ∙ c.in-Scored.is in
    let fits : SFits w32 c.in-Scored.score = search rules in
    let same = to_z-of_z fits in
    let digits = c.unsigned_abs.ensures.value ∙ ap nat_abs same in
    let negative = ap is_negative (sym same) ∙ sym c.is_negative.ensures in
    elim c.if-is_negative.branch [
      | then-is_negative w ↦
          signed_put scored digits (negative ∙ w.if-is_negative.true) w.text-is w.put_byte.ensures c.put_points.ensures
      | else-is_negative w ↦ plain_put scored digits (negative ∙ w.if-is_negative.false) w.text-is c.put_points.ensures
    ]
