use mathlib.Core.Path.{◌≡◌, refl, sym, ap, ◌∙◌}
use Rattle.std.proofs.lemmas.Result.{err_from_is_err_and}
use mir.Facts.{to_z-of_z}
use mir.Syntax.{w32}
use Rattle.interface.specs.Refusals.{wrong_group_kind}
use Rattle.kinds.specs.Kinds.{number_for}
use Rattle.kinds.proofs.Read.{group_kind, no_group_kind, group_refused}
use Rattle.kinds.proofs.Kind.of_groups.Goals.{In_ok-kind}
use Rattle.kinds.proofs.Kind.of_groups.Goals as goal

-- the number is that of the kind that was read
number : (c : In_ok-kind) → number_for c.in_ok-kind.kind ≡ c.args.number
number c = c.in_ok-kind.ensures ∙ to_z-of_z {w = w32} c.ranges.number

pub returns-in_err-kind : goal.returns-in_err-kind
returns-in_err-kind c = let p = err_from_is_err_and c.from_residual.result c.from_residual.ensures.1 in
    rw (p.1, p.2) (group_refused _ (rw (to_z-of_z {w = w32} c.ranges.number) at c.in_err-kind.ensures))

pub returns-in-Splits : goal.returns-in-Splits
returns-in-Splits c = (refl, ap wrong_group_kind (sym (number c.before)) ∙ no_group_kind c.in-Splits.is)

pub returns-in_default : goal.returns-in_default
returns-in_default c = (number c.before, ap wrong_group_kind (sym (number c.before)) ∙ group_kind _ c.in_default.not-Splits)
