use mathlib.Core.Path.{◌≡◌, refl, ap, ◌∙◌}
use mathlib.Core.Bool.{Bool, true, false, not, cond, ◌||◌}
use lib.IntN.{ℤ, pos}
use mir.Facts.{to_z-of_z}
use mir.Syntax.{w32}
use Rattle.std.specs.Prelude.{Result, Ok, Err}
use Rattle.std.specs.Result.{result_unwrap_or}
use Rattle.lists.proofs.Tests.{true_T}
use Rattle.integers.specs.Integers.{eq_z}
use Rattle.clusters.specs.Groups.{strong, clean, splits, kind_of}
use Rattle.interface.specs.Refusals.{wrong_kind}
use Rattle.answers.specs.declared.Refusal.{Refusal}
use Rattle.kinds.specs.declared.Kind.{Kind}
use Rattle.kinds.specs.declared.Kind.TheVariants.{Splits}
use Rattle.kinds.specs.Kinds.{kind_for, KindRead}
use Rattle.kinds.proofs.Read.{is_of}
use Rattle.kinds.proofs.kind_of.Goals as goal

-- a number of no kind stands for splits
read : (number : ℤ) (r : Result Kind Refusal) → KindRead number r → kind_for (result_unwrap_or r Splits) ≡ kind_of number
unfolding kind_of kind_for wrong_kind
read number (Ok kind) e = (is_of kind e).1
read number (Err error) e = go (eq_z number (pos 1)) (eq_z number (pos 2)) (eq_z number (pos 3)) e.1
  where
    go : (a b d : Bool) → not (a || b || d) ≡ true → splits ≡ cond a strong (cond b clean splits)
    go true b d e = absurd (true_T e)
    go false true d e = absurd (true_T e)
    go false false d e = refl

pub returns : goal.returns
returns c = ap kind_for c.unwrap_or.ensures ∙ read _ _ c.try_from.ensures ∙ ap kind_of (to_z-of_z {w = w32} c.ranges.number)
