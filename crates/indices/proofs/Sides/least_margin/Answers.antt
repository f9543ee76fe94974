use mir.Facts.{to_z-of_z, sfits_to_z}
use mir.Val.{of_z}
use mathlib.Core.Path.{sym, ap, ◌∙◌}
use mathlib.Core.Bool.{Bool, beq}
use native.Mathlib.Omega.{arith}
use mir.Syntax.{w64}
use Rattle.lists.proofs.Tests.{true_T}
use Rattle.integers.specs.Integers.{min_z}
use Rattle.integers.proofs.Held.{passed}
use Rattle.integers.proofs.Operators.{min_is}
use Rattle.integers.proofs.Running.{run_start, run_no}
use Rattle.indices.proofs.Parted.{least_spread}
use Rattle.indices.proofs.Values.{top_held, run_next}
use Rattle.indices.proofs.Sides.least_margin.Goals.{then-has-inner, else-has-inner}
use Rattle.indices.proofs.Sides.least_margin.Goals as goal

pub part-requires : goal.part-requires
part-requires g c = let (numbers, small) = c.requires.numbers in (omega arith, (c.args.list.now.fits.few, c.requires.scores.0, numbers, small))

pub loop-x-init : goal.loop-x-init
loop-x-init g c = (omega arith, run_start top_held)

pub spread-requires : goal.spread-requires
spread-requires g c =
    let p = c.requires.scores in
    let side = ap (λ (b : Bool). beq b c.args.inner) c.has.ensures in
    (omega arith, (omega arith, p.0, p.2 _ (omega arith) (true_T (sym side ∙ c.if-has-inner.true))))

pub loop-x-preserved : goal.loop-x-preserved
loop-x-preserved g c =
    let l = c.loop-x in
    let t = sym (ap (λ (b : Bool). beq b c.args.inner) c.has.ensures) in
    elim c.if-has-inner.branch [
      | then-has-inner w ↦ (
        omega arith,
        run_next l.invariant.1 (sfits_to_z l.auto.least-fits) (t ∙ w.if-has-inner.true) w.least-is w.min-least.type_inv
            (w.min-least.ensures.value ∙ min_is _ _ ∙ ap (min_z _) (passed w64 w.spread.type_inv w.spread.ensures)),
      )
      | else-has-inner w ↦ (omega arith, run_no l.invariant.1 (t ∙ w.if-has-inner.false) (ap (of_z w64) w.least-is))
    ]

pub returns : goal.returns
returns g c =
    let p = c.requires.scores in
    sym (to_z-of_z {w = w64} (sfits_to_z c.loop-x.auto.least-fits))
    ∙ least_spread c.args.list.now.pairs.now p.1 _ c.requires.numbers.1 c.part.ensures (omega arith) c.args.inner p.2 c.loop-x.invariant.1
