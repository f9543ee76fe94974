use mir.Facts.{to_z-of_z, sfits_to_z}
use mathlib.Core.Path.{sym, ap, ◌∙◌}
use native.Mathlib.Omega.{arith}
use lib.IntN.{pos}
use lib.ListN.{length, length-replicate}
use mir.Syntax.{w64}
use mir.Val.{of_z}
use Rattle.integers.specs.Integers.{min_z}
use Rattle.integers.proofs.Held.{passed}
use Rattle.integers.proofs.Operators.{min_is}
use Rattle.integers.proofs.Range.{within_equal}
use Rattle.integers.proofs.Running.{run_start, run_no}
use Rattle.clusters.specs.PairList.{score}
use Rattle.indices.proofs.Margins.{separation_margins}
use Rattle.indices.proofs.Parted.{separation_least}
use Rattle.indices.proofs.Values.{small_row, top_held, run_next, least_member, separation_beyond}
use Rattle.indices.proofs.separation_in.Goals.{then-has, else-has}
use Rattle.indices.proofs.separation_in.Goals as goal

pub loop-a-init : goal.loop-a-init
loop-a-init g c = (omega arith, omega (arith, length-replicate g.row.N (pos 0)), run_start top_held)

pub put_row-requires : goal.put_row-requires
put_row-requires g c = (omega arith, c.loop-a.invariant.1)

pub least_margin-requires : goal.least_margin-requires
least_margin-requires g c = let (proper, small, fit, _) = c.requires in
    let i = c.loop-a.invariant in (
      omega arith,
      (
        (fit, proper, λ x _ _. small_row small x),
        (omega (arith, c.put_row.auto.row, i.1), λ y h. within_equal (c.put_row.ensures y h) (small_row small _ y h)),
      ),
    )

pub loop-a-preserved : goal.loop-a-preserved
loop-a-preserved g c =
    let l = c.loop-a in
    let t = sym c.has.ensures in
    elim c.if-has.branch [
      | then-has w ↦ (
        omega arith,
        omega (arith, l.invariant.1, w.put_row.auto.row, ap length w.numbers-is),
        run_next l.invariant.2 (sfits_to_z l.auto.least-fits) (t ∙ w.if-has.true) w.least-is w.min-least.type_inv
            (w.min-least.ensures.value ∙ min_is _ _ ∙ ap (min_z _) (passed w64 w.least_margin.type_inv (w.least_margin.ensures
            ∙ separation_least c.args.list.now.pairs.now c.requires.0 w.put_row.new.row l.a w.put_row.ensures))),
      )
      | else-has w ↦ (omega arith, omega (arith, l.invariant.1, ap length w.numbers-is), run_no l.invariant.2 (t ∙ w.if-has.false) (ap (of_z w64) w.least-is))
    ]

pub returns : goal.returns
returns g c =
    let (proper, small, _, _) = c.requires in
    sym (to_z-of_z {w = w64} (sfits_to_z c.loop-a.auto.least-fits))
    ∙ least_member proper (omega arith) (separation_beyond small proper) c.loop-a.invariant.2
    ∙ separation_margins c.args.list.now.n (score c.args.list.now.pairs.now) c.args.set proper
