use native.Mathlib.Omega.{arith}
use Rattle.text.proofs.Pieces.{count_stop, count_step, count_end}
use Rattle.text.proofs.piece_count.Goals.{then-b-c, else-b-c}
use Rattle.text.proofs.piece_count.Goals as goal

pub loop-b-preserved : goal.loop-b-preserved
loop-b-preserved c =
    elim c.if-b-c.branch [
      | then-b-c w ↦ (omega arith, omega (arith, count_stop c.args.c c.args.s.now c.loop-b.b-index c.loop-b-test.true w.if-b-c.true))
      | else-b-c w ↦ (omega arith, omega (arith, count_step c.args.c c.args.s.now c.loop-b.b-index c.loop-b-test.true w.if-b-c.false))
    ]

pub returns : goal.returns
returns c = omega (arith, count_end c.args.c c.args.s.now c.loop-b.b-index c.loop-b-test.false)
