use mathlib.Core.Path.{ap}
use native.Mathlib.Omega.{arith}
use lib.ListN.{length}
use Rattle.text.proofs.Pieces.{piece_stop, piece_step, piece_none}
use Rattle.text.proofs.piece_end.Goals as goal

pub returns-then-s-end : goal.returns-then-s-end
returns-then-s-end c =
    omega (arith, ap length (piece_stop c.args.c c.args.s.now c.loop-end.end c.loop-end-test.true c.if-s-end.true))

pub loop-end-preserved : goal.loop-end-preserved
loop-end-preserved c =
    (omega arith, omega (arith, ap length (piece_step c.args.c c.args.s.now c.loop-end.end c.loop-end-test.true c.if-s-end.false)))

pub returns : goal.returns
returns c = omega (arith, ap length (piece_none c.args.c c.args.s.now c.loop-end.end c.loop-end-test.false))
