use mathlib.Core.Path.{refl}
use native.Mathlib.Omega.{arith}
use Rattle.clusters.specs.PairList.{row_start}
use Rattle.clusters.proofs.PairList.{row_start_le}
use Rattle.clusters.proofs.Rows.{rows_none, rows_row, rows_all}
use Rattle.clusters.proofs.PairList.{next_start}
use Rattle.reader.proofs.Slots.{row_room}
use Rattle.reader.proofs.fill.Goals as goal

pub loop-i-init : goal.loop-i-init
unfolding row_start
loop-i-init c = (omega arith, refl, rows_none)

pub fill_row-requires : goal.fill_row-requires
fill_row-requires c = (omega arith, omega (arith, row_room c.loop-i.i (omega arith)))

pub overflow_add-start-in-loop-i : goal.overflow_add-start-in-loop-i
overflow_add-start-in-loop-i c = omega (arith, row_room c.loop-i.i (omega arith))

pub loop-i-preserved : goal.loop-i-preserved
loop-i-preserved c = let l = c.loop-i in
    let r = c.fill_row in (
      omega arith,
      next_start l.i l.invariant.1,
      rows_row l.invariant.2 (rw l.invariant.1 at r.ensures),
    )

pub returns : goal.returns
returns c = let a = c.args in
    let l = c.loop-i in
    rows_all a.n l.invariant.2 (omega arith) (omega (arith, row_start_le a.n c.requires))
