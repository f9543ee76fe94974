use mathlib.Core.Path.{refl, ◌∙◌}
use Prim.Native.Nat.{◌+◌, ◌≤◌, ◌<◌}
use native.Mathlib.Omega.{arith}
use lib.ListN.{length-set}
use mir.Syntax.{w32, w64}
use Rattle.integers.proofs.Held.{passed}
use Rattle.clusters.specs.PairList.{row_start}
use Rattle.clusters.proofs.PairList.{row_lt, row_start_le}
use Rattle.clusters.proofs.Rows.{row_none, row_value, row_all}
use Rattle.farris.proofs.fill_row.Given.{Over}
use Rattle.farris.proofs.fill_row.Goals.{After-narrow}
use Rattle.farris.proofs.fill_row.Goals as goal

-- the slot of the value
slot : (g : Over) (c : After-narrow g) → (c.row_start-start.result + c.loop-b.b < row_start c.args.n) × (row_start c.args.n ≤ 528)
slot g c = let a = c.args in
    (omega (arith, row_lt a.n a.a c.loop-b.b (omega arith) (omega arith)), row_start_le a.n (omega arith))

pub loop-b-init : goal.loop-b-init
loop-b-init g c = (omega arith, refl, c.row_start-start.ensures, refl, λ S h. row_none)

pub overflow_add-start : goal.overflow_add-start
overflow_add-start g c = omega (arith, (slot g c).0, (slot g c).1)

pub offset_bounds-out-start : goal.offset_bounds-out-start
offset_bounds-out-start g c = omega (arith, (slot g c).0, (slot g c).1)

pub bounds-out-start : goal.bounds-out-start
bounds-out-start g c = omega (arith, (slot g c).0)

pub loop-b-preserved : goal.loop-b-preserved
loop-b-preserved g c = let v = c.loop-b.invariant in let a = c.args in (
  omega arith,
  refl,
  v.2,
  length-set c.loop-b.out _ _ ∙ v.3,
  λ S h. row_value (v.4 S h) refl (passed w32 c.narrow.type_inv (c.narrow.ensures ∙ passed w64 c.value.type_inv
      (h a.a c.loop-b.b _ c.requires.room.1 (omega arith) c.value.ensures))),
)

pub returns : goal.returns
returns g c S h = row_all (row_start c.args.a) c.args.a (c.loop-b.invariant.4 S h) c.loop-b.invariant.2 (omega arith)
