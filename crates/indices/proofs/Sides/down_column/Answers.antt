use mathlib.Core.Path.{◌≡◌}
use Prim.Native.Nat.{◌<◌}
use native.Mathlib.Omega.{arith}
use Rattle.integers.proofs.Range.{within_equal}
use Rattle.matrix.proofs.Places.{next_column, place_few}
use Rattle.indices.proofs.Seen.{seen_more, seen_end}
use Rattle.indices.proofs.Values.{stands, read_score}
use Rattle.indices.proofs.Sides.down_column.Goals.{After-place_of}
use Rattle.indices.proofs.Sides.down_column.Goals as goal

pub place_of-requires : goal.place_of-requires
place_of-requires g c = (omega (arith, c.args.list.now.fits.few), omega (arith, c.args.list.now.fits.few))

small : {g : _} (c : After-place_of g) → c.place_of.result < 528
small c = let few = c.args.list.now.fits.few in
    omega (arith, place_few {a = c.args.x} {b = c.args.x} (omega (arith, few)) (omega (arith, few)), c.place_of.ensures)

pub overflow_add-at : goal.overflow_add-at
overflow_add-at g c = omega (arith, small c, c.args.list.now.fits.few)

pub overflow_add-at-2 : goal.overflow_add-at-2
overflow_add-at-2 g c = omega (arith, small c, c.args.list.now.fits.few)

pub overflow_step-y : goal.overflow_step-y
overflow_step-y g c = omega (arith, c.args.list.now.fits.few)

pub loop-y-init : goal.loop-y-init
loop-y-init g c = (
  omega arith,
  omega arith,
  omega (arith, c.place_of.ensures, next_column c.args.x c.args.x (omega arith)),
  c.requires.3,
)

pub offset_bounds-list-at : goal.offset_bounds-list-at
offset_bounds-list-at g c = let (_, few) = stands c.args.x c.loop-y.y c.args.list.now.fits (omega arith) (omega arith) c.loop-y.invariant.2 in
    record { fits = omega (arith, few) }

pub bounds-list-at : goal.bounds-list-at
bounds-list-at g c = (stands c.args.x c.loop-y.y c.args.list.now.fits (omega arith) (omega arith) c.loop-y.invariant.2).0

pub with_value-seen-requires : goal.with_value-seen-requires
with_value-seen-requires g c = let l = c.loop-y in
    let h = c.requires.2 l.y (omega arith) in
    (omega arith, (within_equal (read_score c.args.list.now.pairs.now c.args.x l.y l.invariant.2 h) h, omega arith))

pub overflow_add-at-in-loop-y : goal.overflow_add-at-in-loop-y
overflow_add-at-in-loop-y g c = omega (arith, c.args.list.now.fits.few)

pub overflow_add-at-in-loop-y-2 : goal.overflow_add-at-in-loop-y-2
overflow_add-at-in-loop-y-2 g c = let few = c.args.list.now.fits.few in
    omega (arith, few, place_few {a = c.args.x} {b = c.loop-y.y} (omega (arith, few)) (omega (arith, few)))

pub overflow_step-y-in-loop-y : goal.overflow_step-y-in-loop-y
overflow_step-y-in-loop-y g c = omega (arith, c.args.list.now.fits.few)

pub loop-y-smaller : goal.loop-y-smaller
loop-y-smaller g c = omega arith

pub loop-y-preserved : goal.loop-y-preserved
loop-y-preserved g c = let l = c.loop-y in (
  omega arith,
  omega arith,
  omega (arith, l.invariant.2, next_column c.args.x l.y (omega arith)),
  seen_more l.invariant.3 (read_score c.args.list.now.pairs.now c.args.x l.y l.invariant.2 (c.requires.2 l.y (omega arith)))
      c.with_value-seen.ensures.0 c.with_value-seen.ensures.1,
)

pub returns : goal.returns
returns g c = let e : c.loop-y.y ≡ c.args.list.now.n = omega arith in
    seen_end e c.loop-y.invariant.3
