use mathlib.Core.Path.{◌≡◌, refl}
use Prim.Native.Nat.{ℕ, ◌+◌, ◌≤◌}
use native.Mathlib.Omega.{arith}
use lib.Dec.{lit<}
use Rattle.integers.proofs.Range.{within_equal}
use Rattle.clusters.specs.PairList.{row_start, place}
use Rattle.clusters.proofs.PairList.{row_start_le, place_row}
use Rattle.indices.proofs.Seen.{seen_none, seen_more, seen_end}
use Rattle.indices.proofs.Values.{stands, read_score}
use Rattle.indices.proofs.Sides.along_row.Goals as goal

pub overflow_sub-seen : goal.overflow_sub-seen
overflow_sub-seen g c = record { sfits = lit< tt }

pub row_start-start-requires : goal.row_start-start-requires
row_start-start-requires g c = omega (arith, c.args.list.now.fits.few)

pub overflow_add-y-end : goal.overflow_add-y-end
overflow_add-y-end g c = omega (arith, c.args.list.now.fits.few)

pub loop-y-init : goal.loop-y-init
loop-y-init g c = (omega arith, refl, c.row_start-start.ensures, seen_none refl refl)

pub overflow_add-start : goal.overflow_add-start
overflow_add-start g c = omega (arith, row_start_le c.args.x (omega (arith, c.args.list.now.fits.few)), c.args.list.now.fits.few)

-- the pair of x and an entry up to x, and that it is in the list
at_row : (x y : ℕ) {start : ℕ} → y ≤ x → start ≡ row_start x → start + y ≡ place x y
at_row x y h e = omega (arith, place_row x y h)

pub offset_bounds-list-start : goal.offset_bounds-list-start
offset_bounds-list-start g c =
    let (_, few) = stands c.args.x c.loop-y.y c.args.list.now.fits (omega arith) (omega arith) (at_row c.args.x c.loop-y.y (omega arith) c.loop-y.invariant.2) in
    record { fits = omega (arith, few) }

pub bounds-list-start : goal.bounds-list-start
bounds-list-start g c = (stands c.args.x c.loop-y.y c.args.list.now.fits (omega arith) (omega arith) (at_row c.args.x c.loop-y.y (omega arith) c.loop-y.invariant.2)).0

pub with_value-seen-requires : goal.with_value-seen-requires
with_value-seen-requires g c = let h = c.requires.2 c.loop-y.y (omega arith) in
    (omega arith, (within_equal (read_score c.args.list.now.pairs.now c.args.x c.loop-y.y (at_row c.args.x c.loop-y.y (omega arith) c.loop-y.invariant.2) h) h, omega arith))

pub overflow_step-y : goal.overflow_step-y
overflow_step-y g c = omega (arith, c.args.list.now.fits.few)

pub loop-y-smaller : goal.loop-y-smaller
loop-y-smaller g c = omega arith

pub loop-y-preserved : goal.loop-y-preserved
loop-y-preserved g c = let l = c.loop-y in (
  omega arith,
  l.invariant.1,
  l.invariant.2,
  seen_more l.invariant.3 (read_score c.args.list.now.pairs.now c.args.x c.loop-y.y (at_row c.args.x l.y (omega arith) l.invariant.2) (c.requires.2 l.y (omega arith))) c.with_value-seen.ensures.0 c.with_value-seen.ensures.1,
)

pub returns : goal.returns
returns g c = let e : c.loop-y.y ≡ c.args.x + 1 = omega (arith, c.loop-y.invariant.1) in
    seen_end e c.loop-y.invariant.3
