use mathlib.Core.Path.{subst}
use native.Mathlib.Omega.{arith}
use lib.ListN.{length}
use mir.Syntax.{w32, w64}
use mir.Facts.{to_z-of_z}
use Rattle.integers.proofs.Held.{passed}
use Rattle.interface.specs.Calls.{SheetCall}
use Rattle.farzhudyl.proofs.Numbers.{count_le}
use Rattle.farzhudyl.proofs.farzhudyl_listing.Goals as goal

pub as_number-requires : goal.as_number-requires
as_number-requires c = let a = c.args in
    let asked : SheetCall a.kind a.sheet.now a.out.now c.listing.result c.listing.new.out =
    subst (λ k. SheetCall k c.args.sheet.now c.args.out.now c.listing.result c.listing.new.out) (to_z-of_z {w = w32} c.ranges.kind) c.listing.ensures in
    omega (arith, count_le a.kind a.sheet.now (length a.out.now) asked.answered)

pub returns : goal.returns
returns c = record {
  given = c.listing.result;
  number = passed w64 c.as_number.type_inv c.as_number.ensures;
  outcome = subst (λ k. SheetCall k c.args.sheet.now c.args.out.now c.listing.result c.listing.new.out) (to_z-of_z {w = w32} c.ranges.kind) c.listing.ensures;
}
