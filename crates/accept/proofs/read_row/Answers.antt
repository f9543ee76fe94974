use mathlib.Core.Path.{◌≡◌, refl, sym, ap, ◌∙◌}
use Prim.Native.Nat.{ℕ, suc, ◌+◌, ◌<◌}
use mathlib.Core.Logic.{inl, inr}
use native.Mathlib.Omega.{arith}
use borrow.Author.Rules.{rules}
use lib.ListN.{set, length-set}
use mir.Val.{of_z, to_z}
use mir.Syntax.{w32}
use Rattle.interface.specs.Sheet.{value}
use Rattle.clusters.proofs.Rows.{row_none, row_value, row_all}
use Rattle.accept.proofs.Rows.{row_start_lem, row_number, row_step, own_number, row_end}
use Rattle.accept.proofs.read_row.Goals as goal

pub loop-j-init : goal.loop-j-init
loop-j-init c = (omega arith, refl, refl, row_start_lem c.requires.3 c.requires.4, row_none)

pub read_cell-requires : goal.read_cell-requires
read_cell-requires c = let l = c.loop-j in (l.invariant.3.here.inside, (l.invariant.3.wait l.j (omega arith) (omega arith)).inside, inl refl)

pub loop-j-preserved : goal.loop-j-preserved
loop-j-preserved c =
    let l = c.loop-j in
    let k = c.in_ok-cell.ensures in
    let same : to_z w32 (of_z w32 c.in_ok-cell.cell.number) ≡ c.in_ok-cell.cell.number = search rules in
    let h : l.j < c.args.i = omega arith in (
      omega arith,
      length-set l.cur _ _ ∙ l.invariant.1,
      length-set l.pairs _ _ ∙ l.invariant.2,
      row_step l.invariant.3 k h c.requires.2 (omega (arith, l.invariant.1)),
      row_value l.invariant.4 refl (same ∙ row_number l.invariant.3 k h),
    )

pub read_cell-requires-2 : goal.read_cell-requires-2
read_cell-requires-2 c = let h = c.loop-j.invariant.3.here.inside in (h, h, inr refl)

pub returns : goal.returns
returns c =
    let l = c.loop-j in
    let k = c.in_ok-cell-2.ensures.near in
    let same : to_z w32 (of_z w32 c.in_ok-cell-2.cell.number) ≡ c.in_ok-cell-2.cell.number = search rules in
    let e : l.j ≡ c.args.i = omega arith in
    let z : l.j + 1 ≡ suc c.args.i = omega arith in
    record {
      row_read = row_end l.invariant.3 k c.requires.2 e (omega (arith, l.invariant.1));
      pairs_after = row_all c.args.start c.args.i
          (row_value l.invariant.4 (ap (λ (i : ℕ). set l.pairs (c.args.start + i) (to_z w32 (of_z w32 c.in_ok-cell-2.cell.number))) (sym e))
          (same ∙ own_number l.invariant.3 k c.requires.2 e ∙ ap (value c.args.sheet.now c.args.i) (sym e))) refl z;
    }
