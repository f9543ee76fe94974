use mathlib.Core.Path.{◌≡◌, refl, ap, ◌∙◌, subst}
use mathlib.Core.Logic.{inl, inr}
use Prim.Native.Nat.{ℕ, suc, ◌+◌, ◌-◌}
use native.Mathlib.Omega.{arith}
use lib.ListN.{get_or}
use lib.Seq.{sets}
use mathlib.Core.List.{map}
use Rattle.lists.specs.Lists.{below}
use Rattle.interface.specs.Sheet.{value}
use Rattle.clusters.specs.PairList.{row_start}
use Rattle.clusters.proofs.PairList.{row_lt, row_start_le, next_start}
use Rattle.clusters.proofs.Rows.{Rows, rows_none, rows_row}
use Rattle.accept.specs.Places.{At}
use Rattle.accept.proofs.Whole.{rows_start, rows_next, next_inside, rows_end, sheet_accepted}
use Rattle.accept.proofs.read_rows.Goals as goal

pub loop-i-init : goal.loop-i-init
unfolding row_start
loop-i-init c = (omega arith, refl, refl, rows_start c.requires.0.line.place, refl, rows_none)

pub read_row-requires : goal.read_row-requires
read_row-requires c = let l = c.loop-i in
    let n = c.args.names.count in
    (omega arith, omega (arith, row_lt n l.i l.i (omega arith) (omega arith)), inl refl, l.invariant.3.here, l.invariant.3.wait)

pub line_end-end-requires : goal.line_end-end-requires
line_end-end-requires c = next_inside c.in_ok-next.ensures.row_read

pub overflow_add-start-in-loop-i : goal.overflow_add-start-in-loop-i
overflow_add-start-in-loop-i c =
    let few = c.requires.0.line.few in
    omega (arith, row_start_le c.loop-i.i (omega (arith, few)))

pub loop-i-preserved : goal.loop-i-preserved
loop-i-preserved c =
    let l = c.loop-i in
    let r = c.read_row in
    let x = c.in_ok-next.ensures in (
      omega arith,
      r.auto.cur ∙ l.invariant.1,
      r.auto.pairs ∙ l.invariant.2,
      rows_next l.invariant.3 x.row_read c.line_end-end.ensures c.if-end-sheet.false,
      next_start l.i l.invariant.4,
      rows_row l.invariant.5 (rw l.invariant.4 at x.pairs_after),
    )

pub read_row-requires-2 : goal.read_row-requires-2
read_row-requires-2 c = let l = c.loop-i in
    let a = c.args in
    let s = a.sheet.now in
    let e : l.i ≡ a.names.count - 1 = omega arith in
    (omega arith, omega (arith, row_lt a.names.count l.i l.i (omega arith) (omega arith)), inr refl, subst (λ (k : ℕ). At s k 0 l.at) e l.invariant.3.here, λ j h. subst (λ (k : ℕ). At s j k (get_or l.cur j 0)) e (l.invariant.3.wait j (omega arith)))

pub returns : goal.returns
returns c =
    let l = c.loop-i in
    let s = c.args.sheet.now in
    let n = c.args.names.count in
    let r = c.in_ok-next-2 in
    let e : l.i ≡ n - 1 = omega arith in
    let z : n - 1 + 1 ≡ n = omega arith in
    sheet_accepted c.requires.0 (rows_end c.requires.0.line.number z (λ a h. l.invariant.3.mirror a (omega arith)) r.ensures.row_read c.if-next-sheet.false
    (subst (Rows (value s) c.args.pairs.now l.pairs) e l.invariant.5)
    (r.ensures.pairs_after ∙ ap (λ (k : ℕ). sets l.pairs k (map (value s (n - 1)) (below (suc (n - 1))))) (l.invariant.4 ∙ ap row_start e))
    c.requires.1)
