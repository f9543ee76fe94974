use mathlib.Core.Path.{◌≡◌, sym, ◌∙◌}
use mathlib.Core.Bool.{true, false}
use Prim.Native.Nat.{suc, ◌+◌, ◌-◌}
use native.Mathlib.Omega.{arith}
use borrow.Author.Tests.{eq-eqb, ne_eqb}
use lib.Dec.{eqb}
use mir.Syntax.{w32}
use Rattle.integers.proofs.Held.{passed}
use Rattle.reader.specs.Square.{number_said}
use Rattle.text.proofs.Values.{value_got, value_not}
use Rattle.reader.proofs.Rows.{row_none, row_refused, row_last, row_more, store_last, store_more, row_eight, row_zero}
use Rattle.reader.proofs.read_row.Goals as goal

pub returns-in_default : goal.returns-in_default
returns-in_default c = let l = c.loop-k in
    let e = row_refused _ _ l.at (value_not c.read_value.ensures c.in_default.is) in
    record { value = row_eight _ _ (sym l.invariant.2 ∙ e); values_after = tt }

pub returns-then-k-n : goal.returns-then-k-n
returns-then-k-n c = let l = c.loop-k in
    let g = value_got _ _ c.read_value.ensures c.in-Ok.is in
    let left = c.args.n - l.k in
    let e : eqb 1 left ≡ false = ne_eqb 1 left (λ z. omega arith) in
    let ends = sym l.invariant.2 ∙ row_last _ l.at _ l.invariant.1 g.end left c.if-end-line.true g.good in
    record { value = row_eight _ _ (ends ∙ e); values_after = tt }

pub returns-then-end-line : goal.returns-then-end-line
unfolding number_said
returns-then-end-line c = let l = c.loop-k in
    let a = c.args in
    let g = value_got _ _ c.read_value.ensures c.in-Ok.is in
    let stored = passed w32 c.from-number.type_inv (c.from-number.ensures ∙ g.number) in
    let left = a.n - l.k in
    let e : eqb 1 left ≡ true = eq-eqb 1 left (omega arith) in
    let ends = sym l.invariant.2 ∙ row_last _ l.at _ l.invariant.1 g.end left c.if-end-line.true g.good in
    record {
      value = row_zero _ _ (ends ∙ e);
      values_after = store_last _ l.at _ l.invariant.1 g.end l.values (a.base + l.k) stored c.if-end-line.true ∙ l.invariant.3;
    }

pub loop-k-preserved : goal.loop-k-preserved
unfolding number_said
loop-k-preserved c = let l = c.loop-k in
    let a = c.args in
    let g = value_got _ _ c.read_value.ensures c.in-Ok.is in
    let stored = passed w32 c.from-number.type_inv (c.from-number.ensures ∙ g.number) in
    let e : a.n - l.k ≡ suc (a.n - (l.k + 1)) = omega arith in
    let i : a.base + (l.k + 1) ≡ a.base + l.k + 1 = omega arith in (
      omega arith,
      omega arith,
      sym (row_more _ l.at _ l.invariant.1 g.end _ _ e c.if-end-line.false g.good) ∙ l.invariant.2,
      rw i (store_more _ l.at _ l.invariant.1 g.end l.values (a.base + l.k) stored c.if-end-line.false ∙ l.invariant.3),
    )

pub returns : goal.returns
returns c = let l = c.loop-k in
    record { value = row_eight _ _ (sym l.invariant.2 ∙ row_none _ _ (omega arith)); values_after = tt }
