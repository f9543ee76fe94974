use mathlib.Core.Path.{◌≡◌, refl}
use Prim.Native.Nat.{suc}
use native.Mathlib.Omega.{arith}
use mir.Val.{to_z, of_z}
use mir.Syntax.{w32}
use borrow.Author.Rules.{rules}
use Rattle.clusters.proofs.Rows.{row_none, row_value, row_all}
use Rattle.reader.specs.Square.{square}
use Rattle.reader.proofs.fill_row.Goals as goal

pub loop-j-init : goal.loop-j-init
loop-j-init c = (omega arith, row_none)

pub loop-j-preserved : goal.loop-j-preserved
unfolding square
loop-j-preserved c = let a = c.args in
    let l = c.loop-j in
    let v = square a.values.now a.i l.j in
    let held : to_z w32 (of_z w32 v) ≡ v = search rules in
    (omega arith, row_value l.invariant.1 refl held)

pub returns : goal.returns
returns c = let a = c.args in
    let l = c.loop-j in
    let z : l.j ≡ suc a.i = omega arith in
    row_all a.start a.i l.invariant.1 refl z
