use mathlib.Core.Path.{sym}
use native.Mathlib.Omega.{arith}
use Rattle.text.proofs.Numerals.{digits_inside, numeral_none, numeral_test}
use Rattle.text.proofs.is_numeral.Goals as goal

pub returns-then-end-from : goal.returns-then-end-from
returns-then-end-from c = let a = c.before.args in
    sym (numeral_none a.line.now a.from a.end c.before.requires.1 c.if-end-from.true)

pub bounds-line-from : goal.bounds-line-from
bounds-line-from c = let a = c.before.before.args in
    let p = c.before.before.requires in
    omega (arith, digits_inside a.line.now a.from a.end p.1 p.0)

pub returns : goal.returns
returns c = let a = c.before.before.args in
    sym (numeral_test a.line.now a.from a.end c.before.before.requires.1 c.before.if-end-from.false)
