use mathlib.Core.Path.{◌≡◌}
use mathlib.Core.Bool.{false}
use native.Mathlib.Omega.{arith}
use borrow.Author.Tests.{eq-eqb, ne_eqb}
use lib.Dec.{eqb}
use mir.Facts.{to_z-of_z}
use Rattle.text.specs.Reading.{signed_read}
use Rattle.text.proofs.Halves.{neg_fits, plus, minus}
use Rattle.text.proofs.signed.Goals as goal

pub returns-then-not-negative : goal.returns-then-not-negative
unfolding signed_read
returns-then-not-negative c = rw (plus _ c.before.requires, c.if-not-negative.true)

pub returns-then-halves-eq0 : goal.returns-then-halves-eq0
unfolding signed_read
returns-then-halves-eq0 c = let zero : c.before.before.args.halves ≡ 0 = omega (arith, c.before.before.requires) in
    rw (c.before.if-not-negative.false, eq-eqb _ 0 zero)

pub returns : goal.returns
unfolding signed_read
returns c = let p = c.before.before.requires in
    let some : eqb c.before.before.args.halves 0 ≡ false = ne_eqb _ 0 c.if-halves-eq0.false in
    rw (minus _ p, to_z-of_z (neg_fits _ p), c.before.if-not-negative.false, some)
