use mathlib.Core.Path.{◌≡◌, sym, ◌∙◌}
use Prim.Native.Nat.{◌<◌}
use native.Mathlib.Omega.{arith}
use lib.ListN.{length-set}
use Rattle.interface.proofs.Digits.{length_digits}
use Rattle.listing.proofs.Numbers.{digits_turn, no_digits}
use Rattle.listing.proofs.Puts.{stored}
use Rattle.listing.proofs.Text.put_digits.Goals as goal

pub loop-i-preserved : goal.loop-i-preserved
loop-i-preserved c = let a = c.args in
    let l = c.loop-i in
    let v = l.invariant in
    let more : 0 < l.i = omega arith in record {
      same_reference = v.same_reference;
      place = v.place;
      size = length-set l.self.out.now _ _ ∙ v.size;
      stored = rw (c.digit.ensures, v.place) (sym (digits_turn a.base l.i l.rest l.self.out.now a.self.now.at more) ∙ v.stored);
    }

pub returns : goal.returns
returns c = let a = c.args in
    let l = c.loop-i in
    let v = l.invariant in
    let none : l.i ≡ 0 = omega arith in
    stored _ v.same_reference (omega (arith, v.place, length_digits a.base a.count a.n)) (rw (none, no_digits) at v.stored)
