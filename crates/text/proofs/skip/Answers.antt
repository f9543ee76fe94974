use mathlib.Core.Path.{◌≡◌, sym, ap, ◌∙◌}
use mathlib.Core.Bool.{not}
use mathlib.Core.List.{◌++◌}
use Prim.Native.Nat.{◌+◌}
use native.Mathlib.Omega.{arith}
use borrow.Author.Rules.{rules}
use lib.Dec.{eqb}
use lib.ListN.{length, drop}
use Rattle.text.proofs.Pieces.{part_on, part_inside, part_passed}
use Rattle.text.proofs.skip.Goals.{Else-not-all_bytes}
use Rattle.text.proofs.skip.Goals as goal

-- the bytes of a turn, and what is left
split : (c : Else-not-all_bytes) → drop c.loop-bytes.at c.args.s.now ≡ c.in-Some.bytes.now ++ c.next.new.self.rest.now
split c = sym c.loop-bytes.invariant.rest ∙ c.in-Some.ensures.steps.1.0

sixteen : (c : Else-not-all_bytes) → length c.in-Some.bytes.now ≡ 16
sixteen c = c.in-Some.ensures.steps.1.1 ∙ c.loop-bytes.invariant.size

pub loop-bytes-preserved : goal.loop-bytes-preserved
loop-bytes-preserved c =
    let l = c.loop-bytes in
    let s = c.args.s.now in
    let bytes = c.in-Some.bytes.now in
    let left = c.next.new.self.rest.now in
    let e = sixteen c in
    let free = sym (c.all_bytes.ensures (λ b. not (eqb b c.args.c)) (λ b h r k. search rules)) ∙ c.if-not-all_bytes.false in
    record {
      inside = omega (arith, e, part_inside s bytes left l.at (split c) l.invariant.inside);
      size = c.in-Some.ensures.steps.0 ∙ l.invariant.size;
      rest = sym (ap (λ k. drop (l.at + k) s) (sym e) ∙ part_on s bytes left l.at (split c));
      piece = omega (arith, l.invariant.piece, rw e at (part_passed s bytes left l.at (split c) c.args.c free));
    }
