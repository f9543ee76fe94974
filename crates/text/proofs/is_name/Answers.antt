use mathlib.Core.Path.{ap, ◌≡◌, refl, sym, ◌∙◌}
use mathlib.Core.Bool.{true, false, and-true, and-false}
use Prim.Native.Nat.{◌<◌}
use native.Mathlib.Omega.{arith}
use borrow.Author.Tests.{lt-leb, le-leb}
use lib.ListN.{length, get_or, drop}
use Rattle.lists.specs.Lists.{all}
use Rattle.text.specs.Reading.{is_name_byte}
use Rattle.interface.specs.Sheet.{is_upper, is_name}
use Rattle.text.proofs.Pieces.{rest}
use Rattle.text.proofs.Words.{name_is, empty}
use Rattle.text.proofs.is_name.Goals as goal

pub returns-then-size-eq0 : goal.returns-then-size-eq0
unfolding is_name
returns-then-size-eq0 c = sym (empty is_name c.before.before.args.word.now c.if-size-eq0.true refl)

pub returns-then-size-gt8 : goal.returns-then-size-gt8
returns-then-size-gt8 c = let s = c.before.before.before.args.word.now in
    let h : 0 < length s = omega arith in
    sym (name_is s h ∙ simp (lt-leb _ _ c.if-size-gt8.true, and-false))

pub returns-then-not-is_upper : goal.returns-then-not-is_upper
returns-then-not-is_upper c = let s = c.before.before.before.before.before.before.args.word.now in
    let h : 0 < length s = omega arith in
    let e : is_upper (get_or s 0 0) ≡ false = sym c.before.is_upper.ensures ∙ c.if-not-is_upper.true in
    sym (name_is s h ∙ simp e)

pub returns : goal.returns
returns c = let s = c.before.before.before.before.before.before.before.before.args.word.now in
    let h : 0 < length s = omega arith in
    let e : is_upper (get_or s 0 0) ≡ true = sym c.before.before.before.is_upper.ensures ∙ c.before.before.if-not-is_upper.false in
    let q : c.all_bytes.result ≡ all is_name_byte (drop 1 s) = c.all_bytes.ensures is_name_byte (λ b h r k. k) ∙ ap (all is_name_byte) (rest s 1) in
    q ∙ sym (name_is s h ∙ simp (e, le-leb _ _ c.before.before.before.before.before.if-size-gt8.false, and-true))
