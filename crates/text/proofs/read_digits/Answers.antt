use mathlib.Core.Path.{◌≡◌, refl, sym, ◌∙◌}
use mathlib.Core.Bool.{Bool, true, false}
use mathlib.Core.List.{List, []}
use Prim.Native.Nat.{ℕ, min, ◌+◌, ◌-◌, ◌^◌, ◌≤◌, ◌<◌}
use native.Mathlib.Omega.{arith}
use borrow.Author.Tests.{ltb-true, ltb-false}
use lib.Dec.{ltb}
use lib.ListN.{length, get_or, drop}
use Rattle.interface.specs.Sheet.{is_digit}
use Rattle.interface.proofs.Digits.{ten_bound}
use Rattle.text.specs.Reading.{digits}
use Rattle.text.proofs.Numerals.{digit_low, digit_high, ten_step, read_nothing, read_digit, no_more, no_byte, no_digit}
use Rattle.text.proofs.read_digits.Goals.{Else-not-is_digit}
use Rattle.text.proofs.read_digits.Goals as goal

-- the byte of a turn; a digit stands here, and the number has room for it
abbrev byte : Else-not-is_digit → ℕ
byte c = get_or c.args.line.now c.loop-end.end 0

digit : (c : Else-not-is_digit) → is_digit (byte c) ≡ true
digit c = sym c.is_digit.ensures ∙ c.if-not-is_digit.false

small : (size number : ℕ) → number < 10 ^ size → size < 7 → number < 10000000
small size number h p = omega (arith, ten_bound size 7 (omega arith))

pub returns-then-not-is_digit : goal.returns-then-not-is_digit
returns-then-not-is_digit c =
    let s = c.args.line.now in
    let l = c.loop-end in
    let k = 7 - (l.end - c.args.from) in
    let e : is_digit (get_or s l.end 0) ≡ false = sym c.is_digit.ensures ∙ c.if-not-is_digit.true in
    read_nothing l.number l.end k s (no_digit k s l.end (omega arith) e) ∙ l.invariant.2

pub overflow_mul-number : goal.overflow_mul-number
overflow_mul-number c = let l = c.loop-end in
    omega (arith, small (l.end - c.args.from) l.number l.invariant.1 (omega arith))

pub overflow_sub-number : goal.overflow_sub-number
overflow_sub-number c = digit_low _ (digit c)

pub overflow_add-number : goal.overflow_add-number
overflow_add-number c = let l = c.loop-end in
    omega (arith, digit_high _ (digit c), small (l.end - c.args.from) l.number l.invariant.1 (omega arith))

pub loop-end-preserved : goal.loop-end-preserved
loop-end-preserved c =
    let s = c.args.line.now in
    let l = c.loop-end in
    let size = l.end - c.args.from in
    let more : l.end + 1 - c.args.from ≡ size + 1 = omega arith in
    let k : 7 - size - 1 ≡ 7 - (size + 1) = omega arith in
    let read = read_digit l.number (7 - size) l.end s (omega arith) (omega arith) (digit c) in (
      omega arith,
      rw more (ten_step size l.number (byte c - 48) l.invariant.1 (omega (arith, digit_high _ (digit c)))),
      rw more (sym (rw k at read) ∙ l.invariant.2),
    )

-- the line ends, or 7 digits were read
stopped : (s : List ℕ) (from end : ℕ) → end ≡ min (length s) (from + 7) → digits (7 - (end - from)) (drop end s) ≡ []
stopped s from end e = go (ltb end (length s)) refl
  where
    go : (b : Bool) → ltb end (length s) ≡ b → digits (7 - (end - from)) (drop end s) ≡ []
    go false h = no_byte (7 - (end - from)) s end (ltb-false end (length s) h)
    go true h =
        let i : end < length s = ltb-true end (length s) h in
        let z : 7 - (end - from) ≡ 0 = omega arith in
        rw z (no_more (drop end s))

pub returns : goal.returns
returns c =
    let s = c.args.line.now in
    let l = c.loop-end in
    let e : c.min-stop.result ≡ l.end = omega arith in
    rw e (read_nothing l.number l.end (7 - (l.end - c.args.from)) s (stopped s c.args.from l.end (sym e ∙ c.min-stop.ensures)) ∙ l.invariant.2)
