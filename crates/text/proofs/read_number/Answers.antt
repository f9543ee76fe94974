use mathlib.Core.Path.{◌≡◌, refl, sym, ◌∙◌}
use mathlib.Core.Bool.{Bool, false}
use mathlib.Core.List.{List}
use Prim.Native.Nat.{ℕ, ◌+◌, ◌≤◌, ◌<◌}
use native.Mathlib.Omega.{arith}
use lib.Dec.{eqb}
use lib.ListN.{length, get_or}
use mir.Val.{bool_byte}
use Rattle.interface.specs.Sheet.{is_numeral}
use Rattle.text.specs.Reading.{read_on}
use Rattle.text.specs.declared.Digits.{Digits}
use Rattle.text.proofs.Numerals.{digits_read, digits_inside, digits_small}
use Rattle.text.proofs.Halves.{no_number, one_byte, run, Found, read_none, read_past, read_whole, read_half}
use Rattle.text.proofs.read_number.Goals as goal

-- whether a minus stands at a place, and where the digits start
abbrev negative : List ℕ → ℕ → Bool
negative line at = eqb (get_or line at 0) 45

abbrev from : List ℕ → ℕ → ℕ
from line at = at + bool_byte (negative line at)

inside : (line : List ℕ) (at : ℕ) → at < length line → from line at ≤ length line
inside line at h = omega (arith, one_byte (negative line at))

-- the number and the end of the digits that are read
found : (line : List ℕ) (at : ℕ) (r : Digits) → at < length line → r ≡ read_on 0 (from line at) (run line at (negative line at))
    → Found line at (negative line at) r.number r.end
found line at r h e =
    let (n, k) = digits_read r 0 (from line at) (run line at (negative line at)) e in
    record { inside = h; sign = refl; number = n; place = k }

small : (line : List ℕ) (at : ℕ) (r : Digits) → at < length line → r ≡ read_on 0 (from line at) (run line at (negative line at)) → r.number < 10000000
small line at r h e = rw (found line at r h e).number (digits_small _)

pub returns-then-at-line : goal.returns-then-at-line
returns-then-at-line c = no_number c.args.line.now c.args.at c.if-at-line.true

pub returns-then-from-line : goal.returns-then-from-line
returns-then-from-line c =
    let line = c.args.line.now in
    let at = c.args.at in
    read_past line at (negative line at) c.if-at-line.false refl c.if-from-line.true

pub is_numeral-requires : goal.is_numeral-requires
is_numeral-requires c =
    let line = c.args.line.now in
    let at = c.args.at in
    (inside line at c.if-at-line.false, (found line at c.read_digits-digits.result c.if-at-line.false c.read_digits-digits.ensures).place)

pub returns-then-not-is_numeral : goal.returns-then-not-is_numeral
returns-then-not-is_numeral c =
    let line = c.args.line.now in
    let at = c.args.at in
    let e : is_numeral (run line at (negative line at)) ≡ false = sym c.is_numeral.ensures ∙ c.if-not-is_numeral.true in
    read_none (found line at c.read_digits-digits.result c.if-at-line.false c.read_digits-digits.ensures) (rw e)

pub overflow_mul-number : goal.overflow_mul-number
overflow_mul-number c = omega (arith, small c.args.line.now c.args.at c.read_digits-digits.result c.if-at-line.false c.read_digits-digits.ensures)

pub signed-requires : goal.signed-requires
signed-requires c = omega (arith, small c.args.line.now c.args.at c.read_digits-digits.result c.if-at-line.false c.read_digits-digits.ensures)

pub is_half-requires : goal.is_half-requires
is_half-requires c =
    let line = c.args.line.now in
    let at = c.args.at in
    let f = found line at c.read_digits-digits.result c.if-at-line.false c.read_digits-digits.ensures in
    digits_inside line (from line at) c.read_digits-digits.result.end f.place (inside line at c.if-at-line.false)

pub returns-then-is_end : goal.returns-then-is_end
returns-then-is_end c =
    let f = found c.args.line.now c.args.at c.read_digits-digits.result c.if-at-line.false c.read_digits-digits.ensures in
    let numeral = sym c.is_numeral.ensures ∙ c.if-not-is_numeral.false in
    c.signed.ensures ∙ sym (read_whole f numeral (sym c.is_end.ensures ∙ c.if-is_end.true))

pub overflow_mul-number-then-is_half : goal.overflow_mul-number-then-is_half
overflow_mul-number-then-is_half c = omega (arith, small c.args.line.now c.args.at c.read_digits-digits.result c.if-at-line.false c.read_digits-digits.ensures)

pub overflow_add-number : goal.overflow_add-number
overflow_add-number c = omega (arith, small c.args.line.now c.args.at c.read_digits-digits.result c.if-at-line.false c.read_digits-digits.ensures)

pub overflow_add-end : goal.overflow_add-end
overflow_add-end c =
    let line = c.args.line.now in
    let at = c.args.at in
    let f = found line at c.read_digits-digits.result c.if-at-line.false c.read_digits-digits.ensures in
    omega (arith, digits_inside line (from line at) c.read_digits-digits.result.end f.place (inside line at c.if-at-line.false))

pub signed-requires-then-is_half : goal.signed-requires-then-is_half
signed-requires-then-is_half c = omega (arith, small c.args.line.now c.args.at c.read_digits-digits.result c.if-at-line.false c.read_digits-digits.ensures)

pub returns-then-is_half : goal.returns-then-is_half
returns-then-is_half c =
    let f = found c.args.line.now c.args.at c.read_digits-digits.result c.if-at-line.false c.read_digits-digits.ensures in
    let numeral = sym c.is_numeral.ensures ∙ c.if-not-is_numeral.false in
    c.signed-then-is_half.ensures ∙ sym (read_half f numeral (sym c.is_half.ensures ∙ c.if-is_half.true))

pub returns : goal.returns
returns c =
    let f = found c.args.line.now c.args.at c.read_digits-digits.result c.if-at-line.false c.read_digits-digits.ensures in
    let numeral = sym c.is_numeral.ensures ∙ c.if-not-is_numeral.false in
    let whole = sym c.is_end.ensures ∙ c.if-is_end.false in
    let half = sym c.is_half.ensures ∙ c.if-is_half.false in
    read_none f (rw (numeral, whole, half))
