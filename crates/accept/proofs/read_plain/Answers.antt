use mathlib.Core.Path.{sym, subst}
use mathlib.Core.Bool.{false, not, ◌&&◌, ◌||◌}
use mathlib.Core.List.{List}
use mathlib.Core.Path.{◌≡◌}
use Prim.Native.Nat.{ℕ, ◌+◌, ◌-◌, ◌*◌, ◌≤◌, ◌<◌}
use native.Mathlib.Omega.{arith}
use borrow.Author.Tests.{eqb-true, not-false, ltb-false}
use lib.Dec.{eqb, ltb}
use lib.IntN.{ℤ}
use lib.ListN.{length, get_or}
use Rattle.lists.proofs.Tests.{or_none}
use Rattle.text.proofs.Halves.{plus}
use Rattle.accept.specs.Places.{Run, BothAt}
use Rattle.accept.proofs.Parts.{run_small}
use Rattle.accept.proofs.Found.{some_digits, both_run}
use Rattle.accept.proofs.read_plain.Goals as goal

-- there is room at both places
room : (n p q : ℕ) → (ltb (n - p) 10 || ltb (n - q) 10) ≡ false → (p + 10 ≤ n) × (q + 10 ≤ n)
room n p q e =
    let (x, y) = or_none (ltb (n - p) 10) (ltb (n - q) 10) e in
    (omega (arith, ltb-false (n - p) 10 x), omega (arith, ltb-false (n - q) 10 y))

pub read_digits-digits-requires : goal.read_digits-digits-requires
read_digits-digits-requires g c =
    let r = room (length c.args.sheet.now) c.args.p c.args.q c.if-sheet-p.false in
    (omega (arith, r.0), omega (arith, r.1), c.requires.2)

pub overflow_add-end : goal.overflow_add-end
overflow_add-end g c =
    let r = room (length c.args.sheet.now) c.args.p c.args.q c.if-sheet-p.false in
    omega (arith, r.0, c.read_digits-digits.ensures.few)

pub overflow_add-other : goal.overflow_add-other
overflow_add-other g c =
    let r = room (length c.args.sheet.now) c.args.p c.args.q c.if-sheet-p.false in
    omega (arith, r.1, c.read_digits-digits.ensures.few)

pub bounds-sheet-end : goal.bounds-sheet-end
bounds-sheet-end g c =
    let r = room (length c.args.sheet.now) c.args.p c.args.q c.if-sheet-p.false in
    omega (arith, r.0, c.read_digits-digits.ensures.few)

pub bounds-sheet-other : goal.bounds-sheet-other
bounds-sheet-other g c =
    let r = room (length c.args.sheet.now) c.args.p c.args.q c.if-sheet-p.false in
    omega (arith, r.1, c.read_digits-digits.ensures.few)

pub bounds-sheet-p : goal.bounds-sheet-p
bounds-sheet-p g c =
    let r = room (length c.args.sheet.now) c.args.p c.args.q c.if-sheet-p.false in
    omega (arith, r.0)

pub read_half-requires : goal.read_half-requires
read_half-requires g c =
    let r = room (length c.args.sheet.now) c.args.p c.args.q c.if-sheet-p.false in
    (r.0, r.1, c.read_digits-digits.ensures)

small : (s : List ℕ) (p q v k : ℕ) → p + 10 ≤ length s → Run s p q v k → v < 10000000
small s p q v k h r = run_small r (omega (arith, r.few))

pub overflow_mul-halves : goal.overflow_mul-halves
overflow_mul-halves g c =
    let r = room (length c.args.sheet.now) c.args.p c.args.q c.if-sheet-p.false in
    omega (arith, small _ _ _ _ _ r.0 c.read_digits-digits.ensures)

pub overflow_cast-halves : goal.overflow_cast-halves
overflow_cast-halves g c =
    let r = room (length c.args.sheet.now) c.args.p c.args.q c.if-sheet-p.false in
    record { sfits = omega (arith, small _ _ _ _ _ r.0 c.read_digits-digits.ensures) }

pub returns : goal.returns
returns g c =
    let a = c.args in
    let s = a.sheet.now in
    let v = c.read_digits-digits.result.number in
    let k = c.read_digits-digits.result.size in
    let zero = eqb (get_or s a.p 0) 48 && not (eqb k 1) in
    let none = eqb k 0 in
    let near = not (eqb (get_or s (a.p + k) 0) a.near) in
    let far = not (eqb (get_or s (a.q + k) 0) a.far) in
    let (front, z) = or_none (none || near || far) zero c.if-size-sheet.false in
    let (first, y) = or_none (none || near) far front in
    let (o, x) = or_none none near first in
    let r = room (length s) a.p a.q c.if-sheet-p.false in
    subst (λ (z : ℤ). BothAt s a.p a.q a.near a.far z k) (sym (plus (v * 2) (omega (arith, small _ _ _ _ _ r.0 c.read_digits-digits.ensures))))
    (both_run c.read_digits-digits.ensures r.0 r.1 z (some_digits k o) (eqb-true _ a.near (not-false _ x)) (eqb-true _ a.far (not-false _ y)))
