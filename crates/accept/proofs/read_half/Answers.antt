use mathlib.Core.Path.{sym, subst}
use Prim.Native.Nat.{◌+◌, ◌*◌}
use native.Mathlib.Omega.{arith}
use lib.IntN.{ℤ}
use Rattle.text.proofs.Halves.{plus}
use Rattle.accept.specs.Places.{BothAt}
use Rattle.accept.proofs.Parts.{run_small}
use Rattle.accept.proofs.Found.{both_half}
use Rattle.accept.proofs.read_half.Goals.{Else-sheet-p}
use Rattle.accept.proofs.read_half.Goals as goal

pub overflow_mul-halves : goal.overflow_mul-halves
overflow_mul-halves c = omega (arith, run_small c.requires.2 (omega (arith, c.requires.2.few)))

pub overflow_add-halves : goal.overflow_add-halves
overflow_add-halves c = omega (arith, run_small c.requires.2 (omega (arith, c.requires.2.few)))

pub overflow_cast-halves : goal.overflow_cast-halves
overflow_cast-halves c = record { sfits = omega (arith, run_small c.requires.2 (omega (arith, c.requires.2.few))) }

pub returns : goal.returns
returns c =
    let a = c.args in
    let r = c.requires in
    subst (λ (z : ℤ). BothAt a.sheet.now a.p a.q a.near a.far z (a.digits.size + 2)) (sym (plus (a.digits.number * 2 + 1) (omega (arith, run_small r.2 (omega (arith, r.2.few))))))
    (both_half r.2 r.0 r.1 c.if-sheet-p.false (omega arith) (c.is_half.ensures c.if-not-is_half.false) (c.is_half-2.ensures c.if-not-is_half-2.false))
