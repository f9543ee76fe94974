use mathlib.Core.Path.{◌≡◌, sym, ◌∙◌}
use mathlib.Core.Bool.{Bool, true, false, not, ◌&&◌}
use mathlib.Core.Logic.{◌⊎◌, inl, inr}
use mathlib.Core.List.{List}
use Prim.Native.Nat.{ℕ, ◌+◌}
use native.Mathlib.Omega.{arith}
use borrow.Author.Tests.{eqb-true, not-false}
use lib.Dec.{eqb}
use lib.ListN.{get_or}
use Rattle.text.proofs.Numerals.{digit_low, digit_high}
use Rattle.accept.proofs.Parts.{run_none, run_small, run_more}
use Rattle.accept.proofs.read_digits.Goals as goal

-- the same byte stands at both places, where they are two
same : (m : Bool) (s : List ℕ) (p q k : ℕ) → (m ≡ true) ⊎ (p ≡ q) → (m && not (eqb (get_or s (q + k) 0) (get_or s (p + k) 0))) ≡ false
    → get_or s (q + k) 0 ≡ get_or s (p + k) 0
same true s p q k h e = eqb-true _ _ (not-false _ e)
same false s p q k (inl m) e = let z : ◌≡◌ {A = ℕ} 0 1 = cc in absurd (omega arith)
same false s p q k (inr m) e = rw m

pub loop-size-init : goal.loop-size-init
loop-size-init g c = run_none _ _ _

pub returns-then-sheet-q : goal.returns-then-sheet-q
returns-then-sheet-q g c = run_none _ _ _

pub overflow_mul-number : goal.overflow_mul-number
overflow_mul-number g c = omega (arith, run_small c.loop-size.invariant (omega (arith, c.loop-size.invariant.few)))

pub overflow_sub-number : goal.overflow_sub-number
overflow_sub-number g c = digit_low _ (sym c.is_digit.ensures ∙ c.if-not-is_digit.false)

pub overflow_add-number : goal.overflow_add-number
overflow_add-number g c = omega (arith, digit_high _ (sym c.is_digit.ensures ∙ c.if-not-is_digit.false), run_small c.loop-size.invariant (omega (arith, c.loop-size.invariant.few)))

pub loop-size-preserved : goal.loop-size-preserved
loop-size-preserved g c =
    run_more c.loop-size.invariant (omega arith) c.requires.0 c.requires.1 (sym c.is_digit.ensures ∙ c.if-not-is_digit.false)
    (same _ _ _ _ _ c.requires.2 c.if-sheet-q.false)
