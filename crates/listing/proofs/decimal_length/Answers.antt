use mathlib.Core.Path.{◌≡◌, refl, ap}
use Prim.Native.Nat.{ℕ, zero, suc, ◌+◌, ◌*◌, ◌^◌, ◌≤◌, ◌<◌}
use native.Mathlib.Nat.{pow-suc}
use native.Mathlib.Numerals.{add-one}
use native.Mathlib.Omega.{arith}
use borrow.Author.Rules.{rules}
use lib.ListN.{length}
use Rattle.interface.specs.Listing.{decimal}
use Rattle.interface.proofs.Digits.{ten_bound, length_decimal, decimal_some, decimal_least}
use Rattle.listing.proofs.decimal_length.Goals as goal

-- a number below 10 to the power k that has k digits or more has k
exact : (k n : ℕ) → 0 < k → n < 10 ^ k → k ≤ length (decimal n) → k ≡ length (decimal n)
exact zero n some h l = absurd (omega arith)
exact (suc k) n some h l = omega (arith, length_decimal k n h)

-- with each turn one digit more
tenfold : (k : ℕ) {top : ℕ} → top ≡ 10 ^ k → top * 10 ≡ 10 ^ (k + 1)
tenfold k e = rw (add-one k, pow-suc 10 k, e)

pub loop-k-init : goal.loop-k-init
loop-k-init c = (refl, decimal_some c.args.n)

pub returns-then-n-top : goal.returns-then-n-top
returns-then-n-top c = let l = c.loop-k in exact l.k _ (omega arith) (omega (arith, l.invariant.0)) l.invariant.1

pub overflow_mul-top : goal.overflow_mul-top
overflow_mul-top c = let l = c.loop-k in
    record { fits = omega (arith, tenfold l.k l.invariant.0, ten_bound (l.k + 1) 19 (omega arith)) }

pub loop-k-preserved : goal.loop-k-preserved
loop-k-preserved c = let l = c.loop-k in
    (tenfold l.k l.invariant.0, omega (arith, decimal_least l.k c.args.n (omega (arith, l.invariant.0))))

pub returns-then-n-top-2 : goal.returns-then-n-top-2
returns-then-n-top-2 c = let l = c.loop-k in
    let e : l.k ≡ 19 = omega arith in
    exact 19 _ (omega arith) (omega (arith, l.invariant.0, ap (λ (k : ℕ). 10 ^ k) e)) (omega (arith, l.invariant.1))

pub returns-else-n-top-2 : goal.returns-else-n-top-2
returns-else-n-top-2 c = let l = c.loop-k in
    let n = c.args.n in
    let e : l.k ≡ 19 = omega arith in
    omega (arith, decimal_least 19 n (omega (arith, l.invariant.0, ap (λ (k : ℕ). 10 ^ k) e)), length_decimal 19 n (search rules))
