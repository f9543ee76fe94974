-- Numbers written as digits.
use mathlib.Core.Path.{◌≡◌, refl, sym, ap, ◌∙◌}
use mathlib.Core.Bool.{Bool, true, false}
use mathlib.Core.List.{List, [], ◌∷◌, ◌++◌}
use mathlib.Core.Logic.{◌⊎◌, inl, inr}
use Prim.Native.Nat.{ℕ, zero, suc, ◌+◌, ◌/◌, ◌%◌, ◌^◌, ◌<◌, ◌≤◌}
use native.Mathlib.Nat.{mod-eq_of_lt, pow-zero, pow-suc, pow-le-pow_right}
use native.Mathlib.Numerals.{add-one}
use native.Mathlib.Omega.{arith}
use lib.Dec.{T, ltb, lit<}
use lib.IntN.{ℤ, pos, negsuc, nat_abs}
use lib.ListN.{length, length-append}
use lib.Signed.{◌≤ℤ◌, non_neg}
use borrow.Author.Tests.{ltb-true, ltb-false, lt-ltb, le-ltb}
use Rattle.interface.specs.Listing.{digit, digits, decimal_from, decimal}

pub length_digits : (base k n : ℕ) → length (digits base k n) ≡ k
unfolding digits
length_digits base zero n = refl
length_digits base (suc k) n =
    length-append (digits base k (n / base)) (digit (n % base) ∷ []) ∙ omega (arith, length_digits base k (n / base))

-- decimal by its clauses
from_one : (k n : ℕ) → n < 10 → decimal_from (suc k) n ≡ digit n ∷ []
unfolding decimal_from
from_one k n h = rw (lt-ltb n 10 h)

from_more : (k n : ℕ) → 10 ≤ n → decimal_from (suc k) n ≡ decimal_from k (n / 10) ++ (digit (n % 10) ∷ [])
unfolding decimal_from
from_more k n h = rw (le-ltb n 10 h)

pub ten : (n : ℕ) → (n < 10) ⊎ (10 ≤ n)
ten n = go (ltb n 10) refl
  where
    go : (b : Bool) → ltb n 10 ≡ b → (n < 10) ⊎ (10 ≤ n)
    go true e = inl (ltb-true n 10 e)
    go false e = inr (ltb-false n 10 e)

-- how many digits are allowed for does not matter, if they are enough
from_any : (j k n : ℕ) → n < j → n < k → decimal_from j n ≡ decimal_from k n
from_any zero k n h l = absurd (omega arith)
from_any (suc j) zero n h l = absurd (omega arith)
from_any (suc j) (suc k) n h l = go (ten n) (from_any j k (n / 10))
  where
    go : (n < 10) ⊎ (10 ≤ n) → (n / 10 < j → n / 10 < k → decimal_from j (n / 10) ≡ decimal_from k (n / 10)) → decimal_from (suc j) n ≡ decimal_from (suc k) n
    go (inl s) ih = from_one j n s ∙ sym (from_one k n s)
    go (inr s) ih = from_more j n s ∙ ap (λ (l : List ℕ). l ++ (digit (n % 10) ∷ [])) (ih (omega arith) (omega arith)) ∙ sym (from_more k n s)

pub decimal_one : (n : ℕ) → n < 10 → decimal n ≡ digit n ∷ []
unfolding decimal
decimal_one n h = from_one n n h

pub decimal_more : (n : ℕ) → 10 ≤ n → decimal n ≡ decimal (n / 10) ++ (digit (n % 10) ∷ [])
unfolding decimal
decimal_more n h = from_more n n h ∙ ap (λ (l : List ℕ). l ++ (digit (n % 10) ∷ [])) (from_any n (suc (n / 10)) (n / 10) (omega arith) (omega arith))

pub length_one : (n : ℕ) → n < 10 → length (decimal n) ≡ 1
length_one n h = ap length (decimal_one n h)

pub length_more : (n : ℕ) → 10 ≤ n → length (decimal n) ≡ length (decimal (n / 10)) + 1
length_more n h = ap length (decimal_more n h) ∙ length-append (decimal (n / 10)) (digit (n % 10) ∷ [])

-- decimal as so many digits, and a bound on how many
from_digits : (k n : ℕ) → decimal_from k n ≡ digits 10 (length (decimal_from k n)) n
unfolding digits decimal_from
from_digits zero n = refl
from_digits (suc k) n = go (ten n) (from_digits k (n / 10))
  where
    more : (l : List ℕ) → l ≡ digits 10 (length l) (n / 10) → l ++ (digit (n % 10) ∷ []) ≡ digits 10 (length (l ++ (digit (n % 10) ∷ []))) n
    more l e =
        ap (λ (x : List ℕ). x ++ (digit (n % 10) ∷ [])) e ∙ ap (λ (j : ℕ). digits 10 j n) (sym (length-append l (digit (n % 10) ∷ []) ∙ add-one (length l)))

    go : (n < 10) ⊎ (10 ≤ n) → decimal_from k (n / 10) ≡ digits 10 (length (decimal_from k (n / 10))) (n / 10)
        → decimal_from (suc k) n ≡ digits 10 (length (decimal_from (suc k) n)) n
    go (inl s) ih = rw (from_one k n s) (ap (λ (d : ℕ). digit d ∷ []) (sym (mod-eq_of_lt s)))
    go (inr s) ih = rw (from_more k n s) (more (decimal_from k (n / 10)) ih)

pub decimal_digits : (n : ℕ) → decimal n ≡ digits 10 (length (decimal n)) n
unfolding decimal
decimal_digits n = from_digits (suc n) n

pub length_decimal : (k n : ℕ) → n < 10 ^ suc k → length (decimal n) ≤ suc k
length_decimal zero n h = omega (arith, pow-suc 10 0, length_one n (omega arith))
length_decimal (suc k) n h = go (ten n) (length_decimal k (n / 10) (omega (arith, pow-suc 10 (suc k))))
  where
    go : (n < 10) ⊎ (10 ≤ n) → length (decimal (n / 10)) ≤ suc k → length (decimal n) ≤ suc (suc k)
    go (inl s) ih = omega (arith, length_one n s)
    go (inr s) ih = omega (arith, length_more n s)

pub ten_bound : (k n : ℕ) → k ≤ n → 10 ^ k ≤ 10 ^ n
ten_bound k n p = pow-le-pow_right (lit< tt) p

-- and how many at least
pub decimal_some : (n : ℕ) → 0 < length (decimal n)
decimal_some n = go (ten n)
  where
    go : (n < 10) ⊎ (10 ≤ n) → 0 < length (decimal n)
    go (inl s) = omega (arith, length_one n s)
    go (inr s) = omega (arith, length_more n s)

pub decimal_least : (k n : ℕ) → 10 ^ k ≤ n → k < length (decimal n)
decimal_least zero n h = decimal_some n
decimal_least (suc k) n h =
    let one = ten_bound 0 k (omega arith) in
    omega (arith, length_more n (omega (arith, pow-suc 10 k, pow-zero 10)), decimal_least k (n / 10) (omega (arith, pow-suc 10 k)))

-- a number that is not negative is its absolute value
pub natural : (z : ℤ) → pos 0 ≤ℤ z → T (non_neg z) × (pos (nat_abs z) ≡ z)
natural (pos n) h = (tt, refl)
natural (negsuc n) h = absurd h.le
