-- What bytes say in points (`InPoints`) is what is written for a number of half points; what is well formed, and what the cells of a sheet
-- and the indices of a listing say.
use mathlib.Core.Path.{◌≡◌, refl, sym, ap, ap₂, ◌∙◌, subst, subst₂}
use mathlib.Core.Logic.{◌⊎◌, inl, inr, ◌↔◌}
use mathlib.Core.List.{List, [], ◌∷◌, ◌++◌}
use Prim.Native.Nat.{ℕ, zero, suc, ◌+◌, ◌*◌, ◌/◌, ◌%◌, ◌<◌, ◌≤◌}
use native.Mathlib.Omega.{arith}
use lib.Dec.{T, lit<}
use lib.IntN.{ℤ, pos, negsuc, neg_ℤ}
use Rattle.integers.specs.Range.{Within}
use Rattle.interface.specs.Sheet.{minus, half_text, is_value, value_of}
use Rattle.interface.specs.Listing.{digit, decimal, points_text, signed_points}
use Rattle.demands.specs.Sentences.{DecimalSays, one_digit, one_more, InPoints, whole, half, minus_whole, minus_half}
use Rattle.interface.proofs.Digits.{ten, decimal_more}
use Rattle.interface.proofs.Numerals.{low_digit, decimal_low}
use Rattle.interface.proofs.Values.{read_signed, value_form, even_text, value_back, odd_text}

-- the digits of a number say it
low_says : (n : ℕ) → n < 10 → DecimalSays (decimal n) n
low_says n h = subst (λ (w : List ℕ). DecimalSays w n) (sym (decimal_low n h)) (one_digit n h)

decimal_says : (fuel n : ℕ) → n ≤ fuel → DecimalSays (decimal n) n
decimal_says zero n h = low_says n (omega arith)
decimal_says (suc fuel) n h = go (ten n) (λ l. decimal_says fuel (n / 10) (omega arith))
  where
    go : (n < 10) ⊎ (10 ≤ n) → (10 ≤ n → DecimalSays (decimal (n / 10)) (n / 10)) → DecimalSays (decimal n) n
    go (inl l) ih = low_says n l
    go (inr l) ih =
        let low : n % 10 < 10 = omega arith in
        let e : 10 * (n / 10) + n % 10 ≡ n = omega arith in
        let text : decimal (n / 10) ++ ((48 + n % 10) ∷ []) ≡ decimal n =
        sym (decimal_more n l ∙ ap (λ (b : ℕ). decimal (n / 10) ++ (b ∷ [])) (low_digit (n % 10) low)) in
        subst₂ (λ (w : List ℕ) (m : ℕ). DecimalSays w m) text e (one_more (ih l) (omega arith) (n % 10) low)

pub decimal_said : (n : ℕ) → DecimalSays (decimal n) n
decimal_said n = decimal_says n n (omega arith)

-- and no others do
says_decimal : {w : List ℕ} {n : ℕ} → DecimalSays w n → w ≡ decimal n
says_decimal (one_digit d h) = sym (decimal_low d h)
says_decimal (one_more {w} {n} s p d h) =
    let m = 10 * n + d in
    let q : m / 10 ≡ n = omega arith in
    let r : m % 10 ≡ d = omega arith in
    ap₂ (λ (v : List ℕ) (b : ℕ). v ++ (b ∷ [])) (says_decimal s) (sym (low_digit d h))
    ∙ sym (decimal_more m (omega arith) ∙ ap₂ (λ (j k : ℕ). decimal j ++ (digit k ∷ [])) q r)

-- what says a number is what is written for it
negative : (m : ℕ) → 0 < m → signed_points (neg_ℤ (pos m)) ≡ minus ∷ points_text m
unfolding signed_points
negative zero h = absurd (omega arith)
negative (suc m) h = refl

pub says_written : {w : List ℕ} {z : ℤ} → InPoints w z → w ≡ signed_points z
unfolding signed_points half_text
says_written (whole {n = n} s) = says_decimal s ∙ sym (even_text n)
says_written (half {n = n} s) = ap (λ (v : List ℕ). v ++ half_text) (says_decimal s) ∙ sym (odd_text n)
says_written (minus_whole {n = n} s p) =
    ap (λ (v : List ℕ). minus ∷ v) (says_decimal s ∙ sym (even_text n)) ∙ sym (negative (n + n) (omega arith))
says_written (minus_half {n = n} s) =
    ap (λ (v : List ℕ). minus ∷ (v ++ half_text)) (says_decimal s) ∙ ap (λ (v : List ℕ). minus ∷ v) (sym (odd_text n)) ∙ sym (negative (n + n + 1) (omega arith))

-- twice a number, or one more: there is no other
data Halves : ℕ → Type 0 where
  even : (n : ℕ) → Halves (n + n)
  odd_one : (n : ℕ) → Halves (n + n + 1)

halves : (k : ℕ) → Halves k
halves zero = even 0
halves (suc k) = go (halves k)
  where
    go : {k : ℕ} → Halves k → Halves (suc k)
    go (even n) = let e : n + n + 1 ≡ suc (n + n) = omega arith in subst Halves e (odd_one n)
    go (odd_one n) = let e : suc n + suc n ≡ suc (n + n + 1) = omega arith in subst Halves e (even (suc n))

pub written_says : (z : ℤ) → InPoints (signed_points z) z
unfolding signed_points half_text
written_says (pos k) = go (halves k)
  where
    go : {k : ℕ} → Halves k → InPoints (points_text k) (pos k)
    go (even n) = subst (λ (w : List ℕ). InPoints w (pos (n + n))) (sym (even_text n)) (whole (decimal_said n))
    go (odd_one n) = subst (λ (w : List ℕ). InPoints w (pos (n + n + 1))) (sym (odd_text n)) (half (decimal_said n))
written_says (negsuc k) = go (suc k) (halves (suc k)) (omega arith)
  where
    go : (k : ℕ) → Halves k → 0 < k → InPoints (minus ∷ points_text k) (neg_ℤ (pos k))
    go _ (even n) h = subst (λ (w : List ℕ). InPoints (minus ∷ w) (neg_ℤ (pos (n + n)))) (sym (even_text n)) (minus_whole (decimal_said n) (omega arith))
    go _ (odd_one n) h = subst (λ (w : List ℕ). InPoints (minus ∷ w) (neg_ℤ (pos (n + n + 1)))) (sym (odd_text n)) (minus_half (decimal_said n))

pub one_text : {v w : List ℕ} {z : ℤ} → InPoints v z → InPoints w z → v ≡ w
one_text a b = says_written a ∙ sym (says_written b)

pub says_value : {w : List ℕ} {z : ℤ} → InPoints w z → value_of w ≡ z
says_value {w} {z} a = ap value_of (says_written a) ∙ read_signed z

pub well_formed : (w : List ℕ) → T (is_value w) ↔ ((z : ℤ) × InPoints w z × Within 19999999 z)
well_formed w = (
  λ t. let (back, in_range_lem) = value_back w t in (value_of w, subst (λ (v : List ℕ). InPoints v (value_of w)) back (written_says (value_of w)), in_range_lem),
  λ (z, says, h). subst (λ (v : List ℕ). T (is_value v)) (sym (says_written says)) (value_form z (lit< tt) h),
)
