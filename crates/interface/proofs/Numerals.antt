-- Digits read back: a number written in a base is the number that its digits stand for; and digits of the written form are those of the
-- number that they stand for.
use mathlib.Core.Path.{◌≡◌, refl, sym, ap, ap₂, ◌∙◌, subst}
use mathlib.Core.Bool.{Bool, true, false, not, cond, ◌&&◌, ◌||◌}
use mathlib.Core.List.{List, [], ◌∷◌, ◌++◌, append_assoc, append-nil}
use mathlib.Core.Logic.{◌⊎◌, inl, inr, ◌≢◌}
use Prim.Native.Nat.{ℕ, zero, suc, ◌+◌, ◌-◌, ◌*◌, ◌/◌, ◌%◌, ◌^◌, ◌<◌, ◌≤◌}
use native.Mathlib.Nat.{mod-lt, mod-eq_of_lt, div-eq_of_lt, mul-add-div_right, mul-add-mod_self_right, div-add-mod', div-lt_iff_lt-mul, pow-zero, pow-suc, zero-mul, zero-add}
use native.Mathlib.Omega.{arith}
use borrow.Author.Tests.{le-leb, lt-leb, lt-ltb, le-ltb}
use lib.Dec.{T, eqb, leb, leb→le, eqb→eq, not_T, lit<}
use lib.ListN.{length, get_or}
use Rattle.lists.specs.Lists.{all}
use Rattle.lists.proofs.Tests.{and_T, T_and, T_true, true_T, T_false, T_or_not, or_first, eqb_yes, eqb_no}
use Rattle.interface.specs.Sheet.{is_digit, digit_value, number_from}
use Rattle.interface.specs.Listing.{digit, digits, hexadecimal, decimal, is_hex_digit, is_set, is_decimal}
use Rattle.interface.proofs.Pieces.{all_append}
use Rattle.interface.proofs.Digits.{ten, length_digits, decimal_one, decimal_more}

-- one digit
pub low_digit : (d : ℕ) → d < 10 → digit d ≡ 48 + d
unfolding digit
low_digit d h = rw (lt-ltb d 10 h)

pub high_digit : (d : ℕ) → 10 ≤ d → digit d ≡ 87 + d
unfolding digit
high_digit d h = rw (le-ltb d 10 h)

is_digit_lem : (d : ℕ) → d < 10 → is_digit (48 + d) ≡ true
unfolding is_digit
is_digit_lem d h = rw (le-leb 48 (48 + d) (omega arith), le-leb (48 + d) 57 (omega arith))

no_digit : (d : ℕ) → 10 ≤ d → is_digit (87 + d) ≡ false
unfolding is_digit
no_digit d h = rw (le-leb 48 (87 + d) (omega arith), lt-leb (87 + d) 57 (omega arith))

pub decimal_digit : (d : ℕ) → d < 10 → T (is_digit (digit d))
decimal_digit d h = true_T (ap is_digit (low_digit d h) ∙ is_digit_lem d h)

pub hex_digit : (d : ℕ) → d < 16 → T (is_hex_digit (digit d))
unfolding is_hex_digit
hex_digit d h = go (ten d)
  where
    go : (d < 10) ⊎ (10 ≤ d) → T (is_digit (digit d) || leb 97 (digit d) && leb (digit d) 102)
    go (inl l) = true_T {b = is_digit (digit d) || leb 97 (digit d) && leb (digit d) 102} (rw (low_digit d l, is_digit_lem d l))
    go (inr l) =
        true_T {b = is_digit (digit d) || leb 97 (digit d) && leb (digit d) 102}
        (rw (high_digit d l, no_digit d l, le-leb 97 (87 + d) (omega arith), le-leb (87 + d) 102 (omega arith)))

pub digit_value_lem : (d : ℕ) → d < 16 → digit_value (digit d) ≡ d
unfolding digit_value
digit_value_lem d h = go (ten d)
  where
    go : (d < 10) ⊎ (10 ≤ d) → cond (is_digit (digit d)) (digit d - 48) (digit d - 87) ≡ d
    go (inl l) = rw (low_digit d l, is_digit_lem d l) (omega arith)
    go (inr l) = rw (high_digit d l, no_digit d l) (omega arith)

-- no digit, one digit, one digit more behind
number_none : (base : ℕ) → number_from base 0 [] ≡ 0
unfolding number_from
number_none base = refl

number_one : (base b : ℕ) → number_from base 0 (b ∷ []) ≡ digit_value b
unfolding number_from
number_one base b = rw (zero-mul base, zero-add (digit_value b))

pub number_last : (base k : ℕ) (w : List ℕ) (b : ℕ) → number_from base k (w ++ (b ∷ [])) ≡ number_from base k w * base + digit_value b
unfolding number_from
number_last base k [] b = refl
number_last base k (c ∷ w) b = number_last base (k * base + digit_value c) w b

number_next : (base : ℕ) (w : List ℕ) (n : ℕ) → 0 < base → base ≤ 16
    → number_from base 0 w ≡ n / base → number_from base 0 (w ++ (digit (n % base) ∷ [])) ≡ n
number_next base w n some few e =
    number_last base 0 w (digit (n % base)) ∙ rw (e, digit_value_lem (n % base) (omega (arith, mod-lt n some))) (div-add-mod' n base)

-- so many digits of a number that has no more: they read back the number
pub read_digits : (base w n : ℕ) → 0 < base → base ≤ 16 → n < base ^ w → number_from base 0 (digits base w n) ≡ n
unfolding digits
read_digits base zero n some few h = number_none base ∙ omega (arith, pow-zero base)
read_digits base (suc w) n some few h =
    let less : n / base < base ^ w = (div-lt_iff_lt-mul some).1 (subst (λ (k : ℕ). n < k) (pow-suc base w) h) in
    number_next base (digits base w (n / base)) n some few (read_digits base w (n / base) some few less)

all_last : (p : ℕ → Bool) (w : List ℕ) (b : ℕ) → T (all p w) → T (p b) → T (all p (w ++ (b ∷ [])))
unfolding all
all_last p w b s t = all_append p w (b ∷ []) s (T_and (p b) true t tt)

hex_digits : (w n : ℕ) → T (all is_hex_digit (digits 16 w n))
unfolding digits all
hex_digits zero n = tt
hex_digits (suc w) n =
    all_last is_hex_digit (digits 16 w (n / 16)) (digit (n % 16)) (hex_digits w (n / 16)) (hex_digit (n % 16) (omega arith))

-- a set of 8 digits: its form, and the set read back
pub set_form : (A : ℕ) → T (is_set (hexadecimal A))
unfolding is_set hexadecimal
set_form A =
    let w = hexadecimal A in
    T_and (eqb (length w) 8) (all is_hex_digit w) (eqb_yes (length w) 8 (length_digits 16 8 _)) (hex_digits 8 _)

pub read_hexadecimal : (A : ℕ) → A < 16 ^ 8 → number_from 16 0 (hexadecimal A) ≡ A
unfolding hexadecimal
read_hexadecimal A h = read_digits 16 8 A (lit< tt) (omega arith) h

-- digits, of which the first is not 0
pub record Leads (w : List ℕ) : Type 0 where
  pub run : T (all is_digit w)
  pub first : T (not (eqb (get_or w 0 48) 48))

leads_last : (w : List ℕ) (b : ℕ) → Leads w → T (is_digit b) → Leads (w ++ (b ∷ []))
leads_last [] b l t = absurd l.first
leads_last (c ∷ w) b l t = record { run = all_last is_digit (c ∷ w) b l.run t; first = l.first }

leads_one : (d : ℕ) → 0 < d → d < 10 → Leads (digit d ∷ [])
unfolding all
leads_one d some h = record {
  run = T_and (is_digit (digit d)) true (decimal_digit d h) tt;
  first = not_T (eqb (digit d) 48) (λ t. omega (arith, eqb→eq (digit d) 48 t, low_digit d h));
}

leads_decimal : (k n : ℕ) → n < k → 0 < n → Leads (decimal n)
leads_decimal zero n h some = absurd (omega arith)
leads_decimal (suc k) n h some = go (ten n) (leads_decimal k (n / 10))
  where
    go : (n < 10) ⊎ (10 ≤ n) → (n / 10 < k → 0 < n / 10 → Leads (decimal (n / 10))) → Leads (decimal n)
    go (inl l) ih = subst (λ (w : List ℕ). Leads w) (sym (decimal_one n l)) (leads_one n some l)
    go (inr l) ih = subst (λ (w : List ℕ). Leads w) (sym (decimal_more n l))
        (leads_last (decimal (n / 10)) (digit (n % 10)) (ih (omega arith) (omega arith)) (decimal_digit (n % 10) (omega arith)))

pub decimal_leads : (n : ℕ) → 0 < n → Leads (decimal n)
decimal_leads n some = leads_decimal (suc n) n (omega arith) some

pub decimal_low : (n : ℕ) → n < 10 → decimal n ≡ (48 + n) ∷ []
decimal_low n h = decimal_one n h ∙ ap (λ (b : ℕ). b ∷ []) (low_digit n h)

zero_text : decimal 0 ≡ 48 ∷ []
zero_text = decimal_low 0 (lit< tt)

leads_form : (w : List ℕ) → Leads w → T (is_decimal w)
unfolding is_decimal
leads_form [] l = absurd l.first
leads_form (b ∷ w) l =
    let lead = not (eqb b 48) || eqb (length w) 0 in
    T_and (all is_digit (b ∷ w)) lead l.run (true_T {b = lead} (or_first {a = not (eqb b 48)} (eqb (length w) 0) (T_true l.first)))

-- a decimal numeral: digits, its form, and the number read back
pub decimal_run : (n : ℕ) → T (all is_digit (decimal n))
unfolding is_digit all
decimal_run zero = subst (λ (w : List ℕ). T (all is_digit w)) (sym zero_text) tt
decimal_run (suc n) = (decimal_leads (suc n) (omega arith)).run

pub decimal_form : (n : ℕ) → T (is_decimal (decimal n))
unfolding is_decimal is_digit all
decimal_form zero = subst (λ (w : List ℕ). T (is_decimal w)) (sym zero_text) tt
decimal_form (suc n) = leads_form (decimal (suc n)) (decimal_leads (suc n) (omega arith))

read_below : (k n : ℕ) → n < k → number_from 10 0 (decimal n) ≡ n
read_below zero n h = absurd (omega arith)
read_below (suc k) n h = go (ten n) (read_below k (n / 10))
  where
    go : (n < 10) ⊎ (10 ≤ n) → (n / 10 < k → number_from 10 0 (decimal (n / 10)) ≡ n / 10) → number_from 10 0 (decimal n) ≡ n
    go (inl l) ih = ap (number_from 10 0) (decimal_one n l) ∙ number_one 10 (digit n) ∙ digit_value_lem n (omega arith)
    go (inr l) ih = ap (number_from 10 0) (decimal_more n l) ∙ number_next 10 (decimal (n / 10)) n (lit< tt) (omega arith) (ih (omega arith))

pub read_decimal : (n : ℕ) → number_from 10 0 (decimal n) ≡ n
read_decimal n = read_below (suc n) n (omega arith)

-- the digit of a digit's value
value_low : (b : ℕ) → T (is_digit b) → digit_value b ≡ b - 48
unfolding digit_value
value_low b t = rw (T_true {b = is_digit b} t)

value_high : (b : ℕ) → T (not (is_digit b)) → digit_value b ≡ b - 87
unfolding digit_value
value_high b t = rw (T_false {b = is_digit b} t)

digit_back : (b : ℕ) → T (is_digit b) → (digit_value b < 10) × (digit (digit_value b) ≡ b)
unfolding is_digit
digit_back b t =
    let (low, high) = and_T (leb 48 b) (leb b 57) t in
    let e = value_low b t in
    let h : digit_value b < 10 = omega (arith, leb→le 48 b low, leb→le b 57 high) in
    (h, low_digit (digit_value b) h ∙ omega (arith, leb→le 48 b low))

hex_back : (b : ℕ) → T (is_hex_digit b) → (digit_value b < 16) × (digit (digit_value b) ≡ b)
unfolding is_hex_digit
hex_back b t = go (T_or_not (is_digit b))
  where
    go : T (is_digit b) ⊎ T (not (is_digit b)) → (digit_value b < 16) × (digit (digit_value b) ≡ b)
    go (inl d) = let (h, e) = digit_back b d in (omega arith, e)
    go (inr d) =
        let (low, high) = and_T (leb 97 b) (leb b 102) (subst (λ (x : Bool). T (x || leb 97 b && leb b 102)) (T_false {b = is_digit b} d) t) in
        let e = value_high b d in
        let h : 10 ≤ digit_value b = omega (arith, leb→le 97 b low) in
        (omega (arith, leb→le b 102 high), high_digit (digit_value b) h ∙ omega (arith, leb→le 97 b low))

-- a digit more in front of what follows: the quotient and the remainder
front : (base k v : ℕ) → v < base → ((k * base + v) / base ≡ k) × ((k * base + v) % base ≡ v)
front base k v h =
    let more : 0 < base = omega arith in
    (mul-add-div_right more k v ∙ omega (arith, div-eq_of_lt h), mul-add-mod_self_right k base v ∙ mod-eq_of_lt h)

-- digits that were read on are the last ones of the number
digits_back : (w : List ℕ) (j k : ℕ) → T (all is_hex_digit w) → digits 16 (j + length w) (number_from 16 k w) ≡ digits 16 j k ++ w
unfolding digits number_from all
digits_back [] j k t = let e : j + 0 ≡ j = omega arith in rw e (sym (append-nil (digits 16 j k)))
digits_back (b ∷ w) j k t =
    let (tb, tw) = and_T (is_hex_digit b) (all is_hex_digit w) t in
    let (h, e) = hex_back b tb in
    let (q, r) = front 16 k (digit_value b) h in
    let s : j + suc (length w) ≡ suc j + length w = omega arith in
    rw s (digits_back w (suc j) (k * 16 + digit_value b) tw ∙ rw (q, r, e) (append_assoc (digits 16 j k) (b ∷ []) w))

pub set_back : (w : List ℕ) → T (is_set w) → hexadecimal (number_from 16 0 w) ≡ w
unfolding is_set hexadecimal digits
set_back w t =
    let (eight, run) = and_T (eqb (length w) 8) (all is_hex_digit w) t in
    let e : 0 + length w ≡ 8 = omega (arith, eqb→eq (length w) 8 eight) in
    ap (λ (k : ℕ). digits 16 k (number_from 16 0 w)) (sym e) ∙ digits_back w 0 0 run

-- a numeral that was read on from a number of some digits
decimal_on : (w : List ℕ) (k : ℕ) → 0 < k → T (all is_digit w) → decimal (number_from 10 k w) ≡ decimal k ++ w
unfolding number_from all
decimal_on [] k more t = sym (append-nil (decimal k))
decimal_on (b ∷ w) k more t =
    let (tb, tw) = and_T (is_digit b) (all is_digit w) t in
    let (h, e) = digit_back b tb in
    let (q, r) = front 10 k (digit_value b) h in
    let next = k * 10 + digit_value b in
    decimal_on w next (omega arith) tw
    ∙ ap (λ (l : List ℕ). l ++ w) (decimal_more next (omega arith) ∙ ap₂ (λ (i d : ℕ). decimal i ++ (d ∷ [])) q (ap digit r ∙ e))
    ∙ append_assoc (decimal k) (b ∷ []) w

decimal_parts : (b : ℕ) (w : List ℕ) → T (is_decimal (b ∷ w)) → T (is_digit b) × T (all is_digit w) × T (not (eqb b 48) || eqb (length w) 0)
unfolding is_decimal all
decimal_parts b w t =
    let (run, lead) = and_T (is_digit b && all is_digit w) (not (eqb b 48) || eqb (length w) 0) t in
    let (tb, tw) = and_T (is_digit b) (all is_digit w) run in
    (tb, tw, lead)

leading : (b n : ℕ) → T (is_digit b) → T (not (eqb b 48) || eqb (suc n) 0) → 0 < digit_value b
unfolding is_digit
leading b n t lead = go (T_or_not (eqb b 48))
  where
    go : T (eqb b 48) ⊎ T (not (eqb b 48)) → 0 < digit_value b
    go (inl e) = absurd (omega (arith, eqb→eq (suc n) 0 (subst (λ (x : Bool). T (not x || eqb (suc n) 0)) (T_true {b = eqb b 48} e) lead)))
    go (inr e) = let d : b ≢ 48 = eqb_no b 48 e in omega (arith, value_low b t, leb→le 48 b (and_T (leb 48 b) (leb b 57) t).0)

pub decimal_back : (w : List ℕ) → T (is_decimal w) → decimal (number_from 10 0 w) ≡ w
unfolding is_decimal number_from
decimal_back [] t = absurd t
decimal_back (b ∷ []) t =
    let (tb, _, _) = decimal_parts b [] t in
    let (h, e) = digit_back b tb in
    let z : 0 * 10 + digit_value b ≡ digit_value b = omega arith in
    ap decimal z ∙ decimal_one (digit_value b) h ∙ ap (λ (d : ℕ). d ∷ []) e
decimal_back (b ∷ c ∷ w) t =
    let (tb, tw, lead) = decimal_parts b (c ∷ w) t in
    let (h, e) = digit_back b tb in
    let z : 0 * 10 + digit_value b ≡ digit_value b = omega arith in
    let more : 0 < digit_value b = leading b (length w) tb lead in
    ap (λ (k : ℕ). decimal (number_from 10 k (c ∷ w))) z
    ∙ decimal_on (c ∷ w) (digit_value b) more tw
    ∙ ap (λ (l : List ℕ). l ++ (c ∷ w)) (decimal_one (digit_value b) h ∙ ap (λ (d : ℕ). d ∷ []) e)
