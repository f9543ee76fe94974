-- Numerals, read digit by digit.
use mathlib.Core.Path.{◌≡◌, refl, sym, ap, ◌∙◌}
use mathlib.Core.Bool.{Bool, true, false, cond, not, ◌&&◌, ◌||◌, and-false}
use mathlib.Core.List.{List, [], ◌∷◌, ◌++◌}
use Prim.Native.Nat.{ℕ, zero, suc, ◌+◌, ◌-◌, ◌*◌, ◌^◌, ◌≤◌, ◌<◌}
use native.Mathlib.Numerals.{add-one}
use native.Mathlib.Nat.{pow-suc}
use native.Mathlib.Omega.{arith}
use borrow.Author.Tests.{leb-true, le-leb, lt-leb, eqb-true, eqb-false, ne_eqb}
use lib.Dec.{leb, eqb, lit<, leb-suc-suc, eqb-suc-suc}
use lib.ListN.{length, get_or, drop, drop_of_length-le, length-drop}
use lib.Seq.{get_or-drop}
use Rattle.lists.specs.Lists.{all}
use Rattle.interface.specs.Sheet.{point, is_digit, is_numeral, whole_part, digit_value, number_from}
use Rattle.interface.specs.Calls.{piece_at}
use Rattle.interface.proofs.Digits.{ten_bound}
use Rattle.text.specs.Reading.{digits, read_on, is_end}
use Rattle.text.specs.declared.Digits.{Digits}
use Rattle.text.proofs.Pieces.{here, piece_none, piece_stop, piece_step}
use Rattle.text.proofs.Words.{and_both, empty}

-- a digit
pub digit_low : (b : ℕ) → is_digit b ≡ true → 48 ≤ b
unfolding is_digit
digit_low b e = leb-true 48 b (and_both (leb 48 b) (leb b 57) e).0

pub digit_high : (b : ℕ) → is_digit b ≡ true → b ≤ 57
unfolding is_digit
digit_high b e = leb-true b 57 (and_both (leb 48 b) (leb b 57) e).1

pub digit_value_lem : (b : ℕ) → is_digit b ≡ true → digit_value b ≡ b - 48
unfolding digit_value
digit_value_lem b e = rw e

-- a number grows by a digit
pub ten_step : (k v d : ℕ) → v < 10 ^ k → d ≤ 9 → v * 10 + d < 10 ^ (k + 1)
ten_step k v d p q = rw (add-one, pow-suc) (omega arith)

-- digits read on from a place: nothing is left to read, the line ends, another byte stands there, a digit does
pub read_nothing : (v i k : ℕ) (s : List ℕ) → digits k (drop i s) ≡ []
    → record { number = v; end = i } ≡ read_on v i (digits k (drop i s))
unfolding read_on number_from
read_nothing v i k s e = let z : i + 0 ≡ i = omega arith in rw (e, z)

pub no_more : (s : List ℕ) → digits 0 s ≡ []
unfolding digits
no_more s = refl

module _ (k : ℕ) (s : List ℕ) (i : ℕ) where
  pub no_byte : length s ≤ i → digits k (drop i s) ≡ []
  unfolding digits
  no_byte h = rw (drop_of_length-le s h) (go k)
    where
      go : (k : ℕ) → digits k [] ≡ []
      go zero = refl
      go (suc k) = refl

  pub no_digit : i < length s → is_digit (get_or s i 0) ≡ false → digits k (drop i s) ≡ []
  unfolding digits
  no_digit h e = rw (here s i h) (go k)
    where
      go : (k : ℕ) → digits k (get_or s i 0 ∷ drop (i + 1) s) ≡ []
      go zero = refl
      go (suc k) = rw e

pub read_digit : (v k i : ℕ) (s : List ℕ) → 0 < k → i < length s → is_digit (get_or s i 0) ≡ true
    → read_on v i (digits k (drop i s)) ≡ read_on (v * 10 + (get_or s i 0 - 48)) (i + 1) (digits (k - 1) (drop (i + 1) s))
unfolding digits read_on number_from
read_digit v zero i s p h e = absurd (omega arith)
read_digit v (suc k) i s p h e =
    let q : suc k - 1 ≡ k = omega arith in
    let r : i + suc (length (digits k (drop (i + 1) s))) ≡ i + 1 + length (digits k (drop (i + 1) s)) = omega arith in
    rw (← digit_value_lem (get_or s i 0) e, here s i h, e, q, r)

pub digits_read : (r : Digits) (v at : ℕ) (ds : List ℕ) → r ≡ read_on v at ds → (r.number ≡ number_from 10 v ds) × (r.end ≡ at + length ds)
unfolding read_on
digits_read r v at ds e = (ap (λ (d : Digits). d.number) e, ap (λ (d : Digits). d.end) e)

-- the first piece of a list that does not start with its end, and of one that does
first_step : (b : ℕ) (t : List ℕ) → eqb b 32 ≡ false → piece_at 32 (b ∷ t) 0 ≡ b ∷ piece_at 32 t 0
unfolding piece_at
first_step b t e = piece_step 32 (b ∷ t) 0 (omega arith) (eqb-false b 32 e)

pub first_end : (t : List ℕ) → is_end t ≡ true → piece_at 32 t 0 ≡ []
unfolding is_end
first_end [] e = piece_none 32 [] 0 (omega arith)
first_end (b ∷ t) e = piece_stop 32 (b ∷ t) 0 (omega arith) (eqb-true b 32 e)

-- a test that fails at a byte, and at 0, fails at the first byte of the piece there, 0 if there is none
pub first_byte : (s : List ℕ) (at : ℕ) → at < length s → (p : ℕ → Bool) → p 0 ≡ false → p (get_or s at 0) ≡ false → p (get_or (piece_at 32 s at) 0 0) ≡ false
first_byte s at h p z e = go (eqb (get_or s at 0) 32) refl
  where
    go : (x : Bool) → eqb (get_or s at 0) 32 ≡ x → p (get_or (piece_at 32 s at) 0 0) ≡ false
    go true t = rw (piece_stop 32 s at h (eqb-true _ 32 t)) z
    go false t = rw (piece_step 32 s at h (eqb-false _ 32 t)) e

-- a piece that ends where it starts is empty
pub ends_empty : (t : List ℕ) → is_end t ≡ eqb (length (piece_at 32 t 0)) 0
unfolding is_end
ends_empty [] = rw (first_end [] refl)
ends_empty (b ∷ t) = go (eqb b 32) refl
  where
    go : (x : Bool) → eqb b 32 ≡ x → x ≡ eqb (length (piece_at 32 (b ∷ t) 0)) 0
    go true e = rw (first_end (b ∷ t) e)
    go false e = rw (first_step b t e) (sym (ne_eqb (suc (length (piece_at 32 t 0))) 0 (λ z. absurd (omega arith))))

-- at most k digits
abbrev is_run : ℕ → List ℕ → Bool
is_run k w = all is_digit w && leb (length w) k

-- what stands behind the first n bytes of the first piece of t
abbrev pub behind : ℕ → List ℕ → List ℕ
behind n t = piece_at 32 (drop n t) 0

-- ds are the digits that t starts with, at most k: with what stands behind them up to a point, if anything does, they are no such digits
pub record Start (k : ℕ) (t ds : List ℕ) : Type 0 where
  pub run : is_run k ds ≡ true
  inside : length ds ≤ length t
  first : 0 < length ds → get_or ds 0 0 ≡ get_or t 0 0
  pub split : piece_at 32 t 0 ≡ ds ++ behind (length ds) t
  pub more : 0 < length (whole_part (behind (length ds) t)) → is_run k (ds ++ whole_part (behind (length ds) t)) ≡ false

nothing : (k : ℕ) (t : List ℕ) → (0 < length (whole_part (piece_at 32 t 0)) → is_run k (whole_part (piece_at 32 t 0)) ≡ false) → Start k t []
unfolding all
nothing k t f =
    record { run = le-leb 0 k (omega arith); inside = omega arith; first = λ h. absurd (omega arith); split = refl; more = f }

-- no digit stands first
other : (w : List ℕ) → is_digit (get_or w 0 0) ≡ false → 0 < length (whole_part w) → all is_digit (whole_part w) ≡ false
unfolding whole_part all
other [] e h = absurd (omega arith)
other (b ∷ w) e h = go (eqb b point) h
  where
    go : (x : Bool) → 0 < length (cond x [] (b ∷ whole_part w)) → all is_digit (cond x [] (b ∷ whole_part w)) ≡ false
    go true h = absurd (omega arith)
    go false h = rw e

no_first : (k : ℕ) (t : List ℕ) → is_digit (get_or (piece_at 32 t 0) 0 0) ≡ false → Start k t []
no_first k t e = nothing k t (λ h. rw (other (piece_at 32 t 0) e h))

pub digits_start : (k : ℕ) (t : List ℕ) → Start k t (digits k t)
unfolding digits is_digit is_end all
digits_start zero t =
    let w = whole_part (piece_at 32 t 0) in
    nothing 0 t (λ h. rw (lt-leb (length w) 0 h) (and-false (all is_digit w)))
digits_start (suc k) [] = no_first (suc k) [] (rw (first_end [] refl))
digits_start (suc k) (b ∷ t) = go (is_digit b) refl (digits_start k t)
  where
    go : (x : Bool) → is_digit b ≡ x → Start k t (digits k t) → Start (suc k) (b ∷ t) (cond x (b ∷ digits k t) [])
    go true d r =
        let n : eqb b 32 ≡ false = ne_eqb b 32 (λ z. absurd (omega (arith, digit_low b d))) in
        record {
          run = rw (d, leb-suc-suc (length (digits k t)) k) r.run;
          inside = omega (arith, r.inside);
          first = λ h. refl;
          split = first_step b t n ∙ ap (λ (l : List ℕ). b ∷ l) r.split;
          more = λ h. rw (d, leb-suc-suc (length (digits k t ++ whole_part (behind (length (digits k t)) t))) k) (r.more h);
        }
    go false d r = no_first (suc k) (b ∷ t) (first_byte (b ∷ t) 0 (omega arith) is_digit refl d)

-- a numeral by its first byte and its length
numeral_is : (w : List ℕ) → 0 < length w
    → is_numeral w ≡ (is_run 7 w && (not (eqb (get_or w 0 0) 48) || eqb (length w) 1))
unfolding is_numeral
numeral_is [] h = absurd (omega arith)
numeral_is (b ∷ w) h = rw (leb-suc-suc (length w) 6, eqb-suc-suc (length w) 0)

pub no_run : (w : List ℕ) → is_run 7 w ≡ false → is_numeral w ≡ false
unfolding is_numeral
no_run [] e = refl
no_run (b ∷ w) e = numeral_is (b ∷ w) (omega arith) ∙ rw e

-- the digits from a place to their end
module _ (s : List ℕ) (from end : ℕ) (is : end ≡ from + length (digits 7 (drop from s))) where
  pub digits_inside : from ≤ length s → end ≤ length s
  digits_inside h = omega (arith, (digits_start 7 (drop from s)).inside, length-drop from s)

  pub numeral_none : end ≡ from → is_numeral (digits 7 (drop from s)) ≡ false
  unfolding is_numeral
  numeral_none z = empty is_numeral (digits 7 (drop from s)) (omega arith) refl

  pub numeral_test : (end ≡ from → ⊥) → is_numeral (digits 7 (drop from s)) ≡ (not (eqb (get_or s from 0) 48) || eqb (end - from) 1)
  numeral_test f =
      let ds = digits 7 (drop from s) in
      let r = digits_start 7 (drop from s) in
      let h : 0 < length ds = omega arith in
      let z : from + 0 ≡ from = omega arith in
      let n : length ds ≡ end - from = omega arith in
      let b : get_or ds 0 0 ≡ get_or s from 0 = r.first h ∙ get_or-drop from s 0 0 ∙ ap (λ (k : ℕ). get_or s k 0) z in
      numeral_is ds h ∙ rw (r.run, b, n)

-- the size of the number that digits stand for
pub number_small : (k v : ℕ) (w : List ℕ) → v < 10 ^ k → all is_digit w ≡ true → number_from 10 v w < 10 ^ (k + length w)
unfolding number_from all
number_small k v [] p e = let z : k + 0 ≡ k = omega arith in rw z p
number_small k v (b ∷ w) p e =
    let (d, r) = and_both (is_digit b) (all is_digit w) e in
    let q : digit_value b ≤ 9 = omega (arith, digit_value_lem b d, digit_high b d) in
    let z : k + suc (length w) ≡ k + 1 + length w = omega arith in
    rw z (number_small (k + 1) (v * 10 + digit_value b) w (ten_step k v (digit_value b) p q) r)

pub digits_small : (t : List ℕ) → number_from 10 0 (digits 7 t) < 10000000
digits_small t =
    let ds = digits 7 t in
    let (d, s) = and_both (all is_digit ds) (leb (length ds) 7) (digits_start 7 t).run in
    let n = leb-true (length ds) 7 s in
    omega (arith, number_small 0 0 ds (lit< tt) d, ten_bound (0 + length ds) 7 (omega arith))
