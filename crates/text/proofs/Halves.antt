-- Half points at a place of a line: the digits there, what stands behind them, and the sign before them.
use mathlib.Core.Path.{◌≡◌, refl, sym, ap, ap₂, ◌∙◌, subst}
use mathlib.Core.Bool.{Bool, true, false, true≢false, cond, not, ◌&&◌, ◌||◌}
use mathlib.Core.List.{List, [], ◌∷◌, ◌++◌, append-nil}
use Rattle.std.specs.Cmp.Lexicographic.{pointwise}
use Prim.Native.Nat.{ℕ, zero, suc, ◌+◌, ◌*◌, ◌≤◌, ◌<◌}
use native.Mathlib.Omega.{arith}
use borrow.Author.Tests.{eqb-true, eqb-false, eq-eqb, ne_eqb}
use lib.Dec.{T, eqb, leb, eqb→eq, lit<}
use lib.IntN.{ℤ, pos, neg_ℤ, ◌-ℤ◌, +ℤ_idl}
use lib.ListN.{length, get_or, take, drop, length-append}
use lib.Seq.{drop-drop}
use mir.Val.{SFits, to_z, bool_byte}
use mir.Syntax.{w32}
use mir.Facts.{to_z_pos}
use Rattle.lists.specs.Lists.{all}
use Rattle.lists.proofs.Tests.{T_true, true_T, T_same}
use Rattle.clusters.specs.PairList.{one_point}
use Rattle.interface.specs.Sheet.{
  cut,
  point,
  is_digit,
  is_numeral,
  whole_part,
  fraction,
  half_text,
  has_half,
  is_whole_or_half,
  is_points,
  is_value,
  digit_value,
  number_from,
  half_points,
  value_of,
  same_bytes,
}
use Rattle.interface.specs.Calls.{piece_at}
use Rattle.interface.proofs.Pieces.{free, same_bytes_lem}
use Rattle.interface.proofs.Points.{whole_front, fraction_front, parts, ending, digits_free, ended_whole, ended_well, ended_points}
use Rattle.interface.proofs.Values.{plain_test, plain_value, only_zero}
use Rattle.text.specs.Reading.{digits, is_end, signed_read, number_at}
use Rattle.std.specs.declared.option.Option.{Option}
use Rattle.std.specs.declared.option.Option.TheVariants.{Some, None}
use Rattle.answers.specs.declared.Cursor.{Cursor}
use Rattle.text.proofs.Pieces.{piece_none, piece_stop, piece_step}
use Rattle.text.proofs.Words.{and_both}
use Rattle.text.proofs.Numerals.{no_byte, first_end, first_byte, ends_empty, behind, digits_start, no_run}

-- the piece at a place is empty; it is a text w, which stands there with nothing more behind it
ended : (t : List ℕ) → is_end t ≡ same_bytes (piece_at 32 t 0) []
unfolding piece_at same_bytes
ended t = ends_empty t ∙ go (piece_at 32 t 0)
  where
    go : (w : List ℕ) → eqb (length w) 0 ≡ same_bytes w []
    go [] = refl
    go (b ∷ w) = ne_eqb (suc (length w)) 0 (λ z. absurd (omega arith))

text_ahead : (w t : List ℕ) → all (λ c. not (eqb c 32)) w ≡ true
    → (pointwise eqb w (take (length w) t) && is_end (drop (length w) t)) ≡ same_bytes (piece_at 32 t 0) w
unfolding all piece_at cut same_bytes
text_ahead [] t h = ended t
text_ahead (c ∷ w) [] h = refl
text_ahead (c ∷ w) (b ∷ t) h =
    let (k, j) = and_both (not (eqb c 32)) (all (λ x. not (eqb x 32)) w) h in
    go (λ e z. absurd (true≢false (sym k ∙ ap not (eq-eqb c 32 (z ∙ e))))) (text_ahead w t j) (eqb b 32) (eqb b c) refl refl
  where
    Ahead : List ℕ → Type 0
    Ahead v = ((eqb c b && pointwise eqb w (take (length w) t)) && is_end (drop (length w) t)) ≡ same_bytes v (c ∷ w)

    go : (b ≡ 32 → c ≡ b → ⊥) → (pointwise eqb w (take (length w) t) && is_end (drop (length w) t)) ≡ same_bytes (piece_at 32 t 0) w
        → (x y : Bool) → eqb b 32 ≡ x → eqb b c ≡ y → Ahead (piece_at 32 (b ∷ t) 0)
    go f more true y e q = rw (piece_stop 32 (b ∷ t) 0 (omega arith) (eqb-true b 32 e), ne_eqb c b (f (eqb-true b 32 e)))
    go f more false true e q = rw (piece_step 32 (b ∷ t) 0 (omega arith) (eqb-false b 32 e), q, eq-eqb c b (sym (eqb-true b c q))) more
    go f more false false e q = rw (piece_step 32 (b ∷ t) 0 (omega arith) (eqb-false b 32 e), q, ne_eqb c b (λ z. eqb-false b c q (sym z)))

pub half_ahead : (s : List ℕ) (at : ℕ) → (pointwise eqb half_text (take 2 (drop at s)) && is_end (drop (at + 2) s)) ≡ same_bytes (piece_at 32 s at) half_text
unfolding half_text piece_at all
half_ahead s at = rw (sym (drop-drop 2 at s)) (text_ahead half_text (drop at s) refl)

-- the digits that t starts with, and what stands behind them
module _ (t : List ℕ) where
  run_free : free point (digits 7 t)
  run_free =
      let ds = digits 7 t in
      digits_free ds (true_T (and_both (all is_digit ds) (leb (length ds) 7) (digits_start 7 t).run).0)

  -- a value without its sign is a numeral, and nothing or `.5` behind it
  no_points : (is_numeral (digits 7 t) && (eqb (length (behind (length (digits 7 t)) t)) 0 || same_bytes (behind (length (digits 7 t)) t) half_text)) ≡ false
      → is_points (piece_at 32 t 0) ≡ false
  unfolding is_points is_whole_or_half has_half
  no_points e =
      rw ((digits_start 7 t).split, whole_front rest ds run_free, fraction_front rest ds run_free)
      (go (whole_part rest) (parts rest) (λ h. no_run (ds ++ whole_part rest) ((digits_start 7 t).more h)))
    where
      ds : List ℕ
      ds = digits 7 t

      rest : List ℕ
      rest = behind (length ds) t

      go : (x : List ℕ) → x ++ fraction rest ≡ rest → (0 < length x → is_numeral (ds ++ x) ≡ false)
          → (is_numeral (ds ++ x) && (eqb (length (fraction rest)) 0 || same_bytes (fraction rest) half_text)) ≡ false
      go [] p f = rw (append-nil ds, p) e
      go (b ∷ x) p f = rw (f (omega arith))

  module _ (h : Bool) (e : behind (length (digits 7 t)) t ≡ ending h) where
    whole_piece : piece_at 32 t 0 ≡ digits 7 t ++ ending h
    whole_piece = (digits_start 7 t).split ∙ ap (λ (l : List ℕ). digits 7 t ++ l) e

    some_points : is_numeral (digits 7 t) ≡ true → is_points (piece_at 32 t 0) ≡ true
    unfolding is_points
    some_points n =
        rw (whole_piece, ended_whole (digits 7 t) run_free h, n)
        (T_true (ended_well (digits 7 t) run_free h))

    points_are : half_points (piece_at 32 t 0) ≡ number_from 10 0 (digits 7 t) * one_point + cond h 1 0
    points_are = ap half_points whole_piece ∙ ended_points (digits 7 t) run_free h

    points_length : length (piece_at 32 t 0) ≡ length (digits 7 t) + length (ending h)
    points_length = ap length whole_piece ∙ length-append (digits 7 t) (ending h)

-- of values without a sign only `0` is nothing
zero_is : (w : List ℕ) → is_points w ≡ true → same_bytes w (48 ∷ []) ≡ eqb (half_points w) 0
unfolding half_points whole_part has_half fraction half_text same_bytes number_from digit_value is_digit one_point
zero_is w e = T_same (same_bytes w (48 ∷ [])) (eqb (half_points w) 0)
    (λ t. subst (λ (v : List ℕ). T (eqb (half_points v) 0)) (sym (same_bytes_lem w (48 ∷ []) t)) tt)
    (λ t. subst (λ (v : List ℕ). T (same_bytes v (48 ∷ []))) (sym (only_zero w (true_T e) (eqb→eq (half_points w) 0 t))) tt)

-- what is read behind a sign, if it is a value
abbrev read_if : (negative good : Bool) (halves place : ℕ) → Option (ℤ × Cursor)
read_if negative good halves place = cond good (signed_read negative halves place) None

minus_read : (w : List ℕ) (next : ℕ)
    → cond (is_points w && not (same_bytes w (48 ∷ []))) (Some (neg_ℤ (pos (half_points w)), record { at = next })) None
    ≡ read_if true (is_points w) (half_points w) next
unfolding signed_read
minus_read w next = go (is_points w) refl
  where
    one : (z : Bool) (r : Option (ℤ × Cursor)) → cond (not z) r None ≡ cond z None r
    one true r = refl
    one false r = refl

    go : (x : Bool) → is_points w ≡ x
        → cond (x && not (same_bytes w (48 ∷ []))) (Some (neg_ℤ (pos (half_points w)), record { at = next })) None
        ≡ read_if true x (half_points w) next
    go true e = rw (zero_is w e) (one (eqb (half_points w) 0) _)
    go false e = refl

-- what is read at a place, by the byte there and the piece behind the sign
module _ (s : List ℕ) (at : ℕ) (h : at < length s) where
  number_is : (x : Bool) (w : List ℕ) → eqb (get_or s at 0) 45 ≡ x → piece_at 32 s (at + bool_byte x) ≡ w
      → number_at s at ≡ read_if x (is_points w) (half_points w) (at + bool_byte x + length w)
  unfolding number_at is_value value_of signed_read
  number_is true w e p =
      let b = eqb-true (get_or s at 0) 45 e in
      let q : piece_at 32 s at ≡ 45 ∷ w = piece_step 32 s at h (λ z. absurd (omega (arith, b, z))) ∙ rw (b, p) in
      let z : at + suc (length w) ≡ at + 1 + length w = omega arith in
      rw (q, z) (minus_read w (at + 1 + length w))
  number_is false w e p =
      let z : at + 0 ≡ at = omega arith in
      let q : piece_at 32 s at ≡ w = ap (piece_at 32 s) (sym z) ∙ p in
      let f : eqb (get_or w 0 0) 45 ≡ false = rw q at (first_byte s at h (λ b. eqb b 45) refl e) in
      rw (q, plain_test w f, plain_value w f, z)

pub no_number : (s : List ℕ) (at : ℕ) → length s ≤ at → None ≡ number_at s at
unfolding number_at is_value
no_number s at h = rw (piece_none 32 s at h)

-- the digits behind the sign at a place: the number that they stand for, and where they end
abbrev pub run : List ℕ → (at : ℕ) (negative : Bool) → List ℕ
run s at x = digits 7 (drop (at + bool_byte x) s)

pub record Found (s : List ℕ) (at : ℕ) (x : Bool) (n end : ℕ) : Type 0 where
  pub inside : at < length s
  pub sign : eqb (get_or s at 0) 45 ≡ x
  pub number : n ≡ number_from 10 0 (run s at x)
  pub place : end ≡ at + bool_byte x + length (run s at x)

-- what is read, by what stands behind them
module _ {s : List ℕ} {at : ℕ} {x : Bool} {n end : ℕ} (f : Found s at x n end) where
  behind_is : behind (length (run s at x)) (drop (at + bool_byte x) s) ≡ piece_at 32 s end
  unfolding piece_at
  behind_is = ap (λ (l : List ℕ). piece_at 32 l 0) (drop-drop _ (at + bool_byte x) s ∙ ap (λ (k : ℕ). drop k s) (sym f.place))

  pub read_none : (is_numeral (run s at x) && (is_end (drop end s) || same_bytes (piece_at 32 s end) half_text)) ≡ false → None ≡ number_at s at
  unfolding piece_at
  read_none e =
      let none : is_points (piece_at 32 s (at + bool_byte x)) ≡ false = no_points (drop (at + bool_byte x) s) (rw (behind_is, ← ends_empty (drop end s)) e) in
      sym (number_is s at f.inside x _ f.sign refl ∙ rw none)

  read_ended : (b : Bool) → piece_at 32 s end ≡ ending b → is_numeral (run s at x) ≡ true
      → number_at s at ≡ signed_read x (n * one_point + cond b 1 0) (end + length (ending b))
  unfolding piece_at
  read_ended b e d =
      let t = drop (at + bool_byte x) s in
      let q = behind_is ∙ e in
      let z : at + bool_byte x + (length (digits 7 t) + length (ending b)) ≡ end + length (ending b) = omega (arith, f.place) in
      number_is s at f.inside x _ f.sign refl ∙ rw (some_points t b q d, points_are t b q, points_length t b q, ← f.number, z)

  pub read_whole : is_numeral (run s at x) ≡ true → is_end (drop end s) ≡ true → number_at s at ≡ signed_read x (n * 2) end
  unfolding piece_at one_point
  read_whole d e =
      let z : n * 2 + 0 ≡ n * 2 = omega arith in
      let k : end + 0 ≡ end = omega arith in
      read_ended false (first_end (drop end s) e) d ∙ ap₂ (signed_read x) z k

  pub read_half : is_numeral (run s at x) ≡ true → same_bytes (piece_at 32 s end) half_text ≡ true → number_at s at ≡ signed_read x (n * 2 + 1) (end + 2)
  unfolding half_text one_point
  read_half d e = read_ended true (same_bytes_lem (piece_at 32 s end) half_text (true_T e)) d

-- the line ends behind the sign
pub read_past : (s : List ℕ) (at : ℕ) (x : Bool) → at < length s → eqb (get_or s at 0) 45 ≡ x → length s ≤ at + bool_byte x → None ≡ number_at s at
unfolding number_from is_numeral
read_past s at x h e past =
    let none : run s at x ≡ [] = no_byte 7 s (at + bool_byte x) past in
    let f : Found s at x 0 (at + bool_byte x) = record {
      inside = h;
      sign = e;
      number = sym (ap (number_from 10 0) none);
      place = omega (arith, ap length none);
    } in
    read_none f (rw none)

-- a minus takes one byte; signed numbers of half points
pub one_byte : (x : Bool) → bool_byte x ≤ 1
one_byte true = omega arith
one_byte false = omega arith

pub plus_fits : (n : ℕ) → n < 20000000 → SFits w32 (pos n)
plus_fits n p = record { sfits = omega arith }

pub neg_fits : (n : ℕ) → n < 20000000 → SFits w32 (neg_ℤ (pos n))
neg_fits zero p = record { sfits = lit< tt }
neg_fits (suc n) p = record { sfits = omega arith }

pub plus : (n : ℕ) → n < 20000000 → to_z w32 n ≡ pos n
plus n p = to_z_pos w32 (omega arith)

pub minus : (n : ℕ) → n < 20000000 → pos 0 -ℤ to_z w32 n ≡ neg_ℤ (pos n)
minus n p = rw (plus n p) (+ℤ_idl (neg_ℤ (pos n)))
