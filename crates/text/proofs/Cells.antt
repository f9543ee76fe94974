-- What stands where a value is asked: the mark, or a number.
use mathlib.Core.Path.{◌≡◌, refl, sym, ap, ◌∙◌}
use mathlib.Core.Bool.{Bool, true, false, cond, true≢false}
use mathlib.Core.List.{List, [], ◌∷◌}
use Prim.Native.Nat.{ℕ, suc, ◌+◌, ◌≤◌, ◌<◌}
use native.Mathlib.Omega.{arith}
use borrow.Author.Tests.{eqb-true, ne_eqb, ltb-true, ltb-false}
use lib.Dec.{eqb, ltb}
use lib.IntN.{ℤ}
use lib.ListN.{length, get_or, drop}
use Rattle.pairs.specs.declared.Carried.TheVariants.{Scored, Unscored}
use Rattle.answers.specs.declared.Cursor.{Cursor}
use Rattle.std.specs.Prelude.{Ok, Err}
use Rattle.answers.specs.declared.Refusal.TheVariants.{WrongValues}
use Rattle.answers.specs.Values.{ValueRead}
use Rattle.interface.specs.Sheet.{is_numeral, whole_part, is_points, is_value, is_lone_minus, is_cell, value_of, pair_said}
use Rattle.interface.specs.Calls.{piece_at}
use Rattle.interface.proofs.Values.{plain_lone}
use Rattle.text.specs.Reading.{is_end, number_at}
use Rattle.std.specs.declared.option.Option.{Option}
use Rattle.std.specs.declared.option.Option.TheVariants.{Some, None}
use Rattle.text.proofs.Pieces.{piece_none, piece_step}
use Rattle.text.proofs.Words.{and_both}
use Rattle.text.proofs.Numerals.{first_byte, ends_empty}
use Rattle.text.proofs.Values.{value_at}

-- a lone minus at a place, byte by byte
module _ (s : List ℕ) (at : ℕ) where
  pub lone_none : length s ≤ at → false ≡ is_lone_minus (piece_at 32 s at)
  unfolding is_lone_minus
  lone_none h = rw (piece_none 32 s at h)

  pub lone_other : at < length s → (get_or s at 0 ≡ 45 → ⊥) → false ≡ is_lone_minus (piece_at 32 s at)
  lone_other h f = sym (plain_lone (piece_at 32 s at) (first_byte s at h (λ b. eqb b 45) refl (ne_eqb (get_or s at 0) 45 f)))

  pub lone_is : at < length s → get_or s at 0 ≡ 45 → is_end (drop (at + 1) s) ≡ is_lone_minus (piece_at 32 s at)
  unfolding is_lone_minus piece_at
  lone_is h e =
      let q : piece_at 32 s at ≡ 45 ∷ piece_at 32 s (at + 1) = piece_step 32 s at h (λ z. absurd (omega (arith, e, z))) ∙ rw e in
      ends_empty (drop (at + 1) s) ∙ sym (ap is_lone_minus q)

  -- it stands before the end
  pub lone_inside : is_lone_minus (piece_at 32 s at) ≡ true → at < length s
  lone_inside e = go (ltb at (length s)) refl
    where
      go : (x : Bool) → ltb at (length s) ≡ x → at < length s
      go true t = ltb-true at (length s) t
      go false t = absurd (true≢false (sym e ∙ sym (lone_none (ltb-false at (length s) t))))

lone_length : (w : List ℕ) → is_lone_minus w ≡ true → length w ≡ 1
unfolding is_lone_minus
lone_length [] e = absurd (true≢false (sym e))
lone_length (b ∷ w) e = ap suc (eqb-true (length w) 0 (and_both (eqb b 45) (eqb (length w) 0) e).1)

lone_no_value : (w : List ℕ) → is_lone_minus w ≡ true → is_value w ≡ false
unfolding is_lone_minus is_value is_points whole_part is_numeral
lone_no_value [] e = refl
lone_no_value (b ∷ []) e = rw (and_both (eqb b 45) true e).0
lone_no_value (b ∷ c ∷ w) e = absurd (omega (arith, lone_length (b ∷ c ∷ w) e))

-- a number as a value
abbrev as_value : Option (ℤ × Cursor) → ValueRead
as_value (Some (z, next)) = Ok (record { carries = Scored z }, next)
as_value None = Err WrongValues

abbrev is_number : Option (ℤ × Cursor) → Bool
is_number (Some (z, next)) = true
is_number None = false

-- the mark; no lone minus; a number, which is no lone minus
module _ (s : List ℕ) (at : ℕ) where
  pub mark_at : is_lone_minus (piece_at 32 s at) ≡ true → Ok (record { carries = Unscored }, record { at = at + 1 }) ≡ value_at s at
  unfolding value_at is_cell pair_said
  mark_at e = rw (e, lone_length (piece_at 32 s at) e)

  no_mark : is_lone_minus (piece_at 32 s at) ≡ false → as_value (number_at s at) ≡ value_at s at
  unfolding value_at number_at is_cell pair_said
  no_mark e = rw e (go (is_value w) (value_of w) (record { at = at + length w }))
    where
      w : List ℕ
      w = piece_at 32 s at

      go : (b : Bool) (z : ℤ) (next : Cursor)
          → as_value (cond b (Some (z, next)) None) ≡ cond b (Ok (record { carries = Scored z }, next)) (Err WrongValues)
      go true z next = refl
      go false z next = refl

  lone_no_number : is_lone_minus (piece_at 32 s at) ≡ true → is_number (number_at s at) ≡ false
  unfolding number_at
  lone_no_number e = rw (lone_no_value (piece_at 32 s at) e)

  pub number_at_lem : {z : ℤ} {next : Cursor} → Some (z, next) ≡ number_at s at → Ok (record { carries = Scored z }, next) ≡ value_at s at
  number_at_lem {z} {next} e = go (is_lone_minus (piece_at 32 s at)) refl
    where
      go : (x : Bool) → is_lone_minus (piece_at 32 s at) ≡ x → Ok (record { carries = Scored z }, next) ≡ value_at s at
      go true t = absurd (true≢false (ap is_number e ∙ lone_no_number t))
      go false t = ap as_value e ∙ no_mark t

  pub none_at : None ≡ number_at s at → is_lone_minus (piece_at 32 s at) ≡ false → Err WrongValues ≡ value_at s at
  none_at e t = ap as_value e ∙ no_mark t
