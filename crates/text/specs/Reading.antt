-- The code's own vocabulary for reading bytes, which a reader of the statements need not believe.
use Rattle.std.specs.Prelude.{◌≡◌, ◌<◌, Bool, true, false, cond, ◌||◌, List, [], ◌∷◌, ℕ, zero, suc, ◌+◌, eqb, length}
use Rattle.std.specs.Prelude.{ℤ, pos, neg_ℤ, Option, Some, None}
use Rattle.interface.specs.Sheet.{space, is_upper, is_digit, is_value, number_from, value_of}
use Rattle.interface.specs.Calls.{piece_at}
use Rattle.text.specs.declared.Digits.{Digits}
use Rattle.answers.specs.declared.Cursor.{Cursor}

-- the bytes of a name behind its first
abbrev pub is_name_byte : ℕ → Bool
is_name_byte b = is_upper b || is_digit b

-- calls at a byte return what p says of it
abbrev pub Decides : (ℕ → Bool → Type 0) → (ℕ → Bool) → Type 0
Decides returns p = (b : ℕ) → b < 256 → (r : Bool) → returns b r → r ≡ p b

-- the digits that a list starts with, at most k
unfoldable pub digits : ℕ → List ℕ → List ℕ
digits zero s = []
digits (suc k) [] = []
digits (suc k) (b ∷ s) = cond (is_digit b) (b ∷ digits k s) []

-- the number v read on by digits that start at a place
unfoldable pub read_on : ℕ → ℕ → List ℕ → Digits
read_on v at ds = record { number = number_from 10 v ds; end = at + length ds }

-- what stands behind a piece
unfoldable pub is_end : List ℕ → Bool
is_end [] = true
is_end (b ∷ s) = eqb b space

-- a number of half points with its sign, and the place after it; `-0` is none
unfoldable pub signed_read : (negative : Bool) (halves place : ℕ) → Option (ℤ × Cursor)
signed_read true halves place = cond (eqb halves 0) None (Some (neg_ℤ (pos halves), record { at = place }))
signed_read false halves place = Some (pos halves, record { at = place })

-- the number at a place of a line with the place after it, if the piece there is a value
unfoldable pub number_at : List ℕ → ℕ → Option (ℤ × Cursor)
number_at line at =
    cond (is_value (piece_at space line at))
    (Some (value_of (piece_at space line at), record { at = at + length (piece_at space line at) }))
    None
