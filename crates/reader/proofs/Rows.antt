-- A line of values, piece by piece.
use mathlib.Core.Path.{◌≡◌, refl}
use mathlib.Core.Bool.{Bool, true, false, not, cond, and-true, and-false}
use mathlib.Core.List.{List, map}
use Prim.Native.Nat.{ℕ, suc, ◌+◌, ◌≤◌, ◌<◌}
use native.Mathlib.Numerals.{add-one}
use native.Mathlib.Omega.{arith}
use borrow.Author.Tests.{ne_eqb}
use lib.Dec.{eqb, eqb→eq, eqb-suc-suc}
use lib.IntN.{ℤ}
use lib.ListN.{length, set, drop}
use lib.Seq.{sets}
use Rattle.lists.specs.Lists.{all}
use Rattle.lists.proofs.Tests.{true_T, and_T}
use Rattle.interface.specs.Sheet.{cut, is_cell}
use Rattle.interface.specs.Refusals.{is_row}
use Rattle.interface.specs.Calls.{piece_at}
use Rattle.interface.proofs.Pieces.{some_piece}
use Rattle.text.proofs.Pieces.{pieces_more, pieces_last}
use Rattle.sheet.proofs.Lines.{pieces_from}
use Rattle.reader.specs.Square.{number_said}

pub row_none : (m : ℕ) (t : List ℕ) → m ≡ 0 → is_row m (cut 32 t) ≡ false
unfolding is_row
row_none m t z = rw (z, ne_eqb (length (cut 32 t)) 0 (λ e. omega (arith, some_piece 32 t)))

pub row_length : (n : ℕ) (ws : List (List ℕ)) → is_row n ws ≡ true → length ws ≡ n
unfolding is_row
row_length n ws e = eqb→eq (length ws) n (and_T (eqb (length ws) n) (all is_cell ws) (true_T e)).0

pub row_refused : (m : ℕ) (line : List ℕ) (at : ℕ) → is_cell (piece_at 32 line at) ≡ false → is_row m (cut 32 (drop at line)) ≡ false
unfolding is_row all
row_refused m line at e = rw (pieces_from 32 line at, e) (and-false (eqb (suc (length (drop 1 (cut 32 (drop at line))))) m))

module _ (line : List ℕ) (at end : ℕ) (inside : at ≤ length line) (is : end ≡ at + length (piece_at 32 line at)) where
  pub row_last : (m : ℕ) → length line ≤ end → is_cell (piece_at 32 line at) ≡ true
      → is_row m (cut 32 (drop at line)) ≡ eqb 1 m
  unfolding is_row all
  row_last m h e = rw (pieces_last 32 line at end inside is h, e) (and-true _)

  pub row_more : (m k : ℕ) → m ≡ suc k → end < length line → is_cell (piece_at 32 line at) ≡ true
      → is_row m (cut 32 (drop at line)) ≡ is_row k (cut 32 (drop (end + 1) line))
  unfolding is_row all
  row_more m k z h e = rw (z, pieces_more 32 line at end inside is h, e, eqb-suc-suc (length (cut 32 (drop (end + 1) line))) k)

  pub store_last : (l : List ℤ) (i : ℕ) {v : ℤ} → v ≡ number_said (piece_at 32 line at) → length line ≤ end
      → set l i v ≡ sets l i (map number_said (cut 32 (drop at line)))
  store_last l i e h = rw (pieces_last 32 line at end inside is h, e)

  pub store_more : (l : List ℤ) (i : ℕ) {v : ℤ} → v ≡ number_said (piece_at 32 line at) → end < length line
      → sets (set l i v) (i + 1) (map number_said (cut 32 (drop (end + 1) line))) ≡ sets l i (map number_said (cut 32 (drop at line)))
  store_more l i e h = rw (pieces_more 32 line at end inside is h, add-one i, e)

-- a refusal by check 8, or none
pub refuses : (b : Bool) (r : ℕ) → r ≡ cond b 8 0 → (r ≡ 0 → ⊥) → b ≡ true
refuses true r e f = refl
refuses false r e f = absurd (f e)

pub passes : (b : Bool) (r : ℕ) → r ≡ cond b 8 0 → r ≡ 0 → b ≡ false
passes true r e z = absurd (omega arith)
passes false r e z = refl

pub row_eight : (n : ℕ) (ws : List (List ℕ)) → is_row n ws ≡ false → ◌≡◌ {A = ℕ} 8 (cond (not (is_row n ws)) 8 0)
row_eight n ws e = rw e

pub row_zero : (n : ℕ) (ws : List (List ℕ)) → is_row n ws ≡ true → ◌≡◌ {A = ℕ} 0 (cond (not (is_row n ws)) 8 0)
row_zero n ws e = rw e
