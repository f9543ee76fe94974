-- Digits put into a buffer, the last one first; a number in points, even or odd.
use mathlib.Core.Path.{◌≡◌, refl, ap, ◌∙◌}
use mathlib.Core.List.{List, [], ◌∷◌, ◌++◌, append-nil}
use Prim.Native.Nat.{ℕ, suc, ◌+◌, ◌-◌, ◌/◌, ◌%◌, ◌<◌}
use native.Mathlib.Omega.{arith}
use borrow.Author.Tests.{ne_eqb}
use lib.ListN.{set}
use lib.Seq.{sets}
use Rattle.clusters.specs.PairList.{one_point}
use Rattle.interface.specs.Sheet.{half_text}
use Rattle.interface.specs.Listing.{digit, digits, decimal, points_text}
use Rattle.interface.proofs.Digits.{length_digits}
use Rattle.listing.proofs.Puts.{sets_last}

-- of i digits the last is stored, and i − 1 are left
pub digits_turn : (base i n : ℕ) (l : List ℕ) (at : ℕ) → 0 < i
    → sets l at (digits base i n) ≡ sets (set l (at + (i - 1)) (digit (n % base))) at (digits base (i - 1) (n / base))
unfolding digits
digits_turn base i n l at more =
    let e : i ≡ suc (i - 1) = omega arith in
    ap (λ (k : ℕ). sets l at (digits base k n)) e
    ∙ sets_last (digits base (i - 1) (n / base)) l at (digit (n % base))
    ∙ ap (λ (k : ℕ). sets (set l (at + k) (digit (n % base))) at (digits base (i - 1) (n / base))) (length_digits base (i - 1) (n / base))

pub no_digits : (base n : ℕ) → digits base 0 n ≡ []
unfolding digits
no_digits base n = refl

-- a number of half points: whole points, or a half more
pub whole_points : (k : ℕ) → k % 2 ≡ 0 → points_text k ≡ decimal (k / 2)
unfolding points_text one_point
whole_points k e = rw e (append-nil (decimal (k / 2)))

pub half_points : (k : ℕ) → (k % 2 ≡ 0 → ⊥) → points_text k ≡ decimal (k / 2) ++ (46 ∷ 53 ∷ [])
unfolding points_text one_point half_text
half_points k f = rw (ne_eqb (k % 2) 0 f) refl
