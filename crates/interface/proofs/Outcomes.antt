-- What an outcome says: the number and the count of an answer, its number in C, and what stands in the slots.
use mathlib.Core.Path.{◌≡◌, refl, sym, ap, ◌∙◌}
use mathlib.Core.Logic.{◌↔◌}
use mathlib.Core.List.{List, ◌++◌}
use Prim.Native.Nat.{ℕ, zero, suc, ◌<◌}
use native.Mathlib.Omega.{arith}
use lib.IntN.{pos, neg_ℤ}
use lib.ListN.{length, take, drop}
use lib.Seq.{take-append_seam, drop-append_seam}
use Rattle.std.specs.Prelude.{Ok, Err}
use Rattle.answers.specs.Answers.{number, number_of, Answer, count_of, Answered, slots}
use Rattle.answers.proofs.Answers.{number_above, found_count, slots_written}
use Rattle.interface.specs.Calls.{c_number}

-- an answer and its number in C: a count is answered as it is, a refusal as minus its number
pub refused_number : (a : Answer) (k : ℕ) → 0 < k → (c_number a ≡ neg_ℤ (pos k)) ↔ (number_of a ≡ k)
unfolding c_number
refused_number a zero h = absurd (omega arith)
refused_number (Ok c) (suc k) h = (λ e. let z : ◌≡◌ {A = ℕ} 0 1 = cc in absurd (omega arith), λ e. absurd (omega arith))
refused_number (Err r) (suc k) h = (λ e. same (number r) (number_above r) e, λ e. ap (λ (i : ℕ). neg_ℤ (pos i)) e)
  where
    same : (j : ℕ) → 0 < j → neg_ℤ (pos j) ≡ neg_ℤ (pos (suc k)) → j ≡ suc k
    same zero g e = absurd (omega arith)
    same (suc j) g e = let z : j ≡ k = cc in ap suc z

pub counted_number : (a : Answer) (c : ℕ) → (c_number a ≡ pos c) ↔ ((number_of a ≡ 0) × (count_of a ≡ c))
unfolding c_number count_of
counted_number (Ok d) c = (λ e. (refl, cc), λ (_, e). ap pos e)
counted_number (Err r) c = (λ e. absurd (never (number r) (number_above r) e), λ (z, _). let g = number_above r in absurd (omega (arith, g, z)))
  where
    never : (j : ℕ) → 0 < j → neg_ℤ (pos j) ≡ pos c → ⊥
    never zero g e = omega arith
    never (suc j) g e = let z : ◌≡◌ {A = ℕ} 0 1 = cc in omega arith

-- the slots of a call that is not refused
module _ {A : Type 0} {k : ℕ} (z : k ≡ 0) (result lent : List A) {after : List A} (w : after ≡ slots k result lent) where
  pub after_is : after ≡ result ++ drop (length result) lent
  after_is = w ∙ ap (λ (j : ℕ). slots j result lent) z ∙ slots_written result lent

  pub taken : {count : ℕ} → length result ≡ count → take count after ≡ result
  taken e = rw (sym e, after_is) (take-append_seam result (drop (length result) lent))

  pub dropped : {count : ℕ} → length result ≡ count → drop count after ≡ drop count lent
  dropped e = rw (sym e, after_is) (drop-append_seam result (drop (length result) lent))

-- an answer that is no refusal
module _ {r : Answer} (k c : ℕ) (e : Answered k c r) (none : number_of r ≡ 0) where
  pub not_refused : k ≡ 0
  not_refused = sym e.number ∙ none

  pub counted : count_of r ≡ c
  counted = found_count e not_refused
