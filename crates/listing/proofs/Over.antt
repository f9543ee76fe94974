-- A text handed over behind checks that passed: the outcome of the whole table.
use mathlib.Core.Path.{◌≡◌, refl, sym, ap, ap₂, ◌∙◌, subst₂}
use mathlib.Core.List.{List, ◌++◌}
use Prim.Native.Nat.{ℕ, ◌≤◌}
use native.Mathlib.Omega.{arith}
use borrow.Author.Tests.{le-ltb}
use lib.ListN.{length, drop, length-append}
use Rattle.std.specs.Prelude.{Ok}
use Rattle.answers.specs.Answers.{Answer, Answered, slots}
use Rattle.answers.proofs.WaysOut.{counted}
use Rattle.interface.proofs.Refusals.{gives, first_no, no_more}
use Rattle.listing.specs.Over.{over_refusal, HandedOver}

-- the text is the one that is to be written, and the table gives what check 14 does
pub handed_over : {given text lent : List ℕ} {r : Answer} {after : List ℕ} {k : ℕ} → given ≡ text → over_refusal text (length lent) ≡ k
    → HandedOver given lent r after → Answered k (length text) r × (after ≡ slots k text lent)
handed_over {text = text} {lent = lent} {r = r} e q h =
    let p = ap (λ (t : List ℕ). over_refusal t (length lent)) e ∙ q in
    (subst₂ (λ (k c : ℕ). Answered k c r) p (ap length e) h.answered, h.written ∙ ap₂ (λ (k : ℕ) (t : List ℕ). slots k t lent) p e)

-- a text copied into a buffer that has room, or written into it
pub copied_over : (text lent : List ℕ) {after : List ℕ} → length text ≤ length lent → after ≡ text ++ drop (length text) lent
    → HandedOver text lent (Ok (length text)) after
unfolding over_refusal
copied_over text lent h e =
    let (a, t) = counted (length text) text lent (sym (gives (first_no (le-ltb _ _ h) no_more))) refl refl e in
    record { answered = a; written = t }

pub wrote_over : (text lent : List ℕ) {r : ℕ} {after : List ℕ} → r ≡ length text → after ≡ text ++ drop r lent → length after ≡ length lent
    → HandedOver text lent (Ok r) after
wrote_over text lent {r} {after} e w l =
    let h : length text ≤ length lent = omega (arith, l, ap length w, length-append text (drop r lent)) in
    rw e (copied_over text lent h (w ∙ ap (λ (k : ℕ). text ++ drop k lent) e))
