-- Texts put one after the other, and a text put from its end.
use mathlib.Core.Path.{◌≡◌, refl, sym, ap, ap₂, ◌∙◌}
use mathlib.Core.List.{List, [], ◌∷◌, ◌++◌, append_assoc}
use Prim.Native.Nat.{ℕ, suc, ◌+◌, ◌≤◌}
use native.Mathlib.Nat.{add-zero, zero-add}
use native.Mathlib.Omega.{arith}
use lib.ListN.{length, take, drop, set, length-append}
use borrow.Rule.Slice.PartMut.{put_mid}
use lib.Seq.{drop-drop, sets, sets-eq, length-sets, set_comm, take-append_seam}
use Rattle.lists.proofs.Written.{sets_sets}
use Rattle.listing.specs.declared.Text.{Text}
use Rattle.listing.specs.Put.{Put}

-- the last store first
pub sets_last : (xs l : List ℕ) (at x : ℕ) → sets l at (xs ++ (x ∷ [])) ≡ sets (set l (at + length xs) x) at xs
sets_last [] l at x = rw add-zero
sets_last (y ∷ xs) l at x =
    let e : at + suc (length xs) ≡ suc at + length xs = omega arith in
    rw (e, set_comm l (suc at + length xs) at x y (λ z. omega arith)) (sets_last xs (set l at y) (suc at) x)

-- a text copied into a part of a buffer
pub copied_into : (l : List ℕ) {held : List ℕ} (xs : List ℕ) (at : ℕ) {k : ℕ} → held ≡ xs → k ≡ length xs → at + length xs ≤ length l
    → put_mid at k l held ≡ sets l at xs
copied_into l xs at {k} e q h =
    ap₂ (λ (t u : List ℕ). take at l ++ (t ++ u)) e (drop-drop k at l ∙ ap (λ (n : ℕ). drop (at + n) l) q)
    ∙ sym (append_assoc (take at l) xs (drop (at + length xs) l))
    ∙ sym (sets-eq xs l at h)

-- one text after another
pub then : {a b c : Text} {xs ys : List ℕ} → Put a xs b → Put b ys c → Put a (xs ++ ys) c
then {a} {xs = xs} {ys = ys} p q =
    record {
      same_reference = q.same_reference ∙ p.same_reference;
      size = q.size ∙ p.size;
      place = omega (arith, p.place, q.place, length-append xs ys);
      stored = q.stored ∙ rw (p.stored, p.place) (sets_sets xs a.out.now a.at ys);
    }

pub nothing_put : (a : Text) → Put a [] a
nothing_put a = record { same_reference = refl; size = refl; place = omega arith; stored = refl }

-- bytes stored one by one, or in a part of the buffer
pub stored : {a b : Text} (xs : List ℕ) → b.out.ghost_name ≡ a.out.ghost_name → b.at ≡ a.at + length xs → b.out.now ≡ sets a.out.now a.at xs → Put a xs b
stored {a} xs same p e = record { same_reference = same; size = ap length e ∙ length-sets a.out.now a.at xs; place = p; stored = e }

-- a text at the start of a buffer
pub from_start : {a b : Text} {xs : List ℕ} (l : List ℕ) {end : ℕ} → a.out.now ≡ l → a.at ≡ 0 → Put a xs b → end ≡ b.at → length xs ≤ length l
    → (end ≡ length xs) × (b.out.now ≡ xs ++ drop end l)
from_start {xs = xs} l {end} same zero p last h =
    let e : end ≡ length xs = omega (arith, p.place) in
    (e, p.stored ∙ rw (same, zero) (sets-eq xs l 0 (omega arith)) ∙ ap (λ (k : ℕ). xs ++ drop k l) (zero-add (length xs) ∙ sym e))

-- a writer wrote the text, which it was given in another form
pub written : (rest : List ℕ) {text given held : List ℕ} {r : ℕ} → given ≡ text → r ≡ length given → held ≡ given ++ rest
    → (r ≡ length text) × (take r held ≡ text)
written rest {given = given} e p q = (p ∙ ap length e, rw (q, p) (take-append_seam given rest) ∙ e)
