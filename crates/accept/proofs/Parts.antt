-- Parts of a sheet, byte by byte, and the digits in them.
use mathlib.Core.Path.{◌≡◌, refl, sym, ap, ap₂, ◌∙◌, subst}
use mathlib.Core.Bool.{true}
use mathlib.Core.List.{List, [], ◌∷◌, ◌++◌, append_assoc}
use Prim.Native.Nat.{ℕ, suc, ◌+◌, ◌-◌, ◌*◌, ◌≤◌, ◌<◌}
use native.Mathlib.Numerals.{add-one}
use native.Mathlib.Omega.{arith}
use lib.Dec.{T, lit<}
use lib.ListN.{length, get_or, drop, length-drop}
use lib.Seq.{take-suc, get_or-drop, get_or-take, length-take-le, drop-drop, split_at}
use Rattle.lists.specs.Lists.{all}
use Rattle.lists.proofs.Tests.{T_true, true_T, T_and}
use Rattle.interface.specs.Sheet.{is_digit, number_from}
use Rattle.interface.proofs.Pieces.{all_append}
use Rattle.interface.proofs.Digits.{ten_bound}
use Rattle.interface.proofs.Numerals.{number_last}
use Rattle.text.proofs.Numerals.{digit_value_lem, number_small}
use Rattle.accept.specs.Places.{part, Run}

module _ (s : List ℕ) (p k : ℕ) where
  pub part_length : p + k ≤ length s → length (part s p k) ≡ k
  part_length h = length-take-le k (drop p s) (omega (arith, length-drop p s))

  pub part_more : p + k < length s → part s p (k + 1) ≡ part s p k ++ (get_or s (p + k) 0 ∷ [])
  part_more h = rw (add-one k) (take-suc (drop p s) k 0 (omega (arith, length-drop p s)) ∙ ap (λ (b : ℕ). part s p k ++ (b ∷ [])) (get_or-drop p s k 0))

  pub part_first : 0 < k → get_or (part s p k) 0 0 ≡ get_or s p 0
  part_first h = let z : p + 0 ≡ p = omega arith in get_or-take k (drop p s) 0 0 h ∙ get_or-drop p s 0 0 ∙ ap (λ (i : ℕ). get_or s i 0) z

  -- the sheet from a place on: a part, the byte behind it, and what follows
  pub part_split : p + k < length s → drop p s ≡ part s p k ++ (get_or s (p + k) 0 ∷ drop (p + k + 1) s)
  part_split h =
      let e : p + suc k ≡ p + k + 1 = omega arith in
      split_at (drop p s) k 0 (omega (arith, length-drop p s))
      ∙ ap₂ (λ (b : ℕ) (t : List ℕ). part s p k ++ (b ∷ t)) (get_or-drop p s k 0) (drop-drop (suc k) p s ∙ ap (λ (i : ℕ). drop i s) e)

-- two more bytes
pub part_two : (s : List ℕ) (p k : ℕ) {a b : ℕ} → p + k + 1 < length s → get_or s (p + k) 0 ≡ a → get_or s (p + k + 1) 0 ≡ b → part s p (k + 2) ≡ part s p k ++ (a ∷ b ∷ [])
part_two s p k {a} {b} h e f =
    let two : k + 2 ≡ k + 1 + 1 = omega arith in
    let y : p + (k + 1) ≡ p + k + 1 = omega arith in
    ap (part s p) two
    ∙ part_more s p (k + 1) (omega arith)
    ∙ ap₂ (λ (l : List ℕ) (x : ℕ). l ++ (x ∷ [])) (part_more s p k (omega arith) ∙ ap (λ (x : ℕ). part s p k ++ (x ∷ [])) e) (ap (λ (i : ℕ). get_or s i 0) y ∙ f)
    ∙ append_assoc (part s p k) (a ∷ []) (b ∷ [])

-- one more byte of two equal parts
pub same_more : (s : List ℕ) (p q k : ℕ) → part s p k ≡ part s q k → p + k < length s → q + k < length s → get_or s (p + k) 0 ≡ get_or s (q + k) 0
    → part s p (k + 1) ≡ part s q (k + 1)
same_more s p q k e h g b =
    part_more s p k h ∙ ap₂ (λ (l : List ℕ) (x : ℕ). l ++ (x ∷ [])) e b ∙ sym (part_more s q k g)

pub run_none : (s : List ℕ) (p q : ℕ) → Run s p q 0 0
unfolding all number_from
run_none s p q = record { few = omega arith; digits = tt; number = refl; same = refl }

module _ {s : List ℕ} {p q v k : ℕ} (r : Run s p q v k) where
  pub run_small : p + k ≤ length s → v < 10000000
  run_small h =
      let n : length (part s p k) ≡ k = part_length s p k h in
      let small = number_small 0 0 (part s p k) (lit< tt) (T_true r.digits) in
      omega (arith, r.number, small, ten_bound (0 + length (part s p k)) 7 (omega (arith, r.few)))

  pub run_one : Run s p p v k
  run_one = record { few = r.few; digits = r.digits; number = r.number; same = refl }

  pub run_more : k < 7 → p + 8 ≤ length s → q + 8 ≤ length s → is_digit (get_or s (p + k) 0) ≡ true → get_or s (q + k) 0 ≡ get_or s (p + k) 0
      → Run s p q (v * 10 + (get_or s (p + k) 0 - 48)) (k + 1)
  unfolding all
  run_more few h g d e =
      let b = get_or s (p + k) 0 in
      let more = part_more s p k (omega arith) in
      record {
        few = omega arith;
        digits = subst (λ (l : List ℕ). T (all is_digit l)) (sym more) (all_append is_digit (part s p k) (b ∷ []) r.digits (T_and (is_digit b) true (true_T d) tt));
        number = ap₂ (λ (x y : ℕ). x * 10 + y) r.number (sym (digit_value_lem b d)) ∙ sym (number_last 10 0 (part s p k) b) ∙ sym (ap (number_from 10 0) more);
        same = same_more s p q k r.same (omega arith) (omega arith) (sym e);
      }
