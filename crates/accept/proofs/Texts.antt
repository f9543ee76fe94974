-- Well-formed cells: digits alone, and the bytes of any.
use mathlib.Core.Path.{◌≡◌, refl, sym, ap, ap₂, ◌∙◌, subst}
use mathlib.Core.Bool.{Bool, true, false, not, cond, ◌&&◌, ◌||◌}
use mathlib.Core.List.{List, [], ◌∷◌, ◌++◌, append-nil}
use Prim.Native.Nat.{ℕ, ◌+◌, ◌*◌, ◌≤◌, ◌<◌}
use native.Mathlib.Omega.{arith}
use borrow.Author.Tests.{ne_eqb}
use lib.Dec.{T, eqb, leb, le→leb, eqb-suc-suc}
use lib.IntN.{pos}
use lib.ListN.{length, get_or}
use Rattle.lists.specs.Lists.{all}
use Rattle.lists.proofs.Tests.{T_true, true_T, false_T, and_T, T_and, T_or_right}
use Rattle.pairs.specs.Pairs.{list_number}
use Rattle.clusters.specs.PairList.{one_point}
use Rattle.interface.specs.Sheet.{minus, is_digit, is_numeral, whole_part, half_text, is_whole_or_half, is_points, is_value, is_lone_minus, is_cell, number_from, pair_said}
use Rattle.interface.proofs.Points.{ending, digits_free, ended_whole, ended_well, ended_points}
use Rattle.interface.proofs.Values.{plain_test, plain_value, plain_lone, said_value}
use Rattle.text.proofs.Numerals.{digit_low}
use Rattle.accept.specs.Places.{part, Run, Said}
use Rattle.accept.proofs.Parts.{part_length, part_first}

numeral_of : (w : List ℕ) → T (all is_digit w) → 0 < length w → length w ≤ 7 → (eqb (get_or w 0 0) 48 && not (eqb (length w) 1)) ≡ false
    → T (is_numeral w)
unfolding is_numeral all
numeral_of [] t h k e = absurd (omega arith)
numeral_of (b ∷ w) t h k e =
    let few : T (leb (length w) 6) = le→leb (length w) 6 (omega arith) in
    T_and (is_digit b && all is_digit w && leb (length w) 6) (not (eqb b 48) || eqb (length w) 0)
    (T_and (is_digit b && all is_digit w) (leb (length w) 6) t few)
    (go (eqb b 48) (eqb (length w) 0) (rw (eqb-suc-suc (length w) 0) at e))
  where
    go : (x y : Bool) → (x && not y) ≡ false → T (not x || y)
    go true true e = tt
    go true false e = T_not_none e
      where
        T_not_none : true ≡ false → T false
        T_not_none e = subst T e tt
    go false y e = tt

-- digits that are a numeral, with nothing or `.5` behind them, are a cell
module _ (w : List ℕ) (t : T (all is_digit w)) (n : T (is_numeral w)) (h : Bool) where
  abbrev text : List ℕ
  text = w ++ ending h

  ended_first : (v : List ℕ) (h : Bool) → T (all is_digit v) → eqb (get_or (v ++ ending h) 0 0) minus ≡ false
  unfolding all half_text
  ended_first [] true t = refl
  ended_first [] false t = refl
  ended_first (b ∷ v) h t =
      let d : is_digit b ≡ true = T_true {b = is_digit b} (and_T (is_digit b) (all is_digit v) t).0 in
      ne_eqb b 45 (λ e. absurd (omega (arith, digit_low b d)))

  ended_points_good : is_points text ≡ true
  unfolding is_points
  ended_points_good =
      let f = digits_free w t in
      T_true {b = is_numeral (whole_part text) && is_whole_or_half text} (T_and (is_numeral (whole_part text)) (is_whole_or_half text)
      (subst (λ (v : List ℕ). T (is_numeral v)) (sym (ended_whole w f h)) n)
      (ended_well w f h))

  ended_cell : T (is_cell text)
  unfolding is_cell
  ended_cell = T_or_right (is_lone_minus text) (is_value text) (true_T (plain_test text (ended_first w h t) ∙ ended_points_good))

  ended_said : list_number (pair_said text) ≡ pos (number_from 10 0 w * 2 + cond h 1 0)
  unfolding one_point
  ended_said =
      let m = ended_first w h t in
      said_value text (false_T (plain_lone text m)) ∙ plain_value text m ∙ ap pos (ended_points w (digits_free w t) h)

-- what the digits at a place are, with an ending
module _ {s : List ℕ} {p q v k : ℕ} (r : Run s p q v k) (h : p + k < length s) (o : 0 < k) (e : (eqb (get_or s p 0) 48 && not (eqb k 1)) ≡ false) where
  run_numeral : T (is_numeral (part s p k))
  run_numeral =
      let n : length (part s p k) ≡ k = part_length s p k (omega arith) in
      numeral_of (part s p k) r.digits (omega (arith, n)) (omega (arith, n, r.few))
      (ap₂ (λ (b m : ℕ). eqb b 48 && not (eqb m 1)) (part_first s p k o) n ∙ e)

  pub run_said : Said s p (pos (v * 2)) k
  run_said =
      let w = part s p k in
      let z : number_from 10 0 w * 2 + 0 ≡ v * 2 = omega (arith, r.number) in
      record {
        good = subst (λ (u : List ℕ). T (is_cell u)) (append-nil w) (ended_cell w r.digits run_numeral false);
        number = ap pos (sym z) ∙ sym (ended_said w r.digits run_numeral false) ∙ ap (λ (u : List ℕ). list_number (pair_said u)) (append-nil w);
      }

  pub run_half : part s p (k + 2) ≡ part s p k ++ (46 ∷ 53 ∷ []) → Said s p (pos (v * 2 + 1)) (k + 2)
  unfolding half_text
  run_half two =
      let w = part s p k in
      let z : number_from 10 0 w * 2 + 1 ≡ v * 2 + 1 = omega (arith, r.number) in
      record {
        good = subst (λ (u : List ℕ). T (is_cell u)) (sym two) (ended_cell w r.digits run_numeral true);
        number = ap pos (sym z) ∙ sym (ended_said w r.digits run_numeral true) ∙ ap (λ (u : List ℕ). list_number (pair_said u)) (sym two);
      }
