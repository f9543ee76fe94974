-- The pieces of a list from a place on, one after the other.
use mathlib.Core.Path.{◌≡◌, refl, sym, ap, ◌∙◌}
use mathlib.Core.Bool.{Bool, true, false, not}
use mathlib.Core.List.{List, [], ◌∷◌, ◌++◌}
use Prim.Native.Nat.{ℕ, zero, suc, ◌+◌, ◌-◌, ◌≤◌, ◌<◌}
use native.Mathlib.Numerals.{add-one}
use native.Mathlib.Nat.{add-sub_cancel_left}
use native.Mathlib.Omega.{arith}
use borrow.Author.Tests.{eq-eqb, ne_eqb}
use lib.Dec.{eqb}
use lib.ListN.{length, get_or, take, drop, length-append, length-drop, drop_of_length-le}
use lib.Seq.{drop-cons, drop-drop, drop-append_seam, take_all}
use Rattle.lists.specs.Lists.{all}
use Rattle.lists.proofs.Tests.{cond_elim}
use Rattle.interface.specs.Sheet.{longer, cut}
use Rattle.interface.specs.Calls.{piece_at}
use Rattle.interface.proofs.Pieces.{some_piece, longer_length}
use Rattle.text.proofs.Words.{and_both}

-- the list from a place on is its first byte and the list from the next place on
pub here : (s : List ℕ) (i : ℕ) → i < length s → drop i s ≡ get_or s i 0 ∷ drop (i + 1) s
here s i h = rw add-one (drop-cons s i 0 h)

-- the part from a place to the end
pub rest : (s : List ℕ) (i : ℕ) → take (length s - i) (drop i s) ≡ drop i s
rest s i = take_all (length s - i) (drop i s) (omega (arith, length-drop i s))

longer_first : (b : ℕ) (ws : List (List ℕ)) → get_or (longer b ws) 0 [] ≡ b ∷ get_or ws 0 []
unfolding longer
longer_first b [] = refl
longer_first b (w ∷ ws) = refl

-- of the pieces ws of a list t: the first is the start of t; without its first k bytes it is the first of what is left; where c ends it,
-- the others are those of what follows, and else there are no others
abbrev first : List (List ℕ) → List ℕ
first ws = get_or ws 0 []

abbrev On : ℕ → ℕ → List ℕ → List (List ℕ) → Type 0
On c k t ws = k ≤ length (first ws) → length (first ws) ≡ k + length (first (cut c (drop k t)))

abbrev More : ℕ → List ℕ → List (List ℕ) → Type 0
More c t ws = length (first ws) < length t → ws ≡ first ws ∷ cut c (drop (suc (length (first ws))) t)

abbrev Last : List ℕ → List (List ℕ) → Type 0
Last t ws = length t ≤ length (first ws) → ws ≡ first ws ∷ []

module _ (c : ℕ) where
  first_le : (t : List ℕ) → length (first (cut c t)) ≤ length t
  unfolding cut
  first_le [] = omega arith
  first_le (b ∷ t) =
      let ws = cut c t in
      cond_elim (eqb b c) ([] ∷ ws) (longer b ws) (λ vs. length (first vs) ≤ suc (length t))
      (λ _. omega arith)
      (λ _. rw (longer_first b ws) (omega (arith, first_le t)))

  first_take : (t : List ℕ) → take (length (first (cut c t))) t ≡ first (cut c t)
  unfolding cut
  first_take [] = refl
  first_take (b ∷ t) =
      let ws = cut c t in
      cond_elim (eqb b c) ([] ∷ ws) (longer b ws) (λ vs. take (length (first vs)) (b ∷ t) ≡ first vs)
      (λ _. refl)
      (λ _. rw (longer_first b ws) (ap (λ (l : List ℕ). b ∷ l) (first_take t)))

  first_on : (k : ℕ) (t : List ℕ) → On c k t (cut c t)
  unfolding cut
  first_on zero t h = omega arith
  first_on (suc k) [] h = absurd (omega arith)
  first_on (suc k) (b ∷ t) h =
      let ws = cut c t in
      let e = ap length (longer_first b ws) in
      cond_elim (eqb b c) ([] ∷ ws) (longer b ws) (On c (suc k) (b ∷ t))
      (λ _ h. absurd (omega arith))
      (λ _ h. omega (arith, e, first_on k t (omega (arith, e))))
      h

  first_more : (t : List ℕ) → More c t (cut c t)
  unfolding cut longer
  first_more [] h = absurd (omega arith)
  first_more (b ∷ t) h =
      let ws = cut c t in
      cond_elim (eqb b c) ([] ∷ ws) (longer b ws) (More c (b ∷ t))
      (λ _ h. refl)
      (λ _ h. rw (longer_first b ws) (ap (longer b) (first_more t (omega (arith, ap length (longer_first b ws))))))
      h

  first_last : (t : List ℕ) → Last t (cut c t)
  unfolding cut longer
  first_last [] h = refl
  first_last (b ∷ t) h =
      let ws = cut c t in
      cond_elim (eqb b c) ([] ∷ ws) (longer b ws) (Last (b ∷ t))
      (λ _ h. absurd (omega arith))
      (λ _ h. rw (longer_first b ws) (ap (longer b) (first_last t (omega (arith, ap length (longer_first b ws))))))
      h

-- a byte that is c, and another
module _ (c : ℕ) (s : List ℕ) (i : ℕ) (h : i < length s) where
  pub piece_stop : get_or s i 0 ≡ c → piece_at c s i ≡ []
  unfolding piece_at cut
  piece_stop e = rw (here s i h, eq-eqb _ _ e)

  pub piece_step : (get_or s i 0 ≡ c → ⊥) → piece_at c s i ≡ get_or s i 0 ∷ piece_at c s (i + 1)
  unfolding piece_at cut
  piece_step f = rw (here s i h, ne_eqb _ _ f) (longer_first (get_or s i 0) (cut c (drop (i + 1) s)))

  pub count_stop : get_or s i 0 ≡ c → length (cut c (drop i s)) ≡ suc (length (cut c (drop (i + 1) s)))
  unfolding cut
  count_stop e = rw (here s i h, eq-eqb _ _ e)

  pub count_step : (get_or s i 0 ≡ c → ⊥) → length (cut c (drop i s)) ≡ length (cut c (drop (i + 1) s))
  unfolding cut
  count_step f = rw (here s i h, ne_eqb _ _ f) (longer_length (get_or s i 0) (cut c (drop (i + 1) s)) (some_piece c (drop (i + 1) s)))

pub count_end : (c : ℕ) (s : List ℕ) (i : ℕ) → length s ≤ i → length (cut c (drop i s)) ≡ 1
unfolding cut
count_end c s i h = rw (drop_of_length-le s h)

pub piece_none : (c : ℕ) (s : List ℕ) (i : ℕ) → length s ≤ i → piece_at c s i ≡ []
unfolding piece_at cut
piece_none c s i h = rw (drop_of_length-le s h)

-- the piece from a place to its end
module _ (c : ℕ) (s : List ℕ) (from end : ℕ) (inside : from ≤ length s) (is : end ≡ from + length (piece_at c s from)) where
  pub piece_inside : end ≤ length s
  unfolding piece_at
  piece_inside = omega (arith, first_le c (drop from s), length-drop from s)

  pub piece_part : take (end - from) (drop from s) ≡ piece_at c s from
  unfolding piece_at
  piece_part = rw (is, add-sub_cancel_left) (first_take c (drop from s))

  pub pieces_more : end < length s → cut c (drop from s) ≡ piece_at c s from ∷ cut c (drop (end + 1) s)
  unfolding piece_at
  pieces_more h =
      let p : length (get_or (cut c (drop from s)) 0 []) < length (drop from s) = omega (arith, length-drop from s) in
      let q : from + suc (length (get_or (cut c (drop from s)) 0 [])) ≡ end + 1 = omega arith in
      first_more c (drop from s) p
      ∙ ap (λ (l : List ℕ). first (cut c (drop from s)) ∷ cut c l) (drop-drop _ from s ∙ ap (λ (k : ℕ). drop k s) q)

  pub pieces_last : length s ≤ end → cut c (drop from s) ≡ piece_at c s from ∷ []
  unfolding piece_at
  pieces_last h = first_last c (drop from s) (omega (arith, length-drop from s))

-- k bytes of a piece
pub piece_on : (c : ℕ) (s : List ℕ) (from k : ℕ) → k ≤ length (piece_at c s from) → length (piece_at c s from) ≡ k + length (piece_at c s (from + k))
unfolding piece_at
piece_on c s from k h = first_on c k (drop from s) h ∙ ap (λ (l : List ℕ). k + length (first (cut c l))) (drop-drop k from s)

-- a part without c is passed over
passed : (c : ℕ) (l r : List ℕ) → all (λ b. not (eqb b c)) l ≡ true → length (first (cut c (l ++ r))) ≡ length l + length (first (cut c r))
unfolding all cut
passed c [] r h = omega arith
passed c (b ∷ l) r h =
    let (k, j) = and_both (not (eqb b c)) (all (λ x. not (eqb x c)) l) h in
    rw (other (eqb b c) k) (omega (arith, ap length (longer_first b (cut c (l ++ r))), passed c l r j))
  where
    other : (x : Bool) → not x ≡ true → x ≡ false
    other true h = sym h
    other false h = refl

module _ (s l r : List ℕ) (from : ℕ) (e : drop from s ≡ l ++ r) where
  pub part_on : drop (from + length l) s ≡ r
  part_on = sym (drop-drop (length l) from s) ∙ ap (drop (length l)) e ∙ drop-append_seam l r

  pub part_inside : from ≤ length s → from + length l ≤ length s
  part_inside h = omega (arith, length-drop from s, ap length e, length-append l r)

  pub part_passed : (c : ℕ) → all (λ b. not (eqb b c)) l ≡ true → length (piece_at c s from) ≡ length l + length (piece_at c s (from + length l))
  unfolding piece_at
  part_passed c h = rw (e, part_on) (passed c l r h)
