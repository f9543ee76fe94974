-- Half points written and read back: a word with a point, its whole part and what follows; a number of half points in points.
use mathlib.Core.Path.{◌≡◌, refl, sym, ap, ap₂, ◌∙◌, subst}
use mathlib.Core.Bool.{Bool, true, false, not, cond, ◌||◌}
use mathlib.Core.Logic.{◌⊎◌, inl, inr}
use mathlib.Core.List.{List, [], ◌∷◌, ◌++◌, append-nil}
use Prim.Native.Nat.{ℕ, ◌+◌, ◌*◌, ◌/◌, ◌%◌, ◌≤◌}
use native.Mathlib.Omega.{arith}
use lib.Dec.{T, eqb, eqb→eq, eqb_refl}
use lib.ListN.{length}
use Rattle.lists.specs.Lists.{all}
use Rattle.lists.proofs.Tests.{and_T, T_and, T_true, T_false, or_T, T_or_not, eqb_no}
use Rattle.clusters.specs.PairList.{one_point}
use Rattle.interface.specs.Sheet.{point, is_digit, whole_part, fraction, half_text, has_half, is_whole_or_half, number_from, half_points, same_bytes}
use Rattle.interface.specs.Listing.{decimal, points_text, is_decimal, is_index}
use Rattle.interface.proofs.Pieces.{free, all_free, same_bytes_lem}
use Rattle.interface.proofs.Numerals.{decimal_run, decimal_form, read_decimal, decimal_back}

-- bytes without a point in front: they belong to the whole part
module _ (v : List ℕ) where
  pub whole_front : (u : List ℕ) → free point u → whole_part (u ++ v) ≡ u ++ whole_part v
  unfolding whole_part all
  whole_front [] f = refl
  whole_front (b ∷ u) f =
      let (h, r) = and_T (not (eqb b point)) (all (λ b. not (eqb b point)) u) f in
      rw (T_false {b = eqb b point} h) (ap (λ (l : List ℕ). b ∷ l) (whole_front u r))

  pub fraction_front : (u : List ℕ) → free point u → fraction (u ++ v) ≡ fraction v
  unfolding fraction all
  fraction_front [] f = refl
  fraction_front (b ∷ u) f =
      let (h, r) = and_T (not (eqb b point)) (all (λ b. not (eqb b point)) u) f in
      rw (T_false {b = eqb b point} h) (fraction_front u r)

-- the two parts are the word
pub parts : (w : List ℕ) → whole_part w ++ fraction w ≡ w
unfolding whole_part fraction
parts [] = refl
parts (b ∷ w) = go (eqb b point) (parts w)
  where
    go : (x : Bool) → whole_part w ++ fraction w ≡ w → cond x [] (b ∷ whole_part w) ++ cond x (b ∷ w) (fraction w) ≡ b ∷ w
    go true e = refl
    go false e = ap (λ (l : List ℕ). b ∷ l) e

-- what stands behind the digits: nothing, or `.5`
abbrev pub ending : Bool → List ℕ
ending h = cond h half_text []

pub ending_short : (h : Bool) → length (ending h) ≤ 2
unfolding half_text
ending_short true = omega arith
ending_short false = omega arith

-- a word without a point, or with `.5`, is its whole part and its ending
ending_none : (l : List ℕ) → length l ≡ 0 → ending (same_bytes l half_text) ≡ l
unfolding same_bytes half_text
ending_none [] e = refl
ending_none (b ∷ l) e = absurd (omega arith)

pub ended : (w : List ℕ) → T (is_whole_or_half w) → whole_part w ++ ending (has_half w) ≡ w
unfolding is_whole_or_half has_half
ended w t = ap (λ (l : List ℕ). whole_part w ++ l) (go (or_T (eqb (length (fraction w)) 0) (same_bytes (fraction w) half_text) t)) ∙ parts w
  where
    go : T (eqb (length (fraction w)) 0) ⊎ T (same_bytes (fraction w) half_text) → ending (same_bytes (fraction w) half_text) ≡ fraction w
    go (inl e) = ending_none (fraction w) (eqb→eq (length (fraction w)) 0 e)
    go (inr e) = ap ending (T_true {b = same_bytes (fraction w) half_text} e) ∙ sym (same_bytes_lem (fraction w) half_text e)

pub digits_free : (w : List ℕ) → T (all is_digit w) → free point w
unfolding is_digit
digits_free w t = all_free is_digit point tt w t

same_self : (w : List ℕ) → T (same_bytes w w)
unfolding same_bytes
same_self [] = tt
same_self (b ∷ w) = T_and (eqb b b) (same_bytes w w) (eqb_refl b) (same_self w)

-- bytes without a point, and an ending
module _ (u : List ℕ) (f : free point u) where
  pub ended_whole : (h : Bool) → whole_part (u ++ ending h) ≡ u
  unfolding whole_part half_text
  ended_whole true = whole_front half_text u f ∙ append-nil u
  ended_whole false = whole_front [] u f ∙ append-nil u

  ended_fraction : (h : Bool) → fraction (u ++ ending h) ≡ ending h
  unfolding fraction half_text
  ended_fraction true = fraction_front half_text u f
  ended_fraction false = fraction_front [] u f

  pub ended_half : (h : Bool) → has_half (u ++ ending h) ≡ h
  unfolding has_half same_bytes half_text
  ended_half h = ap (λ (t : List ℕ). same_bytes t half_text) (ended_fraction h) ∙ go h
    where
      go : (h : Bool) → same_bytes (ending h) half_text ≡ h
      go true = refl
      go false = refl

  pub ended_well : (h : Bool) → T (is_whole_or_half (u ++ ending h))
  unfolding is_whole_or_half has_half same_bytes half_text
  ended_well h = subst (λ (t : List ℕ). T (eqb (length t) 0 || same_bytes t half_text)) (sym (ended_fraction h)) (go h)
    where
      go : (h : Bool) → T (eqb (length (ending h)) 0 || same_bytes (ending h) half_text)
      go true = tt
      go false = tt

  pub ended_points : (h : Bool) → half_points (u ++ ending h) ≡ number_from 10 0 u * one_point + cond h 1 0
  unfolding half_points
  ended_points h = ap₂ (λ (w : List ℕ) (x : Bool). number_from 10 0 w * one_point + cond x 1 0) (ended_whole h) (ended_half h)

-- a number of half points: its whole points, and whether one half more
abbrev pub odd : ℕ → Bool
odd k = not (eqb (k % one_point) 0)

pub points_parts : (k : ℕ) → points_text k ≡ decimal (k / one_point) ++ ending (odd k)
unfolding points_text
points_parts k = ap (λ (l : List ℕ). decimal (k / one_point) ++ l) (go (eqb (k % one_point) 0))
  where
    go : (x : Bool) → cond x [] half_text ≡ cond (not x) half_text []
    go true = refl
    go false = refl

decimal_free : (n : ℕ) → free point (decimal n)
decimal_free n = digits_free (decimal n) (decimal_run n)

halved : (k : ℕ) → (k / one_point) * one_point + cond (odd k) 1 0 ≡ k
unfolding one_point
halved k = go (T_or_not (eqb (k % 2) 0))
  where
    go : T (eqb (k % 2) 0) ⊎ T (not (eqb (k % 2) 0)) → (k / 2) * 2 + cond (not (eqb (k % 2) 0)) 1 0 ≡ k
    go (inl e) = rw (T_true {b = eqb (k % 2) 0} e) (omega (arith, eqb→eq (k % 2) 0 e))
    go (inr e) = let f = eqb_no (k % 2) 0 e in rw (T_false {b = eqb (k % 2) 0} e) (omega (arith, f))

-- it is read back, of the form of an index and of a value; and back again
pub read_points : (k : ℕ) → half_points (points_text k) ≡ k
read_points k =
    ap half_points (points_parts k) ∙ ended_points (decimal (k / one_point)) (decimal_free (k / one_point)) (odd k)
    ∙ ap (λ (m : ℕ). m * one_point + cond (odd k) 1 0) (read_decimal (k / one_point)) ∙ halved k

module _ (k : ℕ) where
  pub points_whole : whole_part (points_text k) ≡ decimal (k / one_point)
  points_whole = ap whole_part (points_parts k) ∙ ended_whole (decimal (k / one_point)) (decimal_free (k / one_point)) (odd k)

  pub points_well : T (is_whole_or_half (points_text k))
  points_well = subst (λ (w : List ℕ). T (is_whole_or_half w)) (sym (points_parts k)) (ended_well (decimal (k / one_point)) (decimal_free (k / one_point)) (odd k))

  pub index_form : T (is_index (points_text k))
  unfolding is_index
  index_form = T_and (is_decimal (whole_part (points_text k))) (is_whole_or_half (points_text k))
      (subst (λ (w : List ℕ). T (is_decimal w)) (sym points_whole) (decimal_form (k / one_point))) points_well

-- the number of whole points and a half, or none
pub half_number : (n : ℕ) (h : Bool) → points_text (n * one_point + cond h 1 0) ≡ decimal n ++ ending h
unfolding one_point
half_number n true =
    let q : (n * 2 + 1) / 2 ≡ n = omega arith in
    let r : (n * 2 + 1) % 2 ≡ 1 = omega arith in
    points_parts (n * 2 + 1) ∙ ap₂ (λ (i j : ℕ). decimal i ++ ending (not (eqb j 0))) q r
half_number n false =
    let q : (n * 2 + 0) / 2 ≡ n = omega arith in
    let r : (n * 2 + 0) % 2 ≡ 0 = omega arith in
    points_parts (n * 2 + 0) ∙ ap₂ (λ (i j : ℕ). decimal i ++ ending (not (eqb j 0))) q r

pub index_back : (w : List ℕ) → T (is_index w) → points_text (half_points w) ≡ w
unfolding is_index half_points
index_back w t =
    let (d, e) = and_T (is_decimal (whole_part w)) (is_whole_or_half w) t in
    half_number (number_from 10 0 (whole_part w)) (has_half w) ∙ ap (λ (l : List ℕ). l ++ ending (has_half w)) (decimal_back (whole_part w) d) ∙ ended w e
