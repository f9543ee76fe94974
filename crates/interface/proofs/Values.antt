-- What is written for a name and for a pair: its bytes, its length, its form, and the pair read back.
use mathlib.Core.Path.{◌≡◌, refl, sym, ap, ◌∙◌, subst}
use mathlib.Core.Bool.{Bool, true, false, not, cond, ◌&&◌, ◌||◌}
use mathlib.Core.Logic.{◌⊎◌, inl, inr, ⊎_elim}
use mathlib.Core.List.{List, [], ◌∷◌, ◌++◌, append-nil}
use Prim.Native.Nat.{ℕ, zero, suc, ◌+◌, ◌/◌, ◌%◌, ◌≤◌, ◌<◌, ◌*◌, ◌^◌}
use native.Mathlib.Omega.{arith}
use native.Mathlib.Decide.{dec_le}
use borrow.Author.Tests.{ne_eqb}
use lib.Dec.{T, eqb, eqb→eq, leb, leb→le, le→leb, not_T}
use lib.IntN.{ℤ, pos, negsuc, neg_ℤ}
use lib.ListN.{length, length-append, get_or}
use Rattle.lists.specs.Lists.{all}
use Rattle.lists.proofs.Tests.{and_T, T_and, T_true, true_T, T_false, or_T, T_or_left, T_or_right, T_or_not, eqb_no}
use Rattle.lists.proofs.Lists.{no_length, in_all, all_in}
use Rattle.integers.specs.Range.{Within}
use Rattle.integers.proofs.Linear.{up, dn}
use Rattle.integers.proofs.Range.{up_le, dn_le, within}
use Rattle.pairs.specs.declared.Carried.{Carried}
use Rattle.pairs.specs.declared.Carried.TheVariants.{Scored, Unscored}
use Rattle.pairs.specs.Pairs.{number_for, list_number, carried}
use Rattle.pairs.proofs.Pairs.{number_carried}
use Rattle.clusters.specs.PairList.{one_point, is_allowed_pair}
use Rattle.clusters.proofs.Scored.{allowed_within}
use Rattle.interface.specs.Sheet.{
  line_feed,
  space,
  minus,
  point,
  is_upper,
  is_digit,
  is_name,
  is_numeral,
  whole_part,
  fraction,
  half_text,
  has_half,
  is_whole_or_half,
  is_points,
  is_value,
  is_lone_minus,
  is_cell,
  digit_value,
  number_from,
  half_points,
  value_of,
  pair_said,
  same_bytes,
}
use Rattle.interface.specs.Listing.{decimal, points_text, signed_points, is_decimal, is_index, decimal_from, digit}
use Rattle.interface.specs.SheetText.{pair_text}
use Rattle.interface.specs.Refusals.{is_allowed}
use Rattle.interface.proofs.Pieces.{free, all_free, all_append, same_bytes_lem}
use Rattle.interface.proofs.Digits.{length_decimal, decimal_some, decimal_least}
use Rattle.interface.proofs.Numerals.{decimal_run, decimal_form, decimal_back}
use Rattle.interface.proofs.Points.{ending, ending_short, ended, odd, points_parts, points_whole, points_well, read_points, index_back, half_number}

-- a byte of a name or of a pair: those of check 3 but the space and the line feed
is_plain : ℕ → Bool
is_plain b = is_upper b || is_digit b || eqb b minus || eqb b point

-- some such bytes, and how many at most
pub record Word (most : ℕ) (w : List ℕ) : Type 0 where
  plain : T (all is_plain w)
  pub short : length w ≤ most

module _ {most : ℕ} {w : List ℕ} (is : Word most w) where
  -- check 3 allows its bytes, and none is a space or a line feed
  pub word_allowed : T (all is_allowed w)
  unfolding is_allowed is_plain
  word_allowed = in_all is_allowed w λ b m.
      T_or_left (is_plain b || eqb b space) (eqb b line_feed) (T_or_left (is_plain b) (eqb b space) (all_in is_plain w is.plain m))

  pub word_no_space : free space w
  unfolding is_plain is_upper is_digit
  word_no_space = all_free is_plain space tt w is.plain

  pub word_no_feed : free line_feed w
  unfolding is_plain is_upper is_digit
  word_no_feed = all_free is_plain line_feed tt w is.plain

-- a well-formed name
name_plain : (b : ℕ) → T (is_upper b || is_digit b) → T (is_plain b)
unfolding is_plain
name_plain b t = T_or_left (is_upper b || is_digit b || eqb b minus) (eqb b point) (T_or_left (is_upper b || is_digit b) (eqb b minus) t)

pub name_word : (w : List ℕ) → T (is_name w) → Word 8 w
unfolding is_name is_plain all
name_word [] t = absurd t
name_word (b ∷ w) t =
    let test : ℕ → Bool = λ c. is_upper c || is_digit c in
    let (front, few) = and_T (is_upper b && all test w) (leb (length w) 7) t in
    let (u, r) = and_T (is_upper b) (all test w) front in
    record {
      plain = T_and (is_plain b) (all is_plain w) (name_plain b (T_or_left (is_upper b) (is_digit b) u)) (in_all is_plain w (λ c m. name_plain c (all_in test w r m)));
      short = omega (arith, leb→le (length w) 7 few);
    }

digits_plain : (w : List ℕ) → T (all is_digit w) → T (all is_plain w)
digits_plain w t = in_all is_plain w λ b m. name_plain b (T_or_right (is_upper b) (is_digit b) (all_in is_digit w t m))

ending_plain : (h : Bool) → T (all is_plain (ending h))
unfolding is_plain is_upper is_digit all half_text
ending_plain true = tt
ending_plain false = tt

-- a well-formed cell: a minus, 7 digits and `.5` at most
minus_plain : (b : ℕ) → T (eqb b minus) → T (is_plain b)
unfolding is_plain
minus_plain b t = T_or_left (is_upper b || is_digit b || eqb b minus) (eqb b point) (T_or_right (is_upper b || is_digit b) (eqb b minus) t)

-- a numeral is decimal
pub numeral_parts : (w : List ℕ) → T (is_numeral w) → T (all is_digit w) × T (is_decimal w) × (length w ≤ 7)
unfolding is_numeral is_decimal
numeral_parts [] t = absurd t
numeral_parts (b ∷ w) t =
    let run = all is_digit (b ∷ w) in
    let lead = not (eqb b 48) || eqb (length w) 0 in
    let (front, l) = and_T (run && leb (length w) 6) lead t in
    let (r, few) = and_T run (leb (length w) 6) front in
    (r, T_and run lead r l, omega (arith, leb→le (length w) 6 few))

points_word : (w : List ℕ) → T (is_points w) → Word 9 w
unfolding is_points
points_word w t =
    let (n, h) = and_T (is_numeral (whole_part w)) (is_whole_or_half w) t in
    let (run, _, few) = numeral_parts (whole_part w) n in
    let e = ended w h in
    record {
      plain = subst (λ (v : List ℕ). T (all is_plain v)) e
          (all_append is_plain (whole_part w) (ending (has_half w)) (digits_plain (whole_part w) run) (ending_plain (has_half w)));
      short = omega (arith, few, ap length e, length-append (whole_part w) (ending (has_half w)), ending_short (has_half w));
    }

value_word : (w : List ℕ) → T (is_value w) → Word 10 w
unfolding is_value all
value_word [] t = absurd t
value_word (b ∷ w) t = go (eqb b minus) refl t
  where
    go : (x : Bool) → eqb b minus ≡ x → T (cond x (is_points w && not (same_bytes w (48 ∷ []))) (is_points (b ∷ w))) → Word 10 (b ∷ w)
    go true e t =
        let r = points_word w (and_T (is_points w) (not (same_bytes w (48 ∷ []))) t).0 in
        record { plain = T_and (is_plain b) (all is_plain w) (minus_plain b (true_T e)) r.plain; short = omega (arith, r.short) }
    go false e t = let r = points_word (b ∷ w) t in record { plain = r.plain; short = omega (arith, r.short) }

pub cell_word : (w : List ℕ) → T (is_cell w) → Word 10 w
unfolding is_cell is_lone_minus all
cell_word w t = ⊎_elim (lone w) (value_word w) (or_T (is_lone_minus w) (is_value w) t)
  where
    lone : (v : List ℕ) → T (is_lone_minus v) → Word 10 v
    lone [] t = absurd t
    lone (b ∷ v) t =
        let (m, l) = and_T (eqb b minus) (eqb (length v) 0) t in
        let none = no_length v (eqb→eq (length v) 0 l) in
        record {
          plain = T_and (is_plain b) (all is_plain v) (minus_plain b m) (subst (λ (u : List ℕ). T (all is_plain u)) (sym none) tt);
          short = omega (arith, ap length none);
        }

-- a text that does not start with a minus: its form, what it stands for, and that it is not the mark
pub plain_test : (w : List ℕ) → eqb (get_or w 0 0) minus ≡ false → is_value w ≡ is_points w
unfolding is_value is_points whole_part is_numeral
plain_test [] e = refl
plain_test (b ∷ w) e = rw e

pub plain_value : (w : List ℕ) → eqb (get_or w 0 0) minus ≡ false → value_of w ≡ pos (half_points w)
unfolding value_of half_points whole_part has_half fraction half_text same_bytes number_from one_point
plain_value [] e = refl
plain_value (b ∷ w) e = rw e

pub plain_lone : (w : List ℕ) → eqb (get_or w 0 0) minus ≡ false → is_lone_minus w ≡ false
unfolding is_lone_minus
plain_lone [] e = refl
plain_lone (b ∷ w) e = rw e

-- a number in points is such a text
digits_first : (w v : List ℕ) → 0 < length w → T (all is_digit w) → eqb (get_or (w ++ v) 0 0) minus ≡ false
unfolding all is_digit
digits_first [] v h t = absurd (omega arith)
digits_first (b ∷ w) v h t =
    let low = (and_T (leb 48 b) (leb b 57) (and_T (is_digit b) (all is_digit w) t).0).0 in
    ne_eqb b minus (λ e. omega (arith, leb→le 48 b low))

points_first : (k : ℕ) → eqb (get_or (points_text k) 0 0) minus ≡ false
points_first k =
    let n = k / one_point in
    ap (λ (w : List ℕ). eqb (get_or w 0 0) minus) (points_parts k) ∙ digits_first (decimal n) (ending (odd k)) (decimal_some n) (decimal_run n)

points_some : (k : ℕ) → 0 < length (points_text k)
points_some k = let n = k / one_point in omega (arith, ap length (points_parts k), length-append (decimal n) (ending (odd k)), decimal_some n)

-- a number in points with its sign is not the mark, and is read back
pub signed_lone : (z : ℤ) → is_lone_minus (signed_points z) ≡ false
unfolding is_lone_minus signed_points
signed_lone (pos k) = plain_lone (points_text k) (points_first k)
signed_lone (negsuc k) = ne_eqb (length (points_text (suc k))) 0 (λ e. omega (arith, points_some (suc k)))

pub read_signed : (z : ℤ) → value_of (signed_points z) ≡ z
unfolding value_of signed_points
read_signed (pos k) = plain_value (points_text k) (points_first k) ∙ ap pos (read_points k)
read_signed (negsuc k) = ap (λ (m : ℕ). neg_ℤ (pos m)) (read_points (suc k))

-- what is written for a pair is read back
pub read_pair_lem : (c : Carried) → (pair_said (pair_text c)).carries ≡ c
unfolding pair_said pair_text is_lone_minus
read_pair_lem (Scored z) = rw (signed_lone z, read_signed z)
read_pair_lem Unscored = refl

pub read_number_lem : (z : ℤ) → list_number (pair_said (pair_text (carried z))) ≡ z
unfolding list_number
read_number_lem z = ap number_for (read_pair_lem (carried z)) ∙ number_carried z

-- the form of a number of at most 7 digits
short_decimal : (w : List ℕ) → T (is_decimal w) → length w ≤ 7 → T (is_numeral w)
unfolding is_decimal is_numeral
short_decimal [] t h = absurd t
short_decimal (b ∷ w) t h =
    let run = all is_digit (b ∷ w) in
    let lead = not (eqb b 48) || eqb (length w) 0 in
    let (r, l) = and_T run lead t in
    T_and (run && leb (length w) 6) lead (T_and run (leb (length w) 6) r (le→leb (length w) 6 (omega arith))) l

decimal_numeral : (n : ℕ) → n < 10000000 → T (is_numeral (decimal n))
decimal_numeral n h = short_decimal (decimal n) (decimal_form n) (length_decimal 6 n h)

-- at most 19,999,999 half points have at most 7 digits before the point
points_value : (k : ℕ) → k < 20000000 → T (is_points (points_text k))
unfolding is_points one_point
points_value k h = T_and (is_numeral (whole_part (points_text k))) (is_whole_or_half (points_text k))
    (subst (λ (w : List ℕ). T (is_numeral w)) (sym (points_whole k)) (decimal_numeral (k / 2) (omega arith))) (points_well k)

-- only nothing is written `0`
points_zero : (k : ℕ) → 0 < k → T (not (same_bytes (points_text k) (48 ∷ [])))
unfolding half_points whole_part has_half fraction half_text same_bytes number_from digit_value is_digit one_point
points_zero k h = not_T (same_bytes (points_text k) (48 ∷ [])) λ t.
    let e : k ≡ 0 = sym (read_points k) ∙ ap half_points (same_bytes_lem (points_text k) (48 ∷ []) t) in omega (arith, e)

pub value_form : {k : ℕ} (z : ℤ) → k < 20000000 → Within k z → T (is_value (signed_points z))
unfolding is_value signed_points up dn
value_form (pos k) h i = true_T (plain_test (points_text k) (points_first k) ∙ T_true {b = is_points (points_text k)} (points_value k (omega (arith, up_le i))))
value_form (negsuc k) h i =
    let w = points_text (suc k) in
    T_and (is_points w) (not (same_bytes w (48 ∷ []))) (points_value (suc k) (omega (arith, dn_le i))) (points_zero (suc k) (omega arith))

pub pair_form : {k : ℕ} (c : Carried) → k < 20000000 → T (is_allowed_pair k c) → T (is_cell (pair_text c))
unfolding is_cell is_lone_minus pair_text
pair_form (Scored z) h t = let w = signed_points z in T_or_right (is_lone_minus w) (is_value w) (value_form z h (allowed_within t))
pair_form Unscored h t = tt

-- its bytes, and how many: 1,000,000 points have 7 digits, a half less has 6 and `.5`
points_plain : (k : ℕ) → T (all is_plain (points_text k))
points_plain k =
    let w = decimal (k / one_point) in
    subst (λ (w : List ℕ). T (all is_plain w)) (sym (points_parts k))
    (all_append is_plain w (ending (odd k)) (digits_plain w (decimal_run (k / one_point))) (ending_plain (odd k)))

points_short : (k : ℕ) → k ≤ 2000000 → length (points_text k) ≤ 8
unfolding one_point half_text
points_short k h = omega (arith, ap length (points_parts k), length-append (decimal (k / 2)) (ending (odd k)), go (T_or_not (eqb (k % 2) 0)))
  where
    go : T (eqb (k % 2) 0) ⊎ T (not (eqb (k % 2) 0)) → length (decimal (k / 2)) + length (ending (not (eqb (k % 2) 0))) ≤ 8
    go (inl e) = rw (T_true {b = eqb (k % 2) 0} e) (omega (arith, length_decimal 6 (k / 2) (omega arith)))
    go (inr e) = let f = eqb_no (k % 2) 0 e in rw (T_false {b = eqb (k % 2) 0} e) (omega (arith, length_decimal 5 (k / 2) (omega (arith, f))))

signed_word : {k : ℕ} (z : ℤ) → k ≤ 2000000 → Within k z → Word 9 (signed_points z)
unfolding signed_points all is_plain is_upper is_digit up dn
signed_word (pos k) h i = record { plain = points_plain k; short = omega (arith, points_short k (omega (arith, up_le i))) }
signed_word (negsuc k) h i = record { plain = points_plain (suc k); short = omega (arith, points_short (suc k) (omega (arith, dn_le i))) }

pub pair_word : {k : ℕ} (c : Carried) → k ≤ 2000000 → T (is_allowed_pair k c) → Word 9 (pair_text c)
unfolding pair_text all is_plain is_upper is_digit
pair_word (Scored z) h t = signed_word z h (allowed_within t)
pair_word Unscored h t = record { plain = tt; short = omega arith }

-- the mark, and a word that is not the mark
pub lone_word : (w : List ℕ) → T (is_lone_minus w) → w ≡ 45 ∷ []
unfolding is_lone_minus
lone_word [] t = absurd t
lone_word (b ∷ w) t =
    let (e, l) = and_T (eqb b 45) (eqb (length w) 0) t in
    ap (λ (c : ℕ). c ∷ w) (eqb→eq b 45 e) ∙ ap (λ (v : List ℕ). 45 ∷ v) (no_length w (eqb→eq (length w) 0 l))

pub said_value : (w : List ℕ) → T (not (is_lone_minus w)) → list_number (pair_said w) ≡ value_of w
unfolding list_number pair_said number_for
said_value w t = rw (T_false {b = is_lone_minus w} t)

-- whole points and a half more, or none, without a sign
pub even_text : (n : ℕ) → points_text (n + n) ≡ decimal n
unfolding one_point
even_text n = let e : n + n ≡ n * 2 + 0 = omega arith in ap points_text e ∙ half_number n false ∙ append-nil (decimal n)

pub odd_text : (n : ℕ) → points_text (n + n + 1) ≡ decimal n ++ half_text
unfolding one_point
odd_text n = let e : n + n + 1 ≡ n * 2 + 1 = omega arith in ap points_text e ∙ half_number n true

-- a numeral is below 10,000,000
numeral_small : (w : List ℕ) → T (is_numeral w) → number_from 10 0 w < 10000000
numeral_small w t = go (dec_le (10 ^ 7) (number_from 10 0 w))
  where
    go : Dec (10 ^ 7 ≤ number_from 10 0 w) → number_from 10 0 w < 10000000
    go (yes h) = let (_, d, few) = numeral_parts w t in absurd (omega (arith, decimal_least 7 (number_from 10 0 w) h, ap length (decimal_back w d)))
    go (no f) = omega arith

-- a value without its sign is what is written for its half points, fewer than 20,000,000
points_index : (w : List ℕ) → T (is_points w) → T (is_index w)
unfolding is_points is_index
points_index w t =
    let (n, e) = and_T (is_numeral (whole_part w)) (is_whole_or_half w) t in
    T_and (is_decimal (whole_part w)) (is_whole_or_half w) (numeral_parts (whole_part w) n).1 e

pub points_back : (w : List ℕ) → T (is_points w) → points_text (half_points w) ≡ w
points_back w t = index_back w (points_index w t)

points_small : (w : List ℕ) → T (is_points w) → half_points w < 20000000
unfolding is_points half_points one_point
points_small w t =
    let n = numeral_small (whole_part w) (and_T (is_numeral (whole_part w)) (is_whole_or_half w) t).0 in
    omega (arith, one (has_half w))
  where
    one : (b : Bool) → cond b 1 0 ≤ 1
    one true = omega arith
    one false = omega arith

-- only `0` is written for nothing
zero_text : points_text 0 ≡ 48 ∷ []
unfolding decimal decimal_from digit
zero_text = even_text 0

pub only_zero : (w : List ℕ) → T (is_points w) → half_points w ≡ 0 → w ≡ 48 ∷ []
only_zero w t e = sym (points_back w t) ∙ ap points_text e ∙ zero_text

negative_back : (w : List ℕ) (k : ℕ) → half_points w ≡ k → T (is_points w) → T (not (same_bytes w (48 ∷ [])))
    → (signed_points (neg_ℤ (pos k)) ≡ minus ∷ w) × Within 19999999 (neg_ℤ (pos k))
unfolding signed_points up dn same_bytes
negative_back w zero e p n = absurd (subst (λ (v : List ℕ). T (not (same_bytes v (48 ∷ [])))) (only_zero w p e) n)
negative_back w (suc k) e p n = (
  ap (λ (v : List ℕ). minus ∷ v) (ap points_text (sym e) ∙ points_back w p),
  within (omega arith) (omega (arith, points_small w p)),
)

-- of a well-formed value
pub value_back : (w : List ℕ) → T (is_value w) → (signed_points (value_of w) ≡ w) × Within 19999999 (value_of w)
unfolding is_value value_of signed_points up dn
value_back [] t = absurd t
value_back (b ∷ w) t = go (eqb b minus) refl t
  where
    go : (x : Bool) → eqb b minus ≡ x → T (cond x (is_points w && not (same_bytes w (48 ∷ []))) (is_points (b ∷ w)))
        → let z = cond x (neg_ℤ (pos (half_points w))) (pos (half_points (b ∷ w))) in (signed_points z ≡ b ∷ w) × Within 19999999 z
    go true e t =
        let (p, n) = and_T (is_points w) (not (same_bytes w (48 ∷ []))) t in
        let (back, in_range_lem) = negative_back w (half_points w) refl p n in
        (back ∙ ap (λ (c : ℕ). c ∷ w) (sym (eqb→eq b minus (true_T e))), in_range_lem)
    go false e t = (points_back (b ∷ w) t, within (omega (arith, points_small (b ∷ w) t)) (omega arith))
