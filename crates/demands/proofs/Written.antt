-- What the calls write, and what they do not touch.
use mathlib.Core.Path.{◌≡◌, refl, sym, ap, ◌∙◌, ap₂, subst}
use mathlib.Core.Bool.{Bool, not, cond, ◌&&◌, ◌||◌}
use mathlib.Core.Logic.{inl, inr, ◌⊎◌}
use mathlib.Core.Option.{some}
use mathlib.Core.List.Memᴰ
use mathlib.Core.List.{List, [], ◌∷◌, ◌++◌}
use Prim.Native.Nat.{ℕ, zero, suc, ◌+◌, ◌-◌, ◌*◌, ◌<◌, ◌≤◌, ◌/◌, ◌%◌, ◌^◌}
use native.Mathlib.Omega.{arith}
use lib.Dec.{T}
use lib.IntN.{ℤ, pos, ◌+ℤ◌, ◌-ℤ◌}
use lib.ListN.{length, length-append, length-map, length-replicate, get_or, drop, replicate, get_or-eq_default, get_or-append}
use Rattle.lists.specs.Lists.{◌∈◌, below, each, all}
use Rattle.lists.proofs.Lists.{lt_below, all_in}
use Rattle.lists.proofs.Written.{get_d_padded}
use Rattle.lists.proofs.Tests.{and_T, T_true, T_false, or_none}
use Rattle.integers.specs.Integers.{eq_z, half, even}
use Rattle.integers.proofs.Linear.{zarith, +at, -at}
use Rattle.integers.proofs.Halves.{half_twice, even_half}
use Rattle.pairs.specs.Pairs.{mark, carried, pair_of}
use Rattle.pairs.proofs.Pairs.{marked, unmarked}
use Rattle.clusters.specs.PairList.{Similarity, pair_list, row_start, score, place, has_length, in_range, are_distances}
use Rattle.clusters.specs.Groups.{kind_of}
use Rattle.clusters.specs.declared.Group.{Group}
use Rattle.clusters.specs.Farris.{distances_back, unfarris, farris, is_anchored, anchored_scores}
use Rattle.clusters.proofs.PairList.{row_lt, pair_list_at, length_pair_list, score_symm, score_row}
use Rattle.clusters.proofs.Theorems.{groups_most}
use Rattle.answers.specs.Answers.{number_of, Answer, Answered, slots, filled}
use Rattle.interface.specs.Sheet.{entries, value, pairs, line_feed}
use Rattle.interface.specs.Listing.{groups_found, Line, digit, digits, hexadecimal, decimal, signed_points, line_text, first_text, first_line, listing, listing_read}
use Rattle.interface.specs.Refusals.{numbers_refusal, most_entries, wrong_anchor, short_slice, not_anchored, back_checks, back_refusal}
use Rattle.interface.specs.Calls.{sets_found, indices_found, BackCall, is_pair, score_among, pair_among}
use Rattle.demands.specs.Demands.{Listed}
use Rattle.demands.specs.Sentences.{OtherLength, NoEntries, lower, FewerThan2n}
use Rattle.demands.specs.Tables.{NoneGiven, numbers_table}
use Rattle.demands.specs.Written.{Beyond, HexSays, no_digit, one_more_digit, LineSays, LinesSay, no_line, one_line, ListingSays, Carries, Written}
use Rattle.interface.proofs.Anchored.{length_anchored}
use Rattle.demands.proofs.Demands.{lines, lines_are, readable, lines_read, merged_slots}
use Rattle.demands.proofs.TurnedAway.{turned_away}
use Rattle.interface.proofs.Refusals.{under, passes}
use Rattle.interface.proofs.Outcomes.{after_is, dropped, not_refused, counted}
use Rattle.interface.proofs.Digits.{ten, length_digits}
use Rattle.interface.proofs.Numerals.{low_digit, high_digit}
use Rattle.demands.proofs.InPoints.{written_says, decimal_said}
use Rattle.interface.proofs.Accepted.{not_not}
use Rattle.demands.proofs.Agree.{Under, denied_under, Says, and_says, not_says, eq_says, le_says, lt_says}

-- a call whose checks give k, which answers c and writes a result: nothing beyond it is touched
beyond : {A : Type 0} {r : Answer} (k c : ℕ) (result lent : List A) {after : List A} → Answered k c r → after ≡ slots k result lent
    → (z : number_of r ≡ 0) → {m : ℕ} → length result ≡ m → Beyond m lent after
beyond k c result lent e w z long = dropped (not_refused k c e z) result lent w long

-- a call that writes the pair list of s and is not refused
pub at_row : (n : ℕ) (s : Similarity) (lent : List ℤ) (k c : ℕ) {r : Answer} {after : List ℤ} → Answered k c r → number_of r ≡ 0
    → after ≡ slots k (pair_list n s) lent → (i j : ℕ) → i < n → j ≤ i → lower after i j ≡ s i j
unfolding row_start
at_row n s lent k c e none w i j h below =
    ap (λ l. get_or l (row_start i + j) (pos 0)) (after_is (not_refused k c e none) (pair_list n s) lent w)
    ∙ get_or-append (pair_list n s) (drop (length (pair_list n s)) lent) (pos 0) (row_start i + j)
    (omega (arith, length_pair_list n s, row_lt n i j h below))
    ∙ pair_list_at n s i j h below

-- a slice that is filled with 0
module _ {A : Type 0} (nil : A) (k : ℕ) (result lent : List A) {after : List A} (w : after ≡ filled nil k result lent) where
  module _ (z : k ≡ 0) (room : length result ≤ length lent) where
    full : after ≡ result ++ replicate (length lent - length result) nil
    unfolding filled
    full = w ∙ ap (λ (j : ℕ). filled nil j result lent) z

    filled_long : length after ≡ length lent
    filled_long = ap length full ∙ length-append result (replicate (length lent - length result) nil) ∙ omega (arith, length-replicate (length lent - length result) nil)

    filled_nil : (j : ℕ) → length result ≤ j → get_or after j nil ≡ nil
    filled_nil j h = ap (λ (l : List A). get_or l j nil) full ∙ get_d_padded nil result (length lent - length result) j ∙ get_or-eq_default result nil h

hex_byte : (d : ℕ) → d < 16 → ((d < 10) × (digit d ≡ 48 + d)) ⊎ ((10 ≤ d) × (d < 16) × (digit d ≡ 87 + d))
hex_byte d h = go (ten d)
  where
    go : (d < 10) ⊎ (10 ≤ d) → ((d < 10) × (digit d ≡ 48 + d)) ⊎ ((10 ≤ d) × (d < 16) × (digit d ≡ 87 + d))
    go (inl l) = inl (l, low_digit d l)
    go (inr l) = inr (l, h, high_digit d l)

hex_says : (k A : ℕ) → A < 16 ^ k → HexSays (digits 16 k A) A
unfolding digits
hex_says zero A h = let z : 0 ≡ A = omega arith in subst (HexSays []) z no_digit
hex_says (suc k) A h =
    let e : 16 * (A / 16) + A % 16 ≡ A = omega arith in
    subst (HexSays (digits 16 k (A / 16) ++ (digit (A % 16) ∷ []))) e
    (one_more_digit (hex_says k (A / 16) (omega arith)) (A % 16) (digit (A % 16)) (hex_byte (A % 16) (omega arith)))

line_says : (l : Line) → l.set < 16 ^ 8 → LineSays (line_text l) l
unfolding line_text hexadecimal
line_says l h = record {
  set_bytes = hexadecimal l.set;
  size_bytes = decimal l.size;
  index_bytes = signed_points l.index;
  are = refl;
  eight = length_digits 16 8 l.set;
  set = hex_says 8 l.set h;
  size = decimal_said l.size;
  index = written_says l.index;
}

lines_say : (ls : List Line) → ((l : Line) → l ∈ ls → l.set < 16 ^ 8) → LinesSay (each ls (λ l. line_text l ++ (line_feed ∷ []))) ls
unfolding each
lines_say [] f = no_line
lines_say (l ∷ ls) f = one_line (line_says l (f l (Memᴰ.head refl))) (lines_say ls (λ x m. f x (Memᴰ.tail m)))

listing_says : (ls : List Line) → ((l : Line) → l ∈ ls → l.set < 16 ^ 8) → ListingSays (listing ls) ls
unfolding listing first_line first_text
listing_says ls f = record { rest = each ls (λ l. line_text l ++ (line_feed ∷ [])); are = refl; lines = lines_say ls f }

-- the lines of a sheet that is listed
says_lines : {kind : ℤ} {sheet bytes : List ℕ} → Listed kind sheet bytes → (ls : List Line) × ListingSays bytes ls × (listing_read bytes ≡ some ls)
says_lines x = (
  lines x,
  subst (λ (b : List ℕ). ListingSays b (lines x)) (sym (lines_are x)) (listing_says (lines x) (λ l m. (readable x l m).fits)),
  lines_read x,
)

-- half of a sum of doubled numbers
whole_half : (p q s h k : ℤ) → h +ℤ h ≡ p → k +ℤ k ≡ q → half (p +ℤ q -ℤ (s +ℤ s)) +ℤ half (p +ℤ q -ℤ (s +ℤ s)) ≡ p +ℤ q -ℤ (s +ℤ s)
whole_half p q s h k e f =
    let w = h +ℤ k -ℤ s in
    let twice : p +ℤ q -ℤ (s +ℤ s) ≡ w +ℤ w =
    omega (zarith, +at h h, +at k k, +at p q, +at s s, -at (p +ℤ q) (s +ℤ s), +at h k, -at (h +ℤ k) s, +at w w) in
    ap (λ y. half y +ℤ half y) twice ∙ ap (λ y. y +ℤ y) (half_twice w) ∙ sym twice

-- the way back: the numbers halved are even
module _ {n x : ℕ} {l lent after : List ℤ} {r : Answer} (c : BackCall n x l lent r after) (z : number_of r ≡ 0) where
  is_anchored_lem : T (is_anchored n x l)
  unfolding back_refusal back_checks not_anchored under all
  is_anchored_lem =
      let e = not_refused (back_refusal n x l (length lent)) (row_start n) c.answered z in
      let t = passes 15 (back_checks n x l (length lent)) tt e in
      let (_, q) = or_none (wrong_anchor n x || short_slice (length lent) (row_start n)) (not (is_anchored n x l)) (T_false t) in
      not_not (is_anchored n x l) (subst (λ b. T (not b)) (sym q) tt)

  even_own : (a : ℕ) → a < n → T (even (score l a a))
  unfolding is_anchored
  even_own a h =
      let own : ℕ → Bool = λ a. eq_z (score l a x) (pos 0) && even (score l a a) in
      let (front, _) = and_T (all own (below n) && in_range (distances_back n l)) (are_distances n (distances_back n l)) is_anchored_lem in
      let (all_own, _) = and_T (all own (below n)) (in_range (distances_back n l)) front in
      (and_T (eq_z (score l a x) (pos 0)) (even (score l a a)) (all_in own (below n) all_own (lt_below n a h))).1

  doubled_back : (a b : ℕ) → a < n → b < n → unfarris (score l) a b +ℤ unfarris (score l) a b ≡ (score l a a +ℤ score l b b) -ℤ (score l a b +ℤ score l a b)
  unfolding unfarris
  doubled_back a b ha hb = whole_half (score l a a) (score l b b) (score l a b) (half (score l a a)) (half (score l b b))
      (even_half (score l a a) (even_own a ha)) (even_half (score l b b) (even_own b hb))

-- a score looked up
among_says : (n : ℕ) (l : List ℤ) (a b : ℕ) → Says (is_pair n l a b) ((((n ≤ 32) × (length l ≡ n * (n + 1) / 2)) × (a < n)) × (b < n))
unfolding is_pair most_entries has_length row_start
among_says n l a b = and_says (and_says (and_says (le_says n 32) (eq_says (length l) (row_start n))) (lt_says a n)) (lt_says b n)

carries : (z : ℤ) → Carries (pair_of z) z
unfolding pair_of mark
carries z = record { marked = marked; scored = unmarked }

-- what 13 leaves
enough : (kind : ℤ) (n : ℕ) (l : List ℤ) (sets indices : ℕ) → NoneGiven (numbers_table kind n l sets indices) → FewerThan2n n sets indices → ⊥
unfolding Under
enough kind n l sets indices x = denied_under 13 (numbers_table kind n l sets indices) x

pub written : Written
unfolding pairs row_start sets_found indices_found groups_found anchored_scores distances_back place score farris pair_among score_among pair_of carried eq_z mark
written = record {
  sheet = λ c z. beyond _ _ _ _ c.answered c.written z (sym (counted _ _ c.answered z));
  linkage = λ c z. beyond _ _ _ _ c.answered c.written z (merged_slots c z).long;
  anchored = λ {n} {x} {l} c z. beyond _ _ _ _ c.answered c.written z (length_anchored n x l ∙ sym (counted _ _ c.answered z));
  back = λ {n} {x} {l} c z. beyond _ _ _ _ c.answered c.written z (length_pair_list n (unfarris (score l)) ∙ sym (counted _ _ c.answered z));
  reader = λ {sheet} c z. (
    counted _ _ c.answered z,
    beyond _ _ _ _ c.answered c.written z (length_pair_list (entries sheet) (value sheet) ∙ ap row_start (sym (counted _ _ c.answered z))),
  );
  numbers = λ {kind} {n} {l} {lent_indices} {indices} {lent_sets} {sets} {r} c z.
      let k = numbers_refusal kind n l (length lent_sets) (length lent_indices) in
      let found = groups_found kind n l in
      let many = length found in
      let zero_is = not_refused k many c.answered z in
      let count = counted k many c.answered z in
      let few = enough kind n l (length lent_sets) (length lent_indices) ((turned_away.numbers_call c).taken.0 z) in
      let most = groups_most (kind_of kind) n (score l) (score_symm l) in
      let s : length (sets_found kind n l) ≡ many = length-map found (λ (g : Group). g.set) in
      let i : length (indices_found kind n l) ≡ many = length-map found (λ (g : Group). g.index) in
      let hs : length (sets_found kind n l) ≤ length lent_sets = room (λ h. few (inl h)) (omega arith) in
      let hi : length (indices_found kind n l) ≤ length lent_indices = room (λ h. few (inr h)) (omega arith) in (
        filled_long 0 k (sets_found kind n l) lent_sets c.sets_written zero_is hs,
        filled_long (pos 0) k (indices_found kind n l) lent_indices c.indices_written zero_is hi,
        λ j h. (
          filled_nil 0 k (sets_found kind n l) lent_sets c.sets_written zero_is hs j (omega arith),
          filled_nil (pos 0) k (indices_found kind n l) lent_indices c.indices_written zero_is hi j (omega arith),
        ),
      );
  listing = λ x. says_lines x;
  anchored_scores_lem = λ {n} {x} {l} {lent} c z i j h k. at_row n (farris (score l) x) lent _ _ c.answered z c.written i j h k;
  distances_back_lem = λ {n} {x} {l} {lent} c z i j h k.
      let e = at_row n (unfarris (score l)) lent _ _ c.answered z c.written i j h k in
      ap (λ y. y +ℤ y) e ∙ doubled_back c z i j h (omega arith)
      ∙ ap₂ (λ y w. y -ℤ (w +ℤ w)) (ap₂ ◌+ℤ◌ (score_row l i i (omega arith)) (score_row l j j (omega arith))) (score_row l i j k);
  looked_up = λ n l a b h long ha hb.
      let e = T_true {b = is_pair n l a b} ((among_says n l a b).from (((h, long), ha), hb)) in
      subst (λ (t : Bool). Carries (pair_of (cond t (score l a b) (pos 0))) (score l a b)) (sym e) (carries (score l a b));
  no_pair = λ n l a b x.
      let e = T_false {b = is_pair n l a b} ((not_says (among_says n l a b)).from (λ (((h, long), ha), hb). nothing n a b l h long ha hb x)) in
      ap (λ (t : Bool). carried (cond t (score l a b) (pos 0))) e;
}
  where
    room : {a m b : ℕ} → (b < m → ⊥) → a ≤ m → a ≤ b
    room f h = omega arith

    nothing : (n a b : ℕ) (l : List ℤ) → n ≤ 32 → length l ≡ n * (n + 1) / 2 → a < n → b < n → (32 < n) ⊎ OtherLength n l ⊎ NoEntries n a b → ⊥
    nothing n a b l h long ha hb (inl x) = omega arith
    nothing n a b l h long ha hb (inr (inl f)) = f long
    nothing n a b l h long ha hb (inr (inr (inl x))) = omega arith
    nothing n a b l h long ha hb (inr (inr (inr x))) = omega arith
