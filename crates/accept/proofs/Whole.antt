-- All rows, and what that says of the sheet.
use mathlib.Core.Path.{◌≡◌, refl, sym, ap, ◌∙◌, subst}
use mathlib.Core.Bool.{Bool, true, false, not, true≢false}
use mathlib.Core.List.{List, [], ◌∷◌, ◌++◌, map}
use Prim.Native.Nat.{ℕ, zero, suc, ◌+◌, ◌≤◌, ◌<◌}
use native.Mathlib.Omega.{arith}
use native.Mathlib.Decide.{dec_lt}
use borrow.Author.Tests.{eq-eqb, eqb-true, not-false, ne_eqb, le-ltb}
use lib.Dec.{T, eqb}
use lib.IntN.{ℤ}
use lib.ListN.{length, get_or, drop, length-drop}
use lib.Seq.{drop-length, sets}
use Rattle.lists.specs.Lists.{◌∈◌, below, all}
use Rattle.lists.proofs.Lists.{below_lt, lt_below, in_all, all_in, all_places, no_length, drop_first, below_more}
use Rattle.lists.proofs.Tests.{T_true, and_T, T_and, or_none, eqb_yes}
use Rattle.integers.specs.Integers.{eq_z}
use Rattle.integers.proofs.Linear.{yes_eq_z}
use Rattle.pairs.specs.Pairs.{list_number}
use Rattle.clusters.specs.PairList.{row_start, pair_list}
use Rattle.clusters.proofs.Rows.{Rows, rows_row, rows_all}
use Rattle.interface.specs.Sheet.{is_name, is_upper, is_digit, is_cell, pair_said, cut, lines, names, words, entries, value, mirrored, pairs}
use Rattle.interface.specs.Refusals.{most_entries, is_allowed, is_row, wrong_byte, wrong_names, wrong_count, wrong_lines, wrong_values, reader_checks, reader_refusal}
use Rattle.interface.specs.Calls.{piece_at}
use Rattle.interface.proofs.Refusals.{Gives, first_no, no_more}
use Rattle.interface.proofs.Pieces.{joined_cut, all_joined}
use Rattle.interface.proofs.Values.{name_word, cell_word, word_allowed}
use Rattle.accept.specs.Places.{cell, At, Mirror, RowRead}
use Rattle.accept.specs.Read.{PairsRead}
use Rattle.accept.specs.Names.{NamesRead}
use Rattle.accept.proofs.Cursors.{line_next}

-- the rows before i are read
pub record RowsState (s : List ℕ) (i at : ℕ) (cur : List ℕ) : Type 0 where
  pub here : At s i 0 at
  pub mirror : (a : ℕ) → a < i → Mirror s a (a + 1)
  pub wait : (b : ℕ) → b < i → At s b i (get_or cur b 0)

pub rows_start : {s : List ℕ} {at : ℕ} {cur : List ℕ} → At s 0 0 at → RowsState s 0 at cur
rows_start a = record { here = a; mirror = λ a h. absurd (omega arith); wait = λ b h. absurd (omega arith) }

mirrors : {s : List ℕ} {i : ℕ} → ((a : ℕ) → a < i → Mirror s a (a + 1)) → Mirror s i (i + 1) → (a : ℕ) → a < i + 1 → Mirror s a (a + 1)
mirrors {s} f x = below_more {P = λ a. Mirror s a (a + 1)} f x

pub rows_next : {s : List ℕ} {i at next end : ℕ} {cur new : List ℕ} → RowsState s i at cur → RowRead s 32 i next new
    → end ≡ next + length (piece_at 10 s next) → end < length s → RowsState s (i + 1) (end + 1) new
rows_next {s} {i} {at} {next} {end} {cur} {new} r x is h = record {
  here = line_next (subst (At s i (i + 1)) (sym x.last) ((x.after i (omega arith)).on refl)) is h;
  mirror = mirrors r.mirror x.mirror;
  wait = λ b q. (x.after b q).on refl;
}

-- where the cursor of the row stands
pub next_inside : {s : List ℕ} {i next : ℕ} {new : List ℕ} → RowRead s 32 i next new → next ≤ length s
next_inside {s} {i} {next} x = subst (λ (k : ℕ). k ≤ length s) (sym x.last) ((x.after i (omega arith)).on refl).inside

-- a check that does not hold
passes : (b : Bool) → T b → not b ≡ false
passes true t = refl
passes false t = absurd t

holds : (b : Bool) → not b ≡ false → T b
holds true e = tt
holds false e = true≢false e

-- all rows are read
pub record RowsRead (s : List ℕ) (n : ℕ) (lent after : List ℤ) : Type 0 where
  lines : wrong_lines s ≡ false
  values : wrong_values s ≡ false
  mirror : mirrored n (value s) ≡ true
  written : after ≡ pair_list n (value s) ++ drop (row_start n) lent

-- the last row
module _ {s : List ℕ} {n last next : ℕ} {new : List ℕ} (count : n ≡ entries s) (one : last + 1 ≡ n)
    (f : (a : ℕ) → a < last → Mirror s a (a + 1)) (x : RowRead s 10 last next new) (end : next ≡ length s) where
  all_mirrors : (a : ℕ) → a < n → Mirror s a (a + 1)
  all_mirrors a h = mirrors f x.mirror a (omega arith)

  -- cells (a, b) and (b, a)
  same : (a b : ℕ) → a < n → b < n → cell s a b ≡ cell s b a
  same a b h k = go (dec_lt b (a + 1))
    where
      go : Dec (b < a + 1) → cell s a b ≡ cell s b a
      go (yes p) = sym ((all_mirrors a h).same b p)
      go (no p) = (all_mirrors b k).same a (omega arith)

  good : (a b : ℕ) → a < n → b < n → T (is_cell (cell s a b))
  good a b h k = go (dec_lt b (a + 1))
    where
      go : Dec (b < a + 1) → T (is_cell (cell s a b))
      go (yes p) = (all_mirrors a h).good b p
      go (no p) = subst (λ (w : List ℕ). T (is_cell w)) (same b a k h) ((all_mirrors b k).good a (omega arith))

  width : (a : ℕ) → a < n → length (words s a) ≡ n
  width a h = ((x.after a (omega arith)).over refl).0 ∙ one

  behind : drop (last + 2) (lines s) ≡ [] ∷ []
  unfolding cut
  behind = sym ((x.after last (omega arith)).over refl).2 ∙ ap (λ (k : ℕ). cut 10 (drop k s)) (sym x.last ∙ end) ∙ ap (cut 10) (drop-length s)

  lines_right : wrong_lines s ≡ false
  unfolding wrong_lines
  lines_right =
      let k : length (lines s) ≡ entries s + 2 = omega (arith, ap length behind, length-drop (last + 2) (lines s)) in
      let y : entries s + 1 ≡ last + 2 = omega arith in
      let e : length (get_or (lines s) (entries s + 1) []) ≡ 0 = ap length (ap (λ (i : ℕ). get_or (lines s) i []) y ∙ drop_first (lines s) (last + 2) [] behind) in
      rw (eq-eqb (length (lines s)) (entries s + 2) k, eq-eqb (length (get_or (lines s) (entries s + 1) [])) 0 e)

  row_right : (a : ℕ) → a < n → T (is_row n (words s a))
  unfolding is_row
  row_right a h = T_and (eqb (length (words s a)) n) (all is_cell (words s a)) (eqb_yes (length (words s a)) n (width a h))
      (all_places is_cell (words s a) [] (λ b k. good a b h (omega (arith, width a h))))

  values_right : wrong_values s ≡ false
  unfolding wrong_values
  values_right = passes (all (λ i. is_row (entries s) (words s i)) (below (entries s))) (subst (λ (m : ℕ). T (all (λ i. is_row m (words s i)) (below m))) count
      (in_all (λ i. is_row n (words s i)) (below n) (λ a m. row_right a (below_lt n m))))

  values_same : (a b : ℕ) → a < n → b < n → value s a b ≡ value s b a
  unfolding value
  values_same a b h k = ap (λ (w : List ℕ). list_number (pair_said w)) (same a b h k)

  mirror_right : mirrored n (value s) ≡ true
  unfolding mirrored
  mirror_right = T_true {b = all (λ i. all (λ j. eq_z (value s i j) (value s j i)) (below n)) (below n)} (in_all (λ i. all (λ j. eq_z (value s i j) (value s j i)) (below n)) (below n) λ a m.
      in_all (λ j. eq_z (value s a j) (value s j a)) (below n) λ b k. yes_eq_z (value s a b) (value s b a) (values_same a b (below_lt n m) (below_lt n k)))

  pub rows_end : {lent old o : List ℤ} → Rows (value s) lent old last → o ≡ sets old (row_start last) (map (value s last) (below (suc last)))
      → row_start n ≤ length lent → RowsRead s n lent o
  rows_end {lent} {old} {o} r e long = record {
    lines = lines_right;
    values = values_right;
    mirror = mirror_right;
    written = rows_all n (rows_row r e) one long;
  }

-- every byte is allowed, line by line
module _ (s : List ℕ) (ok : wrong_names s ≡ false) (lined : wrong_lines s ≡ false) (valued : wrong_values s ≡ false) where
  all_names : T (all is_name (names s))
  unfolding wrong_names
  all_names = holds (all is_name (names s)) (or_none (eqb (length (lines s)) 1) (not (all is_name (names s))) ok).1

  count_lines : length (lines s) ≡ entries s + 2
  unfolding wrong_lines
  count_lines = eqb_is (length (lines s)) (entries s + 2) (or_none (not (eqb (length (lines s)) (entries s + 2))) (not (eqb (length (get_or (lines s) (entries s + 1) [])) 0)) lined).0
    where
      eqb_is : (a b : ℕ) → not (eqb a b) ≡ false → a ≡ b
      eqb_is a b e = eqb-true a b (not-false _ e)

  last_line : length (get_or (lines s) (entries s + 1) []) ≡ 0
  unfolding wrong_lines
  last_line = eqb-true _ 0 (not-false _ (or_none (not (eqb (length (lines s)) (entries s + 2))) (not (eqb (length (get_or (lines s) (entries s + 1) [])) 0)) lined).1)

  rows_good : (i : ℕ) → i < entries s → T (all is_cell (words s i))
  unfolding wrong_values is_row
  rows_good i h = (and_T (eqb (length (words s i)) (entries s)) (all is_cell (words s i))
      (all_in (λ i. is_row (entries s) (words s i)) (below (entries s)) (holds (all (λ i. is_row (entries s) (words s i)) (below (entries s))) valued) (lt_below (entries s) i h))).1

  pieces_allowed : (w : List ℕ) → ((v : List ℕ) → v ∈ cut 32 w → T (all is_allowed v)) → T (all is_allowed w)
  unfolding is_allowed is_upper is_digit
  pieces_allowed w f = subst (λ (l : List ℕ). T (all is_allowed l)) (joined_cut 32 w) (all_joined 32 is_allowed tt (cut 32 w) f)

  line_allowed : (k : ℕ) → k < length (lines s) → T (all is_allowed (get_or (lines s) k []))
  unfolding names words all
  line_allowed zero h = pieces_allowed (get_or (lines s) 0 []) (λ v m. word_allowed (name_word v (all_in is_name (names s) all_names m)))
  line_allowed (suc i) h = go (dec_lt i (entries s))
    where
      go : Dec (i < entries s) → T (all is_allowed (get_or (lines s) (suc i) []))
      go (yes q) = pieces_allowed (get_or (lines s) (suc i) []) (λ v m. word_allowed (cell_word v (all_in is_cell (words s i) (rows_good i q) m)))
      go (no q) =
          let e : entries s + 1 ≡ suc i = omega (arith, count_lines) in
          subst (λ (l : List ℕ). T (all is_allowed l)) (sym (no_length (get_or (lines s) (suc i) []) (ap (λ (k : ℕ). length (get_or (lines s) k [])) (sym e) ∙ last_line))) tt

  pub bytes_right : wrong_byte s ≡ false
  unfolding wrong_byte lines is_allowed is_upper is_digit
  bytes_right = passes (all is_allowed s) (subst (λ (l : List ℕ). T (all is_allowed l)) (joined_cut 10 s)
      (all_joined 10 is_allowed tt (cut 10 s) (λ w m. all_in (all is_allowed) (cut 10 s) (all_places (all is_allowed) (cut 10 s) [] line_allowed) m)))

-- what check 6 wants
count_right : (n : ℕ) → 1 ≤ n → n ≤ 32 → wrong_count n ≡ false
unfolding wrong_count most_entries
count_right n h k = rw (ne_eqb n 0 (λ e. absurd (omega (arith, e))), le-ltb 32 n k)

-- the sheet is accepted
pub sheet_accepted : {s : List ℕ} {n next : ℕ} {lent o : List ℤ} → NamesRead s n next → RowsRead s n lent o → PairsRead s n lent o
unfolding reader_refusal reader_checks pairs
sheet_accepted {s} {n} {next} {lent} {o} names r =
    let line = names.line in
    let is = line.number in
    let e : wrong_count (entries s) ≡ false = ap wrong_count (sym is) ∙ count_right n line.some line.few in
    let m : not (mirrored (entries s) (value s)) ≡ false = ap (λ (k : ℕ). not (mirrored k (value s))) (sym is) ∙ ap not r.mirror in
    let g : Gives (reader_checks s) 0 =
    first_no names.right (first_no (bytes_right s line.good r.lines r.values)
    (first_no line.good (first_no line.different (first_no e (first_no r.lines (first_no r.values (first_no m no_more))))))) in
    record {
      passed = sym g.is;
      count = is;
      written = r.written ∙ ap (λ (k : ℕ). pair_list k (value s) ++ drop (row_start n) lent) is;
    }
