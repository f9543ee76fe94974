-- A sheet as it is written (`sheet_text`) is read back, for any number of entries: its names, its scores, its pair list, a bound on its length;
-- and the checks of a sheet pass it.
use mathlib.Core.Path.{◌≡◌, refl, sym, ap, ◌∙◌, subst}
use mathlib.Core.Bool.{Bool, false, not}
use mathlib.Core.Logic.{◌⊎◌, inl, inr}
use mathlib.Core.List.Memᴰ
use mathlib.Core.List.{List, [], ◌∷◌, ◌++◌, map}
use Prim.Native.Nat.{ℕ, suc, ◌+◌, ◌*◌, ◌≤◌, ◌<◌}
use native.Mathlib.Decide.{dec_le}
use native.Mathlib.Nat.{mul-le-mul}
use native.Mathlib.Omega.{arith}
use borrow.Author.Tests.{eq-eqb, ne_eqb, le-ltb}
use lib.Dec.{T, eqb, lit≤}
use lib.IntN.{ℤ}
use lib.ListN.{length, length-append, length-map, get_or, get_or-append}
use lib.Seq.{get_or_at}
use Rattle.lists.specs.Lists.{◌∈◌, below, each, all, Distinct}
use Rattle.lists.proofs.Tests.{T_and, T_true, or_second, eqb_yes}
use Rattle.lists.proofs.Lists.{below_lt, count_below, get_d_below, of_map, map_cong, in_all, all_in}
use Rattle.integers.specs.Integers.{eq_z}
use Rattle.integers.proofs.Linear.{yes_eq_z}
use Rattle.pairs.specs.Pairs.{list_number, carried}
use Rattle.clusters.specs.PairList.{Similarity, pair_list, one_point, point_limit, score_limit, is_allowed_pair, scores_in_range}
use Rattle.clusters.proofs.PairList.{in_pair_list, pair_list_cong}
use Rattle.clusters.proofs.Scored.{AllAllowed}
use Rattle.interface.specs.Sheet.{line_feed, space, is_upper, is_digit, is_name, is_cell, pair_said, cut, lines, names, entries, words, value, mirrored, pairs}
use Rattle.interface.specs.SheetText.{pair_text, joined, row_text, sheet_lines, sheet_text}
use Rattle.interface.specs.Refusals.{
  none,
  most_bytes,
  wrong_length,
  is_allowed,
  wrong_byte,
  wrong_names,
  equal_names,
  wrong_count,
  wrong_lines,
  is_row,
  wrong_values,
  reader_checks,
  sheet_checks,
}
use Rattle.interface.proofs.Refusals.{gives, first_no, no_more, first_none, right_count}
use Rattle.interface.proofs.Pieces.{free, cut_joined, cut_ended, all_joined, all_ended, length_joined, length_ended}
use Rattle.interface.proofs.Names.{names_distinct}
use Rattle.interface.proofs.Values.{Word, word_allowed, word_no_space, word_no_feed, name_word, read_number_lem, pair_form, pair_word}

-- names and scores of a sheet: well-formed names, no two of them equal, one score for both orders of a pair, and scores that check 11 passes
pub record WellFormed (ns : List (List ℕ)) (s : Similarity) : Type 0 where
  pub some : 0 < length ns
  pub named : T (all is_name ns)
  pub distinct : Distinct ns
  pub symmetric : (i j : ℕ) → i < length ns → j < length ns → s i j ≡ s j i
  pub allowed : T (scores_in_range (pair_list (length ns) s))

-- what is written for the pairs of entry i
abbrev row_words : ℕ → Similarity → ℕ → List (List ℕ)
row_words n s i = map (λ j. pair_text (carried (s i j))) (below n)

row_count : (n : ℕ) (s : Similarity) (i : ℕ) → length (row_words n s i) ≡ n
row_count n s i = length-map (below n) (λ j. pair_text (carried (s i j))) ∙ count_below n

-- words with single spaces between
module _ {most : ℕ} (ws : List (List ℕ)) (f : (w : List ℕ) → w ∈ ws → Word most w) where
  words_no_feed : free line_feed (joined space ws)
  words_no_feed = all_joined space (λ b. not (eqb b line_feed)) tt ws (λ w m. word_no_feed (f w m))

  words_allowed : T (all is_allowed (joined space ws))
  unfolding is_allowed is_upper is_digit
  words_allowed = all_joined space is_allowed tt ws (λ w m. word_allowed (f w m))

  words_cut : 0 < length ws → cut space (joined space ws) ≡ ws
  words_cut h = cut_joined space ws h (λ w m. word_no_space (f w m))

  words_length : 0 < length ws → length (joined space ws) < length ws * suc most
  words_length h = length_joined space (suc most) ws h (λ w m. omega (arith, (f w m).short))

module _ {ns : List (List ℕ)} {s : Similarity} (a : WellFormed ns s) where
  abbrev n : ℕ
  n = length ns

  abbrev text : List ℕ
  text = sheet_text ns s

  -- every score is allowed, as those of the lower triangle are
  scores_allowed : AllAllowed score_limit n s
  unfolding scores_in_range
  scores_allowed i j h k = go (dec_le j i)
    where
      lower : (i j : ℕ) → i < n → j ≤ i → T (is_allowed_pair score_limit (carried (s i j)))
      lower i j h l = all_in (λ v. is_allowed_pair score_limit (carried v)) (pair_list n s) a.allowed (in_pair_list n s h l)

      go : Dec (j ≤ i) → T (is_allowed_pair score_limit (carried (s i j)))
      go (yes l) = lower i j h l
      go (no f) = subst (λ (z : ℤ). T (is_allowed_pair score_limit (carried z))) (a.symmetric j i k h) (lower j i k (omega arith))

  -- a score has at most 9 bytes
  few_bytes : score_limit ≤ 2000000
  unfolding score_limit one_point point_limit
  few_bytes = lit≤ tt

  few_digits : score_limit < 20000000
  few_digits = omega (arith, few_bytes)

  name_words : (w : List ℕ) → w ∈ ns → Word 8 w
  name_words w m = name_word w (all_in is_name ns a.named m)

  row_words_lem : (i : ℕ) → i < n → (w : List ℕ) → w ∈ row_words n s i → Word 9 w
  row_words_lem i h w m =
      let (j, k, e) = of_map (λ j. pair_text (carried (s i j))) (below n) m in
      subst (Word 9) (sym e) (pair_word (carried (s i j)) few_bytes (scores_allowed i j h (below_lt n k)))

  row_form : (i : ℕ) → i < n → T (is_row n (row_words n s i))
  unfolding is_row
  row_form i h =
      let ws = row_words n s i in
      T_and (eqb (length ws) n) (all is_cell ws) (eqb_yes (length ws) n (row_count n s i)) (in_all is_cell ws λ w m.
      let (j, k, e) = of_map (λ j. pair_text (carried (s i j))) (below n) m in
      subst (λ (w : List ℕ). T (is_cell w)) (sym e) (pair_form (carried (s i j)) few_digits (scores_allowed i j h (below_lt n k))))

  -- each line is n words with single spaces between
  line_words_lem : (l : List ℕ) → l ∈ sheet_lines ns s → (most : ℕ) × (ws : List (List ℕ)) × ((w : List ℕ) → w ∈ ws → Word most w) × (l ≡ joined space ws)
  unfolding sheet_lines row_text
  line_words_lem l m = go (Memᴰ.cases_cons m)
    where
      go : (l ≡ joined space ns) ⊎ (l ∈ map (row_text n s) (below n))
          → (most : ℕ) × (ws : List (List ℕ)) × ((w : List ℕ) → w ∈ ws → Word most w) × (l ≡ joined space ws)
      go (inl e) = (8, ns, name_words, e)
      go (inr k) = let (i, h, e) = of_map (row_text n s) (below n) k in (9, row_words n s i, row_words_lem i (below_lt n h), e)

  -- the pieces: the lines, and nothing behind the last line feed
  text_lines : lines text ≡ sheet_lines ns s ++ ([] ∷ [])
  unfolding lines sheet_text
  text_lines = cut_ended line_feed (sheet_lines ns s) λ l m.
      let (_, ws, f, e) = line_words_lem l m in subst (λ (t : List ℕ). free line_feed t) (sym e) (words_no_feed ws f)

  lines_count : length (sheet_lines ns s) ≡ n + 1
  unfolding sheet_lines
  lines_count = omega (arith, length-map (below n) (row_text n s), count_below n)

  pieces_count : length (lines text) ≡ n + 2
  pieces_count = ap length text_lines ∙ length-append (sheet_lines ns s) ([] ∷ []) ∙ omega (arith, lines_count)

  -- what is read
  pub sheet_text_names : names (sheet_text ns s) ≡ ns
  unfolding names sheet_lines
  sheet_text_names = ap (λ (l : List (List ℕ)). cut space (get_or l 0 [])) text_lines ∙ words_cut ns name_words a.some

  pub sheet_text_entries : entries (sheet_text ns s) ≡ length ns
  unfolding entries
  sheet_text_entries = ap length sheet_text_names

  text_words : (i : ℕ) → i < n → words text i ≡ row_words n s i
  unfolding words sheet_lines row_text
  text_words i h =
      let rows = map (row_text n s) (below n) in
      ap (λ (l : List (List ℕ)). cut space (get_or l (suc i) [])) text_lines
      ∙ ap (cut space) (get_or-append rows ([] ∷ []) [] i (omega (arith, length-map (below n) (row_text n s), count_below n)) ∙ get_d_below (row_text n s) n i [] h)
      ∙ words_cut (row_words n s i) (row_words_lem i h) (omega (arith, a.some, row_count n s i))

  pub sheet_text_value : (i j : ℕ) → i < length ns → j < length ns → value (sheet_text ns s) i j ≡ s i j
  unfolding value
  sheet_text_value i j h k =
      ap (λ (w : List ℕ). list_number (pair_said w)) (ap (λ (l : List (List ℕ)). get_or l j []) (text_words i h) ∙ get_d_below (λ j. pair_text (carried (s i j))) n j [] k)
      ∙ read_number_lem (s i j)

  pub sheet_text_pairs : pairs (sheet_text ns s) ≡ pair_list (length ns) s
  unfolding pairs
  sheet_text_pairs =
      ap (λ (m : ℕ). pair_list m (value text)) sheet_text_entries ∙ pair_list_cong n (value text) s (λ i j h k. sheet_text_value i j h (omega arith))

  -- line 1 has at most 9 bytes for each name, a row at most 10 for each value
  pub sheet_text_length : length (sheet_text ns s) ≤ length ns * 9 + length ns * (length ns * 10)
  unfolding sheet_text sheet_lines row_text each
  sheet_text_length =
      let rows = map (row_text n s) (below n) in
      let all_rows = subst (λ (m : ℕ). length (each rows (λ line. line ++ (line_feed ∷ []))) ≤ m * (n * 10)) rows_count (length_ended line_feed (n * 10) rows row_length) in
      omega (
        arith,
        length-append (joined space ns ++ (line_feed ∷ [])) (each rows (λ line. line ++ (line_feed ∷ []))),
        length-append (joined space ns) (line_feed ∷ []),
        words_length ns name_words a.some,
        all_rows,
      )
    where
      rows_count : length (map (row_text n s) (below n)) ≡ n
      rows_count = length-map (below n) (row_text n s) ∙ count_below n

      row_length : (l : List ℕ) → l ∈ map (row_text n s) (below n) → length l < n * 10
      row_length l m =
          let (i, h, e) = of_map (row_text n s) (below n) m in
          let ws = row_words n s i in
          subst (λ (t : List ℕ). length t < n * 10) (sym e)
          (subst (λ (k : ℕ). length (joined space ws) < k * 10) (row_count n s i) (words_length ws (row_words_lem i (below_lt n h)) (omega (arith, row_count n s i, a.some))))

  -- at the limit of 32 entries there are at most 10,528 bytes
  pub sheet_text_most : wrong_count (length ns) ≡ false → length (sheet_text ns s) ≤ 10528
  sheet_text_most count =
      let few : n ≤ 32 = right_count n count in
      let tens : n * 10 ≤ 320 = omega arith in
      omega (arith, sheet_text_length, mul-le-mul few tens)

  -- checks 2 to 5, 7 to 9 and 11, each in turn
  text_some : 0 < length text
  unfolding sheet_text sheet_lines each
  text_some = omega (
    arith,
    length-append (joined space ns ++ (line_feed ∷ [])) (each (map (row_text n s) (below n)) λ line. line ++ (line_feed ∷ [])),
    length-append (joined space ns) (line_feed ∷ []),
  )

  length_right : wrong_count n ≡ false → wrong_length text ≡ false
  unfolding wrong_length most_bytes
  length_right count =
      or_second (ne_eqb (length text) 0 (λ e. omega (arith, text_some))) (le-ltb 12288 (length text) (omega (arith, sheet_text_most count)))

  bytes_right : wrong_byte text ≡ false
  unfolding wrong_byte sheet_text is_allowed is_upper is_digit
  bytes_right = ap not (T_true {b = all is_allowed text} (all_ended line_feed is_allowed tt (sheet_lines ns s) λ l m.
      let (_, ws, f, e) = line_words_lem l m in subst (λ (t : List ℕ). T (all is_allowed t)) (sym e) (words_allowed ws f)))

  names_right : wrong_names text ≡ false
  unfolding wrong_names
  names_right = rw (sheet_text_names, ne_eqb (length (lines text)) 1 (λ e. omega (arith, pieces_count)), T_true {b = all is_name ns} a.named)

  names_differ_lem : equal_names text ≡ false
  unfolding equal_names
  names_differ_lem = rw sheet_text_names (names_distinct ns a.distinct)

  lines_right : wrong_lines text ≡ false
  unfolding wrong_lines
  lines_right = rw (
    pieces_count,
    sheet_text_entries,
    eq-eqb (n + 2) (n + 2) refl,
    text_lines,
    get_or_at (sheet_lines ns s) [] [] [] (n + 1) lines_count,
  )

  values_right : wrong_values text ≡ false
  unfolding wrong_values
  values_right = ap not (T_true {b = all test (below (entries text))} (in_all test (below (entries text)) λ i m.
      right i (subst (λ (k : ℕ). i < k) sheet_text_entries (below_lt (entries text) m))))
    where
      test : ℕ → Bool
      test i = is_row (entries text) (words text i)

      right : (i : ℕ) → i < n → T (test i)
      right i h = rw (sheet_text_entries, text_words i h) (row_form i h)

  mirrored_right : not (mirrored (entries text) (value text)) ≡ false
  unfolding mirrored
  mirrored_right = rw sheet_text_entries (ap not (T_true {b = mirrored n (value text)} (in_all (λ i. all (test i) (below n)) (below n) λ i h.
      in_all (test i) (below n) λ j k. same i j (below_lt n h) (below_lt n k))))
    where
      test : ℕ → ℕ → Bool
      test i j = eq_z (value text i j) (value text j i)

      same : (i j : ℕ) → i < n → j < n → T (test i j)
      same i j h k = yes_eq_z (value text i j) (value text j i) (sheet_text_value i j h k ∙ a.symmetric i j h k ∙ sym (sheet_text_value j i k h))

  range_right : not (scores_in_range (pairs text)) ≡ false
  range_right = rw sheet_text_pairs (ap not (T_true {b = scores_in_range (pair_list n s)} a.allowed))

  -- the checks of a sheet pass it, if 6 passes the number of its names
  pub sheet_text_accepted : wrong_count (length ns) ≡ false → T (none (sheet_checks (sheet_text ns s)))
  unfolding sheet_checks reader_checks all
  sheet_text_accepted count = (first_none (sheet_checks text) tt).0 (sym (gives (
      first_no (length_right count) (first_no bytes_right (first_no names_right (first_no names_differ_lem (first_no (ap wrong_count sheet_text_entries ∙ count)
      (first_no lines_right (first_no values_right (first_no mirrored_right (first_no range_right no_more)))))))))))

-- the scores of the entries determine the text
pub sheet_text_cong : (ns : List (List ℕ)) (s t : Similarity) → ((i j : ℕ) → i < length ns → j < length ns → s i j ≡ t i j) → sheet_text ns s ≡ sheet_text ns t
unfolding sheet_text sheet_lines row_text
sheet_text_cong ns s t f =
    let n = length ns in
    ap (λ (l : List (List ℕ)). each (joined space ns ∷ l) λ line. line ++ (line_feed ∷ []))
    (map_cong (row_text n s) (row_text n t) (below n) (λ i h. ap (joined space)
    (map_cong (λ j. pair_text (carried (s i j))) (λ j. pair_text (carried (t i j))) (below n)
    (λ j k. ap (λ (z : ℤ). pair_text (carried z)) (f i j (below_lt n h) (below_lt n k))))))
