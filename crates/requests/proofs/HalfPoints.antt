-- Request 2.6, from the outcomes of the calls, what bytes say in points, and the theorems about doubled scores.
use mathlib.Core.Path.{◌≡◌, refl, sym, ap, ◌∙◌, subst}
use mathlib.Core.Bool.{◌&&◌}
use mathlib.Core.Logic.Iff
use mathlib.Core.Logic.{◌↔◌}
use mathlib.Core.List.{List, [], ◌∷◌, ◌++◌, map, map-map}
use mathlib.Core.Option.{some}
use Prim.Native.Nat.{ℕ, ◌+◌, ◌*◌, ◌<◌}
use native.Mathlib.Omega.{arith}
use lib.Dec.{T, eqb}
use lib.IntN.{ℤ, pos, negsuc, neg_ℤ, ◌+ℤ◌}
use lib.Signed.{◌≤ℤ◌}
use lib.ListN.{length, length-map, get_or, get_or-map}
use Rattle.lists.specs.Lists.{◌∈◌}
use Rattle.lists.proofs.Lists.{all_in, get_d_in, in_map, of_map}
use Rattle.lists.proofs.Tests.{and_T}
use Rattle.integers.specs.Integers.{eq_z, half as half_of}
use Rattle.integers.specs.Range.{Within}
use Rattle.integers.proofs.Linear.{up, dn}
use Rattle.integers.proofs.Range.{within, up_le, dn_le}
use Rattle.integers.proofs.Halves.{half_twice}
use Rattle.pairs.specs.declared.Carried.{Carried}
use Rattle.pairs.specs.declared.Carried.TheVariants.{Scored, Unscored}
use Rattle.pairs.specs.Pairs.{mark, number_for, carried, is_scored}
use Rattle.pairs.proofs.Pairs.{unmarked}
use Rattle.clusters.specs.PairList.{Similarity, Symmetric, one_point, point_limit, score_limit, score}
use Rattle.clusters.specs.Groups.{HasLine, strong, kind_of}
use Rattle.clusters.specs.declared.Group.{Group}
use Rattle.clusters.specs.Doubled.{twice, doubled_pair, Doubles, doubled_group}
use Rattle.clusters.proofs.PairList.{score_symm}
use Rattle.clusters.proofs.Doubled.{twice_pos, twice_neg, twice_same, groups_within, groups_within_lem, groups_doubled, same_range_doubled, weight_doubled}
use Rattle.interface.specs.Sheet.{whole_part, fraction, half_text, has_half, number_from, half_points, entries, value, pairs, same_bytes}
use Rattle.interface.specs.Listing.{Line, group_of, signed_points, is_set, is_decimal, is_index, is_line, line_read, line_words, listing_read}
use Rattle.interface.specs.Refusals.{check11, reader_checks, sheet_checks, reader_refusal}
use Rattle.interface.proofs.Refusals.{none_append}
use Rattle.interface.proofs.Points.{index_back}
use Rattle.interface.proofs.Outcomes.{not_refused, counted}
use Rattle.demands.specs.Sentences.{DecimalSays, InPoints, whole, minus_whole, half, minus_half, CellSays, points, lone_minus as says-lone, word_at}
use Rattle.demands.specs.Demands.{Listed, in_lines, Positive}
use Rattle.demands.proofs.Unique.{is_read, lines_form}
use Rattle.demands.proofs.Demands.{sheet_read, wrote, wrote_allowed, wrote_scored, line_positive}
use Rattle.demands.proofs.InPoints.{decimal_said, says_value, written_says, one_text}
use Rattle.demands.proofs.Cells.{value_scored, cells, listed_score}
use Rattle.demands.proofs.Agree.{agree_none, agree_tests}
use Rattle.demands.proofs.AgreeTables.{reader_agrees, scores_agree}
use Rattle.requests.specs.RowStarts.{by_reader}
use Rattle.requests.specs.Pool.{Pooled}
use Rattle.requests.specs.HalfPoints.{WholePoints, WholeSays, natural, negative, lone_minus, AsBefore, Request2_6}
use Rattle.requests.proofs.RowStarts.{written_at}
use Rattle.requests.proofs.Pool.{request_2_4}
use Rattle.requests.proofs.Refined.{found}
use Rattle.integers.proofs.Linear.{up, dn}
use Rattle.integers.specs.Range.{Within}

-- the index of a line that is read back
index_says : (ws : List (List ℕ)) → T (is_line ws) → InPoints (get_or ws 2 []) (line_read ws).index
unfolding is_line line_read signed_points
index_says ws t =
    let w = get_or ws 2 [] in
    let i = (and_T (eqb (length ws) 3 && is_set (get_or ws 0 []) && is_decimal (get_or ws 1 [])) (is_index w) t).1 in
    subst (λ (v : List ℕ). InPoints v (pos (half_points w))) (index_back w i) (written_says (pos (half_points w)))

index_at : (ws : List (List (List ℕ))) (i : ℕ) → get_or (map (λ w. (line_read w).index) ws) i (pos 0) ≡ (line_read (get_or ws i [])).index
unfolding line_read half_points whole_part has_half fraction half_text same_bytes number_from one_point
index_at ws i = get_or-map (λ w. (line_read w).index) ws i []

index_read : (bytes : List ℕ) {ls : List Line} → listing_read bytes ≡ some ls → (i : ℕ) → i < length ls
    → InPoints (get_or (get_or (line_words bytes) i []) 2 []) (get_or (map (λ l. l.index) ls) i (pos 0))
index_read bytes {ls} e i h =
    let (t, is) = is_read bytes e in
    let ws = line_words bytes in
    let many : i < length ws = omega (arith, ap length is, length-map ws line_read) in
    let formed = all_in is_line ws (lines_form bytes t) (get_d_in ws i [] many) in
    subst (InPoints (get_or (get_or ws i []) 2 []))
    (sym (ap (λ (m : List Line). get_or (map (λ l. l.index) m) i (pos 0)) (sym is) ∙ ap (λ (m : List ℤ). get_or m i (pos 0)) (map-map (λ (l : Line). l.index) line_read ws) ∙ index_at ws i))
    (index_says (get_or ws i []) formed)

-- a sheet that is written by the pool
pool_cells : {first second bytes : List ℕ} → Pooled first second bytes → (i j : ℕ) → i < entries first → j < entries first
    → CellSays (word_at bytes i j) (carried (value bytes i j))
unfolding sheet_checks entries
pool_cells {bytes = bytes} p i j h k =
    let n = ap length (request_2_4.its_names p).0 in
    let none = (agree_tests (scores_agree bytes)).1 (request_2_4.a_sheet p) in
    cells bytes ((none_append (reader_checks bytes) (check11 (pairs bytes) ∷ [])).0 none).0 i j (omega (arith, n)) (omega (arith, n))

strong_kind : {kind : ℤ} → kind ≡ pos 1 → kind_of kind ≡ strong
unfolding kind_of eq_z
strong_kind e = ap kind_of e

-- what a pair carried in points: half of what it carries now
halved : Carried → Carried
halved (Scored z) = Scored (half_of z)
halved Unscored = Unscored

-- a cell in whole points says half of its half points, and small numbers are no mark
record Halved (w : List ℕ) (c d : Carried) : Type 0 where
  says : WholeSays w d
  is : halved c ≡ d
  twofold : c ≡ doubled_pair d
  kept : carried (number_for d) ≡ d

small_half : {y : ℤ} → Within 19999999 (twice y) → Within 19999999 y
unfolding twice up dn
small_half {y = pos n} h = within (omega (arith, up_le h)) (omega arith)
small_half {y = negsuc n} h = within (omega arith) (omega (arith, dn_le h))

half_cell : {w : List ℕ} {y : ℤ} → WholeSays w (Scored y) → {z : ℤ} → z ≡ twice y → Within 19999999 z → Halved w (Scored z) (Scored y)
unfolding halved doubled_pair number_for twice
half_cell {y = y} says {z} e h = record {
  says = says;
  is = ap (λ x. Scored (half_of x)) e ∙ ap Scored (half_twice y);
  twofold = ap Scored e;
  kept = unmarked (value_scored (small_half (subst (Within 19999999) e h)));
}

lone_cell : Halved (45 ∷ []) Unscored Unscored
unfolding halved doubled_pair number_for carried eq_z mark
lone_cell = record { says = lone_minus; is = refl; twofold = refl; kept = refl }

whole_cell : {w : List ℕ} {c : Carried} → CellSays w c → ((v : List ℕ) → w ≡ v ++ (46 ∷ 53 ∷ []) → ⊥) → (d : Carried) × Halved w c d
whole_cell (points (whole {n = n} s) h) f = let e : n + n ≡ 2 * n = omega arith in (Scored (pos n), half_cell (natural s) (ap pos e ∙ twice_pos n) h)
whole_cell (points (minus_whole {n = n} s p) h) f =
    let e : n + n ≡ 2 * n = omega arith in
    (Scored (neg_ℤ (pos n)), half_cell (negative s p) (ap (λ (k : ℕ). neg_ℤ (pos k)) e ∙ twice_neg n) h)
whole_cell (points (half {w = v} s) h) f = absurd (f v refl)
whole_cell (points (minus_half {w = v} s) h) f = absurd (f (45 ∷ v) refl)
whole_cell says-lone f = (Unscored, lone_cell)

scored_halved : (c : Carried) → T (is_scored (doubled_pair c)) → T (is_scored c)
unfolding is_scored doubled_pair
scored_halved (Scored z) t = tt
scored_halved Unscored t = t

-- a sheet that is listed, of whole points: its values in points
module _ {kind : ℤ} {sheet bytes : List ℕ} (l : Listed kind sheet bytes) (f : WholePoints sheet) where
  abbrev n : ℕ
  n = entries sheet

  abbrev now : Similarity
  now = score (pairs sheet)

  before : Similarity
  before a b = number_for (halved (carried (now a b)))

  at : (i j : ℕ) → i < entries sheet → j < entries sheet → (d : Carried) × Halved (word_at sheet i j) (carried (score (pairs sheet) i j)) d
  at i j h k =
      let none = sheet_read l in
      whole_cell (subst (λ z. CellSays (word_at sheet i j) (carried z)) (sym (listed_score sheet none i j h k)) (cells sheet none i j h k)) (f i j h k)

  before_is : (i j : ℕ) (h : i < entries sheet) (k : j < entries sheet) → carried (before i j) ≡ (at i j h k).0
  unfolding before
  before_is i j h k = let (d, x) = at i j h k in ap (λ c. carried (number_for c)) x.is ∙ x.kept

  doubles : Doubles (entries sheet) before (score (pairs sheet))
  doubles = record { pairs = λ i j h k. (at i j h k).1.twofold ∙ ap doubled_pair (sym (before_is i j h k)) }

  before_symm : Symmetric before
  unfolding before
  before_symm a b = ap (λ z. number_for (halved (carried z))) (score_symm (pairs sheet) a b)

  module _ {ls : List Line} (e : listing_read bytes ≡ some ls) where
    -- what was found, with half its indices
    halves : List Group
    halves = groups_within point_limit (kind_of kind) (entries sheet) before

    found_doubled : map group_of ls ≡ map doubled_group halves
    unfolding halves score_limit one_point
    found_doubled =
        let w = in_lines l e in
        wrote w ∙ groups_within_lem (kind_of kind) n now
        ∙ groups_doubled point_limit (kind_of kind) n before now doubles
        (λ d a b ha hb. scored_halved (carried (before a b))
        (subst (λ c. T (is_scored c)) (doubles.pairs a b ha hb) (wrote_scored (λ q. d (strong_kind q)) w a b ha hb)))

    positive : (A : ℕ) (z : ℤ) → HasLine halves A z ↔ Positive 1000000 (kind_of kind) (entries sheet) before A z
    unfolding halves point_limit
    positive A z = line_positive point_limit (kind_of kind) n before before_symm A z

    line_halved : (A : ℕ) (z : ℤ) → HasLine (map group_of ls) A (z +ℤ z) ↔ HasLine halves A z
    unfolding doubled_group twice
    line_halved A z = (
      λ (g, m, a, i).
          let (h, k, q) = of_map doubled_group halves (subst (λ (found : List Group). g ∈ found) found_doubled m) in
          (h, k, sym (ap (λ (x : Group). x.set) q) ∙ a, twice_same (sym (ap (λ (x : Group). x.index) q) ∙ i)),
      λ (h, k, a, i). (
        doubled_group h,
        subst (λ (found : List Group). doubled_group h ∈ found) (sym found_doubled) (in_map doubled_group k),
        a,
        ap (λ x. x +ℤ x) i,
      ),
    )

    -- the index of a line is a whole number of points
    index_whole : (x : Line) → x ∈ ls → (m : ℕ) × (x.index ≡ pos m +ℤ pos m)
    unfolding doubled_group twice group_of
    index_whole x k =
        let (h, m, q) = of_map doubled_group halves (subst (λ (found : List Group). group_of x ∈ found) found_doubled (in_map group_of k)) in
        let (j, e) = natural_index h.index ((positive h.set h.index).0 (h, m, refl, refl)).positive in
        (j, ap (λ (g : Group). g.index) q ∙ ap (λ z. z +ℤ z) e)
      where
        natural_index : (z : ℤ) → pos 1 ≤ℤ z → (k : ℕ) × (z ≡ pos k)
        natural_index (pos k) h = (k, refl)
        natural_index (negsuc k) h = absurd h.le

    words_whole : (i : ℕ) → i < length ls → (m : ℕ) × DecimalSays (get_or (get_or (line_words bytes) i []) 2 []) m
        × (get_or (map (λ l. l.index) ls) i (pos 0) ≡ pos m +ℤ pos m)
    words_whole i h =
        let none : Line = record { set = 0; size = 0; index = pos 0 } in
        let (m, q) = index_whole (get_or ls i none) (get_d_in ls i none h) in
        let is : get_or (map (λ l. l.index) ls) i (pos 0) ≡ pos m +ℤ pos m = get_or-map (λ (l : Line). l.index) ls i none ∙ q in
        let same = one_text (subst (InPoints (get_or (get_or (line_words bytes) i []) 2 [])) is (index_read bytes e i h)) (whole (decimal_said m)) in
        (m, subst (λ (w : List ℕ). DecimalSays w m) (sym same) (decimal_said m), is)

    as_before : AsBefore kind sheet bytes ls
    as_before = record {
      whole = before;
      says = λ i j h k. subst (WholeSays (word_at sheet i j)) (sym (before_is i j h k)) (at i j h k).1.says;
      twofold = doubles;
      listed = λ A z. Iff.trans (line_halved A z) (positive A z);
      words = words_whole;
    }

pub request_2_6 : Request2_6
unfolding score_limit one_point point_limit twice reader_refusal
request_2_6 = record {
  every_number = λ z. (signed_points z, written_says z);
  one_text = one_text;
  one_number = λ a b. sym (says_value a) ∙ says_value b;
  cells = λ sheet g i j h k. let none = (agree_tests (reader_agrees sheet)).1 g in (cells sheet none i j h k, listed_score sheet none i j h k);
  read = λ {sheet} c none i j h below.
      let e = c.answered in
      let n = counted _ _ e none in
      let passed = (agree_tests (reader_agrees sheet)).1 ((agree_none (reader_agrees sheet)).0 (not_refused _ _ e none)) in
      subst (λ z. CellSays (word_at sheet i j) (carried z)) (sym (written_at (by_reader c none) i j h below))
      (cells sheet passed i j (omega (arith, n)) (omega (arith, n)));
  range = refl;
  indices_in_points = index_read;
  pool_in_points = pool_cells;
  as_before = λ l f e. as_before l f e;
  doubled = λ {kind} {n} {l} {l'} w w' d.
      wrote w' ∙ same_range_doubled (kind_of kind) n (score l) (score l') d (λ ne. wrote_scored (λ e. ne (strong_kind e)) w) (wrote_allowed w) (wrote_allowed w')
      ∙ ap (map doubled_group) (sym (wrote w));
  weight_doubled = λ {n} {l} {l'} {A} a b d.
      (found b).weight ∙ weight_doubled n (score l) (score l') d (found a).scored A ∙ ap (λ z. z +ℤ z) (sym (found a).weight);
}
