-- Whatever fits is taken.
use mathlib.Core.Path.{◌≡◌, refl, sym, ap, ◌∙◌, subst}
use mathlib.Core.Bool.{Bool, false, cond}
use mathlib.Core.Logic.{◌⊎◌, inl, inr, ⊎_elim, ◌≢◌}
use mathlib.Core.List.{List, [], ◌∷◌, ◌++◌}
use Prim.Native.Nat.{ℕ, ◌+◌, ◌*◌, ◌/◌, ◌<◌, ◌≤◌, ◌-◌}
use native.Mathlib.Omega.{arith}
use borrow.Author.Tests.{lt-ltb, le-ltb, ltb-true}
use lib.Dec.{T, ltb, lit<}
use lib.IntN.{ℤ, pos}
use lib.Signed.{◌≤ℤ◌}
use lib.ListN.{length, get_or, take}
use Rattle.lists.specs.Lists.{all}
use Rattle.lists.proofs.Tests.{T_true, T_false}
use Rattle.lists.proofs.Lists.{in_all}
use Rattle.integers.specs.Range.{Within}
use Rattle.clusters.specs.PairList.{Similarity, row_start, pair_list, scores_in_range}
use Rattle.clusters.proofs.PairList.{length_pair_list, of_pair_list, pair_list_at}
use Rattle.answers.specs.Answers.{number_of, Answer, count_of}
use Rattle.interface.specs.Sheet.{is_name, entries, value, pairs, has_equal}
use Rattle.interface.specs.Listing.{sheet_listing}
use Rattle.interface.specs.SheetText.{sheet_text}
use Rattle.interface.specs.Refusals.{
  Check,
  first_of,
  none,
  wrong_kind,
  wrong_count,
  wrong_unscored,
  wrong_distances,
  check1,
  check11,
  check16_of,
  check12,
  check14,
  reader_checks,
  sheet_checks,
  sheet_call_checks,
  sheet_refusal,
  reader_refusal,
  kind_checks,
}
use Rattle.interface.specs.Calls.{ReaderCall, c_number}
use Rattle.interface.proofs.Refusals.{first_none, none_append, first_append, first_at, passes, right_count, under}
use Rattle.interface.proofs.Accepted.{Passed, not_not}
use Rattle.interface.proofs.Names.{distinct_names}
use Rattle.interface.proofs.SheetTexts.{WellFormed, sheet_text_names, sheet_text_entries, sheet_text_pairs, sheet_text_accepted}
use Rattle.demands.specs.Sentences.{NoKind, NoneOrOver32, OtherLength, mark_number, BeyondMillion, HasMark, lower, NoDistances, Distances, NoEntries, FewerThan2n, AnchorOrShort}
use Rattle.demands.specs.Taken.{FitsSheet, FitsKind, always, if_scored, if_distances, FitsList, ListKind, every_list, scored_list, distance_list, Taken}
use Rattle.demands.proofs.Agree.{not_says, agree_none, none_both, given_behind}
use Rattle.demands.proofs.AgreeText.{name_says, equal_says, six_says}
use Rattle.demands.proofs.AgreeNumbers.{one_says, third_kind, eleven_says, sixteen_list_says, twelve_list_says}
use Rattle.demands.proofs.AgreeTables.{reader_agrees}
use Rattle.demands.proofs.TurnedAway.{turned_away}
use Rattle.interface.proofs.Outcomes.{refused_number, taken, counted}
use Rattle.interface.proofs.Room.{listing_room}
use Rattle.demands.specs.Tables.{NoneGiven, pair_table, length_table, distance_table, kind_table, scored_table, Table}

-- a list that fits: no sentence holds
module _ {n : ℕ} {l : List ℤ} (f : FitsList n l) where
  six : NoneOrOver32 n → ⊥
  six = ⊎_elim (λ e. omega (arith, f.count.0)) (λ h. omega (arith, f.count.1))

  ten : OtherLength n l → ⊥
  ten g = g f.long

  eleven : BeyondMillion l → ⊥
  eleven b = ⊎_elim b.no_mark b.out (f.range b.number b.there)

no_distances : {n : ℕ} {l : List ℤ} → Distances n l → NoDistances n l → ⊥
no_distances d (inl (z, m, g)) = g (d.natural z m)
no_distances d (inr (i, h, g)) = g (d.own i h)

distances_scored : {n : ℕ} {l : List ℤ} → Distances n l → HasMark l → ⊥
distances_scored d m = (d.natural mark_number m).le

-- the parts of the tables
length_none : {n : ℕ} {l : List ℤ} → FitsList n l → NoneGiven (length_table n l)
length_none f = (six f, (ten f, tt))

pub pair_none : {n : ℕ} {l : List ℤ} → FitsList n l → NoneGiven (pair_table n l)
pair_none {n} {l} f = none_both (length_table n l) ((11, BeyondMillion l) ∷ []) (length_none f) (eleven f, tt)

pub distance_none : {n : ℕ} {l : List ℤ} → FitsList n l → Distances n l → NoneGiven (distance_table n l)
distance_none {n} {l} f d =
    none_both (scored_table n l) ((12, NoDistances n l) ∷ [])
    (none_both (pair_table n l) ((16, HasMark l) ∷ []) (pair_none f) (distances_scored d, tt)) (no_distances d, tt)

kind_fits : {n : ℕ} {l : List ℤ} {kind : ℤ} → ListKind n l kind
    → (NoKind kind → ⊥) × ((kind ≢ pos 1) × HasMark l → ⊥) × ((kind ≡ pos 3) × NoDistances n l → ⊥)
kind_fits every_list = (λ (a, _, _). a refl, λ (a, _). a refl, λ (e, _). (third_kind e).0 refl)
kind_fits (scored_list s) = (λ (_, b, _). b refl, λ (_, m). s m, λ (e, _). (third_kind e).1 refl)
kind_fits (distance_list d) = (λ (_, _, c). c refl, λ (_, m). distances_scored d m, λ (_, x). no_distances d x)

pub kind_none : {n : ℕ} {l : List ℤ} {kind : ℤ} → ListKind n l kind → (NoKind kind → ⊥) × NoneGiven (kind_table kind n l)
kind_none k = let (one, sixteen, twelve) = kind_fits k in (one, (sixteen, (twelve, tt)))

-- names and scores that fit
module _ {ns : List (List ℕ)} {s : Similarity} (f : FitsSheet ns s) where
  abbrev n : ℕ
  n = length ns

  abbrev text : List ℕ
  text = sheet_text ns s

  list_fits : FitsList (length ns) (pair_list (length ns) s)
  unfolding row_start
  list_fits = record {
    count = f.count;
    long = length_pair_list n s;
    range = λ z m.
        let (i, j, h, k, e) = of_pair_list n s m in
        subst (λ y. (y ≡ mark_number) ⊎ Within (2 * 1000000) y) (sym e) (f.range i j h (omega arith));
  }

  kind_list : {kind : ℤ} → FitsKind (length ns) s kind → ListKind (length ns) (pair_list (length ns) s) kind
  unfolding row_start
  kind_list always = every_list
  kind_list (if_scored g) = scored_list (λ m. let (i, j, h, k, e) = of_pair_list n s m in g i j h (omega arith) (sym e))
  kind_list (if_distances g o) = distance_list (record {
    natural = λ z m. let (i, j, h, k, e) = of_pair_list n s m in subst (λ y. pos 0 ≤ℤ y) (sym e) (g i j h (omega arith));
    own = λ i h. pair_list_at n s i i h (omega arith) ∙ o i h;
  })

  formed : WellFormed ns s
  formed = record {
    some = omega (arith, f.count.0);
    named = in_all is_name ns (λ w m. (name_says w).from (f.named w m));
    distinct = distinct_names ns (T_false {b = has_equal ns} ((not_says (equal_says ns)).from (λ x. f.different x.i x.j x.apart x.there x.same)));
    symmetric = f.symmetric;
    allowed = not_not (scores_in_range (pair_list n s)) ((not_says (eleven_says (pair_list n s))).from (eleven list_fits));
  }

  right_many : wrong_count (length ns) ≡ false
  right_many = T_false {b = wrong_count n} ((not_says (six_says n)).from (six list_fits))

  accepted : T (none (sheet_checks (sheet_text ns s)))
  accepted = sheet_text_accepted formed right_many

  read_through : T (none (reader_checks (sheet_text ns s)))
  unfolding sheet_checks
  read_through = ((none_append (reader_checks text) (check11 (pairs text) ∷ [])).0 accepted).0

  read_passed : first_of (reader_checks (sheet_text ns s)) ≡ 0
  unfolding reader_checks all
  read_passed = (first_none (reader_checks text) tt).1 read_through

  -- only 14 is left
  refusal_is : {kind : ℤ} → FitsKind (length ns) s kind → (buffer : ℕ)
      → sheet_refusal kind (sheet_text ns s) buffer ≡ cond (ltb buffer (length (sheet_listing kind (sheet_text ns s)))) 14 0
  unfolding sheet_refusal sheet_call_checks sheet_checks reader_checks all first_of
  refusal_is {kind} k buffer =
      let (one, sixteen, twelve) = kind_fits (kind_list k) in
      let a : wrong_kind kind ≡ false = T_false ((not_says (one_says kind)).from one) in
      let b : wrong_unscored kind (pairs text) ≡ false = ap (wrong_unscored kind) (sheet_text_pairs formed) ∙ T_false ((not_says (sixteen_list_says kind (pair_list n s))).from sixteen) in
      let c : wrong_distances kind (entries text) (pairs text) ≡ false =
      ap (λ (m : ℕ). wrong_distances kind m (pairs text)) (sheet_text_entries formed) ∙ ap (wrong_distances kind n) (sheet_text_pairs formed)
      ∙ T_false ((not_says (twelve_list_says kind n (pair_list n s))).from twelve) in
      rw a (first_append (sheet_checks text) (check16_of kind (pairs text) ∷ check12 kind (entries text) (pairs text) ∷ check14 buffer (sheet_listing kind text) ∷ []) tt
      ∙ rw ((first_none (sheet_checks text) tt).1 accepted, b, c))

  -- the reader
  read : {lent after : List ℤ} {r : Answer} → ReaderCall (sheet_text ns s) lent r after
      → let n = length ns in let l = take (n * (n + 1) / 2) after in
      (number_of r ≡ 0) × (count_of r ≡ n) × FitsList n l × ((i j : ℕ) → i < n → j ≤ i → lower l i j ≡ s i j)
  unfolding reader_refusal reader_checks all row_start
  read {lent} {after} {r} c =
      let z : reader_refusal text ≡ 0 = read_passed in
      let none = c.answered.number ∙ z in
      let is : take (row_start n) after ≡ pair_list n s =
      taken z (pairs text) lent c.written (ap length (sheet_text_pairs formed) ∙ length_pair_list n s) ∙ sheet_text_pairs formed in (
        none,
        counted (reader_refusal text) (entries text) c.answered none ∙ sheet_text_entries formed,
        subst (FitsList n) (sym is) list_fits,
        λ i j h k. ap (λ (l : List ℤ). lower l i j) is ∙ pair_list_at n s i j h k,
      )

-- 2,048 bytes are never short
module _ (kind : ℤ) (s : List ℕ) (buffer : ℕ) where
  abbrev before : List Check
  before = (check1 kind ∷ sheet_checks s) ++ kind_checks kind (entries s) (pairs s)

  at_fourteen : sheet_refusal kind s buffer ≡ 14 → T (none before) × T (ltb buffer (length (sheet_listing kind s)))
  unfolding sheet_refusal sheet_call_checks sheet_checks reader_checks all
  at_fourteen = (first_at 14 (lit< tt) before (ltb buffer (length (sheet_listing kind s))) [] tt tt).0

  left : T (none before) → Passed kind (entries s) (pairs s)
  unfolding sheet_checks reader_checks under all pairs
  left t =
      let e = (first_none before tt).1 t in
      record {
        count = T_false {b = wrong_count (entries s)} (passes 6 before tt e);
        long = length_pair_list (entries s) (value s);
        range = not_not (scores_in_range (pairs s)) (passes 11 before tt e);
        sixteen = passes 16 before tt e;
        twelve = passes 12 before tt e;
      }

  roomy : 2048 ≤ buffer → sheet_refusal kind s buffer ≢ 14
  unfolding sheet_listing
  roomy h e =
      let (t, short) = at_fourteen e in
      let passed = left t in
      omega (arith, listing_room (right_count (entries s) passed.count) passed, ltb-true buffer (length (sheet_listing kind s)) (T_true short))

pub neither_entry : {n i j : ℕ} → i < n → j < n → NoEntries n i j → ⊥
neither_entry h g = ⊎_elim (λ x. omega arith) (λ x. omega arith)

pub whatever_fits : Taken
unfolding c_number
whatever_fits = record {
  listed = λ {ns} {s} f {kind} k {lent} c h.
      let long = length (sheet_listing kind (sheet_text ns s)) in
      let z = refusal_is f k (length lent) ∙ ap (λ (b : Bool). cond b 14 0) (le-ltb (length lent) long h) in
      c.number ∙ ap c_number (c.outcome.answered.is_found z);
  short = λ {ns} {s} f {kind} k {lent} c h.
      let long = length (sheet_listing kind (sheet_text ns s)) in
      let e = refusal_is f k (length lent) ∙ ap (λ (b : Bool). cond b 14 0) (lt-ltb (length lent) long h) in
      c.number ∙ (refused_number c.given 14 (lit< tt)).1 (c.outcome.answered.number ∙ e);
  room = λ {kind} {sheet} {lent} c h e. roomy kind sheet (length lent) h (sym c.outcome.answered.number
      ∙ (refused_number c.given 14 (lit< tt)).0 (sym c.number ∙ e));
  read = λ f c. read f c;
  name = λ {ns} {s} f {i} c h.
      let text = sheet_text ns s in
      let given = (agree_none (reader_agrees text)).0 (read_passed f) in
      let there : i < entries text = omega (arith, sheet_text_entries (formed f)) in
      ((turned_away.name_in_C c).0.name given there).0 ∙ ap (λ (l : List (List ℕ)). get_or l i []) (sheet_text_names (formed f));
  numbers = λ {n} {l} f {kind} k {lent_sets} {sets} {lent_indices} c.
      let j = turned_away.numbers_call c in
      let before : Table = ((1, NoKind kind) ∷ pair_table n l) ++ kind_table kind n l in
      let none = none_both ((1, NoKind kind) ∷ pair_table n l) (kind_table kind n l) ((kind_none k).0, pair_none f) (kind_none k).1 in
      let last : Table = (13, FewerThan2n n (length lent_sets) (length lent_indices)) ∷ [] in (
        λ h g. j.taken.1 (none_both before last none (few h g, tt)),
        λ h. (j.refused 13 (lit< tt)).1 (given_behind before last 13 none (inl (refl, inl h))),
        λ h. (j.refused 13 (lit< tt)).1 (given_behind before last 13 none (inl (refl, inr h))),
      );
  linked = λ {n} {l} f scored {linkage} {lent} c.
      let j = turned_away.linkage_call c in
      let none = none_both (pair_table n l) ((16, HasMark l) ∷ []) (pair_none f) (scored, tt) in
      let last : Table = (15, length lent < n - 1) ∷ [] in (
        λ h. j.taken.1 (none_both (scored_table n l) last none (λ g. omega arith, tt)),
        λ h. (j.refused 15 (lit< tt)).1 (given_behind (scored_table n l) last 15 none (inl (refl, h))),
      );
  anchored = λ {n} {l} f d {x} {lent} c.
      let j = turned_away.anchored_call c in
      let none = distance_none f d in
      let last : Table = (15, AnchorOrShort n x (length lent)) ∷ [] in (
        λ h g. j.taken.1 (none_both (distance_table n l) last none (neither h g, tt)),
        λ h. (j.refused 15 (lit< tt)).1 (given_behind (distance_table n l) last 15 none (inl (refl, inl h))),
        λ h. (j.refused 15 (lit< tt)).1 (given_behind (distance_table n l) last 15 none (inl (refl, inr h))),
      );
  looked_up = λ {n} {l} f {i} {j} c hi hj.
      let (number, e, judged) = turned_away.score_in_C c in
      e ∙ ap pos (judged.taken.1 (none_both (length_table n l) ((15, NoEntries n i j) ∷ []) (length_none f) (neither_entry hi hj, tt)));
}
  where
    few : {m a b : ℕ} → m ≤ a → m ≤ b → (a < m) ⊎ (b < m) → ⊥
    few h g = ⊎_elim (λ x. omega arith) (λ x. omega arith)

    neither : {n x slots m : ℕ} → x < n → m ≤ slots → (n ≤ x) ⊎ (slots < m) → ⊥
    neither h g = ⊎_elim (λ x. omega arith) (λ x. omega arith)
