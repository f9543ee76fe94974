-- What each call of document 01 answers, by its table in words; and the name of an entry.
use mathlib.Core.Path.{◌≡◌, refl, sym, ap, ap₂, ◌∙◌, subst}
use mathlib.Core.Bool.{cond}
use mathlib.Core.Logic.{◌≢◌}
use mathlib.Core.List.{List, [], ◌∷◌}
use Prim.Native.Nat.{ℕ, ◌<◌}
use native.Mathlib.Omega.{arith}
use borrow.Author.Tests.{ne_eqb}
use lib.IntN.{pos, ℤ}
use lib.ListN.{length, get_or, take, drop}
use Rattle.lists.proofs.Tests.{T_true, T_false}
use Rattle.pairs.specs.declared.Carried.{Carried}
use Rattle.pairs.specs.declared.Pair.{Pair}
use Rattle.pairs.specs.declared.Carried.TheVariants.{Scored, Unscored}
use Rattle.answers.specs.Answers.{number_of, Answer, count_of, filled}
use Rattle.std.specs.Prelude.{Ok, Err}
use Rattle.answers.specs.Shared.{Shared, shared_line}
use Rattle.answers.specs.Values.{ValueRead}
use Rattle.answers.proofs.Answers.{count_refused}
use Rattle.interface.specs.Sheet.{is_lone_minus, is_cell, value_of, pair_said, cut, names, entries}
use Rattle.interface.specs.Refusals.{
  first_of,
  reader_checks,
  score_checks,
  sheet_refusal,
  numbers_refusal,
  linkage_refusal,
  anchored_refusal,
  back_refusal,
  reader_refusal,
  score_refusal,
}
use Rattle.interface.specs.Calls.{c_number, line_answer, has_name, name_of, name_start, start_of, behind, piece_at, ValueCall, sets_found, indices_found}
use Rattle.demands.specs.Sentences.{CellSays, points, lone_minus, count, Pieces}
use Rattle.demands.specs.Tables.{NoneGiven, reader_table}
use Rattle.demands.specs.TurnedAway.{NameHanded, ValueHanded, TurnedAway, NumberInC}
use Rattle.interface.proofs.Pieces.{some_piece}
use Rattle.interface.proofs.Values.{signed_lone}
use Rattle.demands.proofs.InPoints.{says_written, says_value}
use Rattle.demands.proofs.Cells.{says_cell}
use Rattle.demands.proofs.Agree.{Says, and_says, not_says, like, eq_says, lt_says, agree_none, judged, judged_by}
use Rattle.demands.proofs.AgreeText.{cut_pieces, pieces_cut, parted, formed_says}
use Rattle.demands.proofs.AgreeTables.{
  reader_agrees,
  sheet_agrees,
  numbers_agree,
  linkage_agrees,
  anchored_agrees,
  back_agrees,
  score_agrees,
}
use Rattle.interface.proofs.Outcomes.{refused_number, counted_number}
use Rattle.demands.proofs.Starts.{name_there, spaces_before, no_feed_before}
use Rattle.interface.specs.Listing.{groups_found}

-- a name
named : (sheet : List ℕ) (i : ℕ) → Says (has_name sheet i) (NoneGiven (reader_table sheet) × (i < entries sheet))
unfolding has_name reader_refusal
named sheet i =
    let f = agree_none (reader_agrees sheet) in
    and_says (like (eq_says (first_of (reader_checks sheet)) 0) f.0 f.1) (lt_says i (entries sheet))

handed : (sheet : List ℕ) (i : ℕ) {part : List ℕ} {start : ℕ} → part ≡ name_of sheet i → start ≡ name_start sheet i → NameHanded sheet i part start
unfolding name_of name_start
handed sheet i {part} {start} p q = record {
  name = λ g h.
      let e = T_true {b = has_name sheet i} ((named sheet i).from (g, h)) in
      let at : start ≡ start_of (names sheet) i = q ∙ rw e in
      let is : part ≡ get_or (names sheet) i [] = p ∙ rw e in
      let there : take (length part) (drop start sheet) ≡ part =
      ap₂ (λ (w : List ℕ) (k : ℕ). take (length w) (drop k sheet)) is at ∙ name_there sheet i h ∙ sym is in
      (is, there, ap (λ (k : ℕ). count 32 (take k sheet)) at ∙ spaces_before sheet i h, ap (λ (k : ℕ). count 10 (take k sheet)) at ∙ no_feed_before sheet i h);
  refused = λ f. let e = T_false {b = has_name sheet i} ((not_says (named sheet i)).from (λ (g, _). f g)) in (p ∙ rw e, q ∙ rw e);
  past = λ h. let e = T_false {b = has_name sheet i} ((not_says (named sheet i)).from (λ (_, k). omega arith)) in (p ∙ rw e, q ∙ rw e);
}

-- a value
pair_says : {w : List ℕ} {c : Carried} → CellSays w c → pair_said w ≡ record { carries = c }
unfolding pair_said is_lone_minus
pair_says (points {w} {z} p h) =
    ap {B = Pair} (λ b. record { carries = cond b Unscored (Scored (value_of w)) }) (ap is_lone_minus (says_written p) ∙ signed_lone z)
    ∙ ap {B = Pair} (λ y. record { carries = Scored y }) (says_value p)
pair_says lone_minus = refl

handed_value : {line : List ℕ} {at : ℕ} {r : ValueRead} → ValueCall line at r → ValueHanded line at r
unfolding piece_at
handed_value {line} {at} {r} c = record {
  piece = piece_at 32 line at;
  others = tail (cut 32 (drop at line));
  parted = subst (Pieces 32 (drop at line)) (whole (cut 32 (drop at line)) (some_piece 32 (drop at line))) (cut_pieces 32 (drop at line));
  value = λ d says.
      let e = T_true {b = is_cell (piece_at 32 line at)} (says_cell says) in
      (c.number ∙ rw e, c.pair ∙ rw e (pair_says says), c.place ∙ rw e);
  refused = λ f.
      let e = T_false {b = is_cell (piece_at 32 line at)} ((not_says (formed_says (piece_at 32 line at))).from f) in
      (c.number ∙ rw e, c.pair ∙ rw e, c.place ∙ rw e);
}
  where
    tail : List (List ℕ) → List (List ℕ)
    tail [] = []
    tail (w ∷ ws) = ws

    whole : (ws : List (List ℕ)) → 0 < length ws → ws ≡ get_or ws 0 [] ∷ tail ws
    whole [] h = absurd (omega arith)
    whole (w ∷ ws) h = refl

-- an answer's number in C
pub in_C : (a : Answer) {r : ℤ} → r ≡ c_number a → NumberInC (number_of a) (count_of a) r
in_C a e = record {
  counted = λ c. let f = counted_number a c in (λ q. f.0 (sym e ∙ q), λ z. e ∙ f.1 z);
  refused = λ k h. let f = refused_number a k h in (λ q. f.0 (sym e ∙ q), λ z. e ∙ f.1 z);
}

-- and of a set's line
pub line_in_C : (a : Shared) {r : ℤ} → r ≡ c_number (line_answer a) → NumberInC (number_of a) (shared_line a) r
unfolding line_answer shared_line count_of
line_in_C (Ok found) e = in_C (Ok found.line) e
line_in_C (Err refusal) e = in_C (Err refusal) e

-- a slice that a call fills with 0: refused, nothing is written
unfilled : {A : Type 0} (nil : A) (k : ℕ) (result lent : List A) {after : List A} → after ≡ filled nil k result lent → k ≢ 0 → after ≡ lent
unfolding filled
unfilled nil k result lent w f = w ∙ rw (ne_eqb k 0 f)

pub turned_away : TurnedAway
unfolding behind sheet_refusal reader_refusal numbers_refusal linkage_refusal anchored_refusal back_refusal score_refusal
turned_away = record {
  parted = parted;
  one_way = λ p q. sym (pieces_cut p) ∙ pieces_cut q;
  sheet_call = λ {kind} {sheet} {lent} c. judged_by (sheet_agrees kind sheet (length lent)) _ _ c.answered c.written;
  reader = λ {sheet} c. judged_by (reader_agrees sheet) _ _ c.answered c.written;
  numbers_call = λ {kind} {n} {l} {lent_indices} {indices} {lent_sets} {sets} {r} c.
      let k = numbers_refusal kind n l (length lent_sets) (length lent_indices) in
      let many = length (groups_found kind n l) in
      judged (numbers_agree kind n l (length lent_sets) (length lent_indices)) c.answered.number λ f.
      let g : k ≢ 0 = λ z. f (c.answered.number ∙ z) in (
        unfilled 0 k (sets_found kind n l) lent_sets c.sets_written g,
        unfilled (pos 0) k (indices_found kind n l) lent_indices c.indices_written g,
        count_refused r f,
      );
  linkage_call = λ {linkage} {n} {l} {lent} c. judged_by (linkage_agrees n l (length lent)) _ _ c.answered c.written;
  anchored_call = λ {n} {x} {l} {lent} c. judged_by (anchored_agrees n x l (length lent)) _ _ c.answered c.written;
  back_call = λ {n} {x} {l} {lent} c. judged_by (back_agrees n x l (length lent)) _ _ c.answered c.written;
  in_C = λ c. (c.given, c.outcome, in_C c.given c.number);
  score_in_C = λ {n} {l} {i} {j} c. (
    first_of (score_checks n l i j),
    c.answered,
    judged (score_agrees n l i j) refl (λ f. c.written ∙ rw (ne_eqb (first_of (score_checks n l i j)) 0 f)),
  );
  name_call = λ {sheet} {part} {at} {place} {i} c. (name_start sheet i, handed sheet i c.bytes refl, c.lies);
  name_in_C = λ {sheet} {i} c. (handed sheet i c.bytes c.lies, ap length c.bytes ∙ sym c.answered);
  value_call = handed_value;
}
