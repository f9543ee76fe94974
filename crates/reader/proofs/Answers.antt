-- The table of checks, line by line, and the answers.
use mathlib.Core.Path.{subst, ◌≡◌, sym, ap, ap₂, ◌∙◌}
use mathlib.Core.Bool.{Bool, true, false}
use mathlib.Core.List.{List, [], ◌++◌}
use Prim.Native.Nat.{ℕ, ◌+◌, ◌-◌, ◌≤◌, ◌<◌}
use native.Mathlib.Omega.{arith}
use borrow.Author.Tests.{ne_eqb, eqb-false, ltb-false, lt-ltb, le-ltb}
use native.Mathlib.Decide.{dec_lt}
use lib.Dec.{T, eqb, ltb}
use lib.IntN.{ℤ}
use lib.ListN.{length, get_or, take, drop, length-take}
use lib.Seq.{take_at}
use Rattle.lists.specs.Lists.{below, all}
use Rattle.lists.proofs.Lists.{below_lt, lt_below, all_in, in_all, all_cong}
use Rattle.lists.proofs.Tests.{or_none, T_same, T_false}
use Rattle.integers.specs.Integers.{eq_z}
use Rattle.integers.proofs.Linear.{eq_z_yes, yes_eq_z}
use Rattle.clusters.specs.PairList.{Similarity, pair_list, row_start}
use Rattle.clusters.proofs.PairList.{pair_list_cong, length_pair_list}
use Rattle.std.specs.Prelude.{Ok, Err}
use Rattle.answers.specs.declared.Refusal.{Refusal}
use Rattle.answers.specs.Answers.{number, Answer, Answered, slots}
use Rattle.answers.proofs.Answers.{slots_written, refused_is, found_is}
use Rattle.answers.proofs.WaysOut as ways
use Rattle.interface.specs.Sheet.{space, names, entries, value, pairs, mirrored}
use Rattle.interface.specs.Refusals.{
  most_bytes,
  wrong_length,
  wrong_count,
  reader_checks,
  reader_refusal,
}
use Rattle.interface.specs.Calls.{ReaderCall, has_name, name_of, start_of, name_start, behind, NameCall}
use Rattle.interface.proofs.Refusals.{Gives, under, passes, right_count}
use Rattle.interface.proofs.Pieces.{some_piece}
use Rattle.accept.specs.Read.{PairsRead}
use Rattle.reader.specs.Square.{square, Holds}
use Rattle.reader.specs.Names.{NamePart}
use Rattle.reader.specs.Own.{SheetRead}

-- what check 2 leaves
pub length_right : (s : List ℕ) → wrong_length s ≡ false → (0 < length s) × (length s ≤ 12288)
unfolding wrong_length most_bytes
length_right s e =
    let p = or_none (eqb (length s) 0) (ltb 12288 (length s)) e in
    let f = eqb-false (length s) 0 p.0 in
    (omega arith, ltb-false 12288 (length s) p.1)

-- the square in place of the values
-- below the diagonal is enough
pub mirrored_lower : (n : ℕ) (v : Similarity) → all (λ i. all (λ j. eq_z (v i j) (v j i)) (below i)) (below n) ≡ mirrored n v
unfolding mirrored
mirrored_lower n v = T_same _ _
    (λ t. in_all (λ i. all (same i) (below n)) (below n) (λ i mi. in_all (same i) (below n) (λ j mj.
    go t i j (below_lt n mi) (below_lt n mj) (dec_lt j i) (dec_lt i j))))
    (λ t. in_all (λ i. all (same i) (below i)) (below n) (λ i mi. in_all (same i) (below i) (λ j mj.
    all_in (same i) (below n) (all_in (λ i. all (same i) (below n)) (below n) t mi) (lt_below n j (omega (arith, below_lt n mi, below_lt i mj))))))
  where
    same : ℕ → ℕ → Bool
    same i j = eq_z (v i j) (v j i)

    lower : T (all (λ i. all (same i) (below i)) (below n)) → (i j : ℕ) → i < n → j < i → T (same i j)
    lower t i j hi hj = all_in (same i) (below i) (all_in (λ i. all (same i) (below i)) (below n) t (lt_below n i hi)) (lt_below i j hj)

    go : T (all (λ i. all (same i) (below i)) (below n)) → (i j : ℕ) → i < n → j < n → Dec (j < i) → Dec (i < j) → T (same i j)
    go t i j hi hj (yes h) _ = lower t i j hi h
    go t i j hi hj (no f) (yes h) = yes_eq_z (v i j) (v j i) (sym (eq_z_yes (v j i) (v i j) (lower t j i hj h)))
    go t i j hi hj (no f) (no g) = let e : i ≡ j = omega arith in yes_eq_z (v i j) (v j i) (ap₂ v e (sym e))

pub mirrored_same : (l : List ℤ) (n : ℕ) (v : Similarity) → Holds l n v → mirrored n (square l) ≡ mirrored n v
unfolding mirrored
mirrored_same l n v h =
    all_cong _ _ (below n) (λ i p. all_cong _ _ (below n)
    (λ j q. ap₂ eq_z (h i j (below_lt n p) (below_lt n q)) (h j i (below_lt n q) (below_lt n p))))

pub pairs_length : (s : List ℕ) → length (pairs s) ≡ row_start (entries s)
unfolding pairs
pairs_length s = length_pair_list (entries s) (value s)

pairs_held : (s : List ℕ) (n : ℕ) (m : List ℤ) → n ≡ entries s → Holds m n (value s) → pair_list n (square m) ≡ pairs s
unfolding pairs
pairs_held s n m is h = pair_list_cong n (square m) (value s) (λ a b p q. h a b p (omega arith)) ∙ rw is

-- the ways out of the reader
module _ (s : List ℕ) (l : List ℤ) where
  pub refused : {e : Refusal} → Gives (reader_checks s) (number e) → ReaderCall s l (Err e) l
  unfolding reader_refusal
  refused g =
      let (a, w) = ways.refused (entries s) (pairs s) l g.is in
      record { answered = a; written = w }

  pub passed : (n : ℕ) (m : List ℤ) {o : List ℤ} → Gives (reader_checks s) 0 → n ≡ entries s → Holds m n (value s)
      → o ≡ pair_list n (square m) ++ drop (row_start n) l → ReaderCall s l (Ok n) o
  unfolding reader_refusal
  passed n m g is h e =
      let z : row_start n ≡ length (pairs s) = ap row_start is ∙ sym (pairs_length s) in
      record {
        answered = ways.is_found (entries s) (sym g.is) is;
        written =
            e
            ∙ ap₂ (λ (ps : List ℤ) (k : ℕ). ps ++ drop k l) (pairs_held s n m is h) z
            ∙ sym (slots_written (pairs s) l)
            ∙ ap (λ (r : ℕ). slots r (pairs s) l) g.is;
      }

-- a sheet that passes: it has few entries, and the first slots are its pair list
pub passes_few : (s : List ℕ) → reader_refusal s ≡ 0 → entries s ≤ 32
unfolding reader_refusal reader_checks under all
passes_few s e = right_count (entries s) (T_false {b = wrong_count (entries s)} (passes 6 (reader_checks s) tt e))

pub slots_pairs : (s : List ℕ) (l : List ℤ) → reader_refusal s ≡ 0
    → take (row_start (entries s)) (slots (reader_refusal s) (pairs s) l) ≡ pairs s
slots_pairs s l e = rw (e, slots_written (pairs s) l) (take_at (pairs s) _ (row_start (entries s)) (pairs_length s))

-- a sheet that was accepted in one pass
module _ {s : List ℕ} {n : ℕ} {lent after : List ℤ} (a : PairsRead s n lent after) where
  pub accepted_answer : Answered (reader_refusal s) (entries s) (Ok n)
  accepted_answer = ways.is_found (entries s) a.passed a.count

  pub accepted_pairs : {count : ℕ} → count ≡ row_start n → take count after ≡ pairs s
  accepted_pairs {count} c =
      ap₂ (λ (k : ℕ) (l : List ℤ). take k l) (c ∙ ap row_start a.count) a.written
      ∙ take_at (pairs s) _ (row_start (entries s)) (pairs_length s)

  pub accepted_call : (slot : List ℤ) {written o : List ℤ} → written ≡ pairs s → o ≡ written ++ drop (length written) slot → ReaderCall s slot (Ok n) o
  accepted_call slot e w = record {
    answered = accepted_answer;
    written =
        w
        ∙ ap (λ (l : List ℤ). l ++ drop (length l) slot) e
        ∙ sym (slots_written (pairs s) slot)
        ∙ ap (λ (r : ℕ). slots r (pairs s) slot) (sym a.passed);
  }

-- the entries and the pair list of a sheet that was read
module _ (s : List ℕ) {n : ℕ} (e : Answered (reader_refusal s) (entries s) (Ok n)) where
  pub few_entries : n ≤ 32
  few_entries = rw (found_is e).1 (passes_few s (found_is e).0)

  pub some_entries : 1 ≤ n
  unfolding entries names
  some_entries = rw (found_is e).1 (some_piece space _)

  pub pairs_read : (lent : List ℤ) {held : List ℤ} {count : ℕ} → held ≡ slots (reader_refusal s) (pairs s) lent → count ≡ row_start n → take count held ≡ pairs s
  pairs_read lent w c = rw (c, (found_is e).1, w) (slots_pairs s lent (found_is e).0)

  pub pairs_long : {l : List ℤ} → l ≡ pairs s → length l ≡ row_start n
  pairs_long p = ap length p ∙ pairs_length s ∙ ap row_start (sym (found_is e).1)

  pub pairs_fit : (held : List ℤ) {count : ℕ} → count ≡ row_start n → take count held ≡ pairs s → count ≤ length held
  pairs_fit held {count} c p = omega (arith, pairs_long p, length-take count held)

-- the same of slots of the caller's own
pub pairs_own : {s : List ℕ} {r : Answer} {held : List ℤ} {n count : ℕ} → SheetRead s r held → r ≡ Ok n → count ≡ row_start n → take count held ≡ pairs s
pairs_own {s} {held = held} {n = n} o e c =
    let (z, is) = found_is (subst (λ (r : Answer). Answered (reader_refusal s) (entries s) r) e o.answered) in
    ap (λ (k : ℕ). take k held) (c ∙ ap row_start is) ∙ o.first z

-- the name of an entry: whether there is one, and where it stands
module _ (s : List ℕ) (i : ℕ) where
  pub name_none : {e : Refusal} → Answered (reader_refusal s) (entries s) (Err e) → has_name s i ≡ false
  unfolding has_name
  name_none a = rw (ne_eqb (reader_refusal s) 0 (refused_is a).1)

  pub name_past : {n : ℕ} → Answered (reader_refusal s) (entries s) (Ok n) → n ≤ i → has_name s i ≡ false
  unfolding has_name
  name_past {n} e h = let (z, is) = found_is e in rw (z, le-ltb i (entries s) (omega arith))

  pub name_some : {n : ℕ} → Answered (reader_refusal s) (entries s) (Ok n) → i < n → has_name s i ≡ true
  unfolding has_name
  name_some {n} e h = let (z, is) = found_is e in rw (z, lt-ltb i (entries s) (omega arith))

  pub no_part : (from : ℕ) → has_name s i ≡ false → from ≡ 0 → NamePart s i from from
  unfolding name_of name_start
  no_part from e q =
      let z : from - from ≡ 0 = omega arith in
      record { ordered = omega arith; inside = omega arith; lies = q ∙ rw e; bytes = rw (e, z) }

  pub whole_part_lem : (from to : ℕ) → has_name s i ≡ true → from ≤ to → to ≤ length s → take (to - from) (drop from s) ≡ get_or (names s) i []
      → from ≡ start_of (names s) i → NamePart s i from to
  unfolding name_of name_start
  whole_part_lem from to e h k p q = record { ordered = h; inside = k; lies = q ∙ rw e; bytes = p ∙ rw e }

  pub part_call : (at : ℕ × ℕ) (from to : ℕ) → NamePart s i from to → NameCall s at i (take (to - from) (drop from s)) (at.0, from + at.1)
  unfolding behind
  part_call at from to p = record { bytes = p.bytes; lies = ap (λ (k : ℕ). behind k at) p.lies }
