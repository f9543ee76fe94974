-- The demands, from the outcomes of the calls and the theorems about groups.
use mathlib.Core.Path.{◌≡◌, refl, sym, ap, ap₂, ◌∙◌, subst, subst₂}
use mathlib.Core.Bool.{not}
use mathlib.Core.Logic.{◌⊎◌, inl, inr, ◌≢◌, ◌↔◌}
use mathlib.Core.List.{List, [], ◌∷◌, ◌++◌, map, map-map, map-id}
use mathlib.Core.Option.{some, some-injective}
use Prim.Native.Nat.{ℕ, zero, suc, ◌-◌, ◌^◌, ◌<◌, ◌≤◌}
use native.Mathlib.Nat.{pow-le-pow_right}
use native.Mathlib.Omega.{arith}
use lib.IntN.{ℤ, pos, neg_ℤ}
use lib.Signed.{◌≤ℤ◌, le_z, le_z_yes}
use lib.Dec.{T, lit<}
use lib.ListN.{length, take, replicate, length-map}
use Rattle.lists.specs.Lists.{◌∈◌, all}
use Rattle.lists.proofs.Lists.{of_map}
use Rattle.lists.proofs.Tests.{and_T, T_and}
use Rattle.integers.specs.Integers.{eq_z}
use Rattle.integers.proofs.Linear.{zarith, up, dn}
use Rattle.sets.specs.Sets.{size, complement}
use Rattle.sets.proofs.Sets.{complement_lt, in_complement, not_complement}
use Rattle.clusters.specs.PairList.{Similarity, Symmetric, row_start, score, score_limit}
use Rattle.clusters.specs.Fillings.{Fills, AllScored}
use Rattle.clusters.specs.Farris.{farris, unfarris, anchored_scores, distances_back}
use Rattle.sets.specs.Sets.{◌∪◌}
use Rattle.clusters.specs.Linkage.{Linkage, singles, Tree, merged_blocks, blocks}
use Rattle.clusters.proofs.Exists.{tree_length}
use Rattle.clusters.specs.Groups.{
  Kind,
  HasLine,
  strong,
  clean,
  splits,
  kind_of,
  speaks_of,
  positive,
  group_sets,
  groups,
  tree_linkage,
  TreeScores,
}
use Rattle.clusters.specs.declared.Group.{Group}
use Rattle.clusters.proofs.Farris.{separation_either_side}
use Rattle.clusters.proofs.PairList.{score_symm, length_pair_list}
use Rattle.clusters.proofs.Groups.{in_groups, line_by, group_set, groups_rise, rising_distinct, listed_index, groups_sets}
use Rattle.clusters.proofs.Doubled.{index_within, positive_within, groups_within, groups_within_lem}
use Rattle.clusters.proofs.Scored.{AllAllowed}
use Rattle.clusters.proofs.Fillings.{least_is, scored_fills}
use Rattle.clusters.proofs.Theorems.{group_in_tree, groups_nested, groups_bound}
use Rattle.clusters.proofs.Reordering.{groups_image}
use Rattle.answers.specs.Answers.{number_of, Answer, count_of, Answered, filled}
use Rattle.answers.proofs.Answers.{slots_refused}
use Rattle.answers.proofs.Answers.{found_count}
use Rattle.interface.specs.Sheet.{entries, pairs}
use Rattle.interface.specs.Listing.{Line, line_of, group_of, listing, groups_found, pairs_listing, sheet_listing, listing_read}
use Rattle.interface.specs.Refusals.{most_entries, sheet_call_checks, sheet_refusal, numbers_refusal, linkage_refusal, anchored_refusal, back_refusal, sheet_checks, reader_checks, none, check1, kind_checks, check14, wrong_kind, check11}
use Rattle.interface.specs.Calls.{CCall, NumbersCall, sets_found, indices_found, groups_in, LinkageCall, AnchoredCall, BackCall}
use Rattle.interface.proofs.Refusals.{few_count, numbered, first_none, none_append}
use Rattle.interface.proofs.Lines.{Readable, listing_read_lem}
use Rattle.interface.proofs.Outcomes.{refused_number, counted_number, taken, dropped, not_refused, counted}
use Rattle.interface.proofs.Slots.{length_groups_in, group_at, groups_slots}
use Rattle.interface.proofs.Accepted.{Passed, passed_allowed, passed_scored, sheet_passed, numbers_passed, linkage_scored}
use Rattle.interface.proofs.Anchored.{length_anchored, way_back}
use Rattle.demands.specs.Demands.{
  ListedOrRefused,
  Demand1,
  Listed,
  by_sheet_call,
  Wrote,
  in_lines,
  in_slots,
  IndexIs,
  Indices,
  Demand2,
  Proper,
  Positive,
  SameGroups,
  Complete,
  Demand3,
}
use Rattle.demands.specs.Tables.{sheet_table}
use Rattle.demands.proofs.Agree.{Agree, agree_first, agree_none}
use Rattle.demands.proofs.AgreeTables.{sheet_agrees}
use Rattle.demands.proofs.Spoken.{spoken_says}

-- demand 1
answer_1 : (kind : ℤ) (sheet lent : List ℕ) (r : ℤ) (after : List ℕ) → CCall kind sheet lent r after → ListedOrRefused kind sheet lent r after
unfolding sheet_refusal
answer_1 kind sheet lent r after c = record {
  refusal = λ k h. let f = agree_first agree k h in (λ q. f.0 ((minus k h).0 q), λ x. (minus k h).1 (f.1 x));
  refused = λ k h q. c.outcome.written ∙ slots_refused number text lent (above ((minus k h).0 q) h);
  listed =
      let f = agree_none agree in
      (λ q. f.0 ((plain (length text)).0 q).0, λ x. (plain (length text)).1 (f.1 x, refl));
  written = λ count q. let (z, long) = (plain count).0 q in (taken z text lent c.outcome.written long, dropped z text lent c.outcome.written long);
  either = go number refl;
}
  where
    number : ℕ
    number = sheet_refusal kind sheet (length lent)

    text : List ℕ
    text = sheet_listing kind sheet

    agree : Agree (sheet_call_checks kind sheet (length lent)) (sheet_table kind sheet (length lent))
    agree = sheet_agrees kind sheet (length lent)

    said : Answered number (length text) c.given
    said = c.outcome.answered

    minus : (k : ℕ) → 0 < k → (r ≡ neg_ℤ (pos k)) ↔ (number ≡ k)
    minus k h =
        let f = refused_number c.given k h in
        (λ q. sym said.number ∙ f.0 (sym c.number ∙ q), λ z. c.number ∙ f.1 (said.number ∙ z))

    plain : (count : ℕ) → (r ≡ pos count) ↔ ((number ≡ 0) × (length text ≡ count))
    plain count =
        let f = counted_number c.given count in (
          λ q.
              let (z, e) = f.0 (sym c.number ∙ q) in
              let none = not_refused number (length text) said z in
              (none, sym (counted number (length text) said z) ∙ e),
          λ (z, e). c.number ∙ f.1 (said.number ∙ z, found_count said z ∙ e),
        )

    above : {j k : ℕ} → j ≡ k → 0 < k → 0 < j
    above e h = omega arith

    go : (j : ℕ) → number ≡ j → ((k : ℕ) × (0 < k) × (r ≡ neg_ℤ (pos k))) ⊎ (r ≡ pos (length text))
    go zero z = inr ((plain (length text)).1 (z, refl))
    go (suc j) z = inl (suc j, omega arith, (minus (suc j) (omega arith)).1 z)

pub demand_1 : Demand1
demand_1 = record { answered = λ {kind} {sheet} {lent} {after} {r} c. answer_1 kind sheet lent r after c }

-- bytes that a call listed are the sheet's listing, and no check refused
pub record Accepted (kind : ℤ) (sheet bytes : List ℕ) : Type 0 where
  pub buffer : ℕ
  pub passed : sheet_refusal kind sheet buffer ≡ 0
  pub are : bytes ≡ sheet_listing kind sheet

pub accepted : {kind : ℤ} {sheet bytes : List ℕ} → Listed kind sheet bytes → Accepted kind sheet bytes
accepted {kind} {sheet} (by_sheet_call {lent} c z) =
    let k = sheet_refusal kind sheet (length lent) in
    let text = sheet_listing kind sheet in
    let none = not_refused k (length text) c.answered z in
    record {
      buffer = length lent;
      passed = none;
      are = taken none text lent c.written (sym (counted k (length text) c.answered z));
    }

-- what the checks left of a sheet that is listed
sheet_left : {kind : ℤ} {sheet bytes : List ℕ} → Listed kind sheet bytes → Passed kind (entries sheet) (pairs sheet)
sheet_left {kind} {sheet} l = let a = accepted l in sheet_passed kind sheet a.buffer a.passed

sheet_numbered : (kind : ℤ) (sheet : List ℕ) (buffer : ℕ) → T (numbered (sheet_call_checks kind sheet buffer))
unfolding sheet_call_checks sheet_checks reader_checks all
sheet_numbered kind sheet buffer = tt

pub sheet_read : {kind : ℤ} {sheet bytes : List ℕ} → Listed kind sheet bytes → T (none (reader_checks sheet))
unfolding sheet_refusal sheet_call_checks sheet_checks all
sheet_read {kind} {sheet} l =
    let a = accepted l in
    let front = check1 kind ∷ sheet_checks sheet in
    let back = kind_checks kind (entries sheet) (pairs sheet) in
    let last = check14 a.buffer (sheet_listing kind sheet) ∷ [] in
    let all-passed = (first_none (sheet_call_checks kind sheet a.buffer) (sheet_numbered kind sheet a.buffer)).0 a.passed in
    let (most, _) = (none_append (front ++ back) last).0 all-passed in
    let (first, _) = (none_append front back).0 most in
    let (_, passed) = and_T (not (wrong_kind kind)) (none (sheet_checks sheet)) first in
    ((none_append (reader_checks sheet) (check11 (pairs sheet) ∷ [])).0 passed).0

-- 8 hexadecimal digits have room for every set of entries
digits_room : (n : ℕ) → n ≤ most_entries → 2 ^ n ≤ 16 ^ 8
unfolding most_entries
digits_room n h = pow-le-pow_right (lit< tt) h

-- the lines of a sheet that is listed
module _ {kind : ℤ} {sheet bytes : List ℕ} (l : Listed kind sheet bytes) where
  pub lines : List Line
  lines = map (line_of (entries sheet)) (groups_found kind (entries sheet) (pairs sheet))

  pub readable : (x : Line) → x ∈ lines → Readable x
  unfolding lines groups_found line_of up dn
  readable x m =
      let n = entries sheet in
      let s = score (pairs sheet) in
      let (g, mg, e) = of_map (line_of n) (groups (kind_of kind) n s) m in
      let (low, t, is) = (in_groups (kind_of kind) n s g).0 mg in
      subst (λ (y : Line). Readable y) (sym e) (record {
        fits = omega (arith, digits_room n (few_count n (sheet_left l).count));
        natural = omega (zarith, listed_index (kind_of kind) n s g.set t);
      })

  pub lines_are : bytes ≡ listing lines
  unfolding sheet_listing pairs_listing lines
  lines_are = (accepted l).are

  pub lines_read : listing_read bytes ≡ some lines
  lines_read = ap listing_read lines_are ∙ listing_read_lem lines readable

  line_size : (x : Line) → x ∈ lines → x.size ≡ size (entries sheet) x.set
  unfolding lines line_of
  line_size x m =
      let n = entries sheet in
      let (g, _, e) = of_map (line_of n) (groups_found kind n (pairs sheet)) m in
      ap (λ (y : Line). y.size) e ∙ sym (ap (λ (y : Line). size n y.set) e)

  lines_groups : map group_of lines ≡ groups (kind_of kind) (entries sheet) (score (pairs sheet))
  unfolding lines groups_found line_of group_of
  lines_groups =
      let n = entries sheet in
      let found = groups (kind_of kind) n (score (pairs sheet)) in
      map-map group_of (line_of n) found ∙ map-id found

-- the slots of a numbers call that is not refused
module _ {kind : ℤ} {n : ℕ} {l : List ℤ} {lent_sets : List ℕ} {lent_indices : List ℤ} {r : Answer} {sets : List ℕ} {indices : List ℤ}
    (c : NumbersCall kind n l lent_sets lent_indices r sets indices) (z : number_of r ≡ 0) where
  abbrev found : List Group
  found = groups_found kind n l

  numbers_left : Passed kind n l
  numbers_left = numbers_passed kind n l (length lent_sets) (length lent_indices)
      (not_refused (numbers_refusal kind n l (length lent_sets) (length lent_indices)) (length found) c.answered z)

  count_found : count_of r ≡ length found
  count_found = counted (numbers_refusal kind n l (length lent_sets) (length lent_indices)) (length found) c.answered z

  slots_found : groups_in (count_of r) sets indices ≡ found
  unfolding sets_found indices_found filled
  slots_found =
      let k = numbers_refusal kind n l (length lent_sets) (length lent_indices) in
      let none = not_refused k (length found) c.answered z in
      let s = c.sets_written ∙ ap (λ (j : ℕ). filled 0 j (sets_found kind n l) lent_sets) none in
      let i = c.indices_written ∙ ap (λ (j : ℕ). filled (pos 0) j (indices_found kind n l) lent_indices) none in
      ap₂ (λ (s : List ℕ) (i : List ℤ). groups_in (count_of r) s i) s i
      ∙ ap (λ (j : ℕ). groups_in j (filled 0 0 (sets_found kind n l) lent_sets) (filled (pos 0) 0 (indices_found kind n l) lent_indices)) count_found
      ∙ groups_slots found
      (replicate (length lent_sets - length (sets_found kind n l)) 0)
      (replicate (length lent_indices - length (indices_found kind n l)) (pos 0))

-- what a call wrote is the groups of a list that passes
pub wrote : {kind : ℤ} {n : ℕ} {l : List ℤ} {found : List Group} → Wrote kind n l found → found ≡ groups (kind_of kind) n (score l)
unfolding groups_found
wrote (in_lines {ls = ls} l e) =
    let same = some-injective ls (lines l) (sym e ∙ lines_read l) in
    ap (map group_of) same ∙ lines_groups l
wrote (in_slots c z) = slots_found c z

pub wrote_passed : {kind : ℤ} {n : ℕ} {l : List ℤ} {found : List Group} → Wrote kind n l found → Passed kind n l
wrote_passed (in_lines l e) = sheet_left l
wrote_passed (in_slots c z) = numbers_left c z

pub wrote_allowed : {kind : ℤ} {n : ℕ} {l : List ℤ} {found : List Group} → Wrote kind n l found → AllAllowed score_limit n (score l)
wrote_allowed w = passed_allowed (wrote_passed w)

pub wrote_scored : {kind : ℤ} {n : ℕ} {l : List ℤ} {found : List Group} → kind ≢ pos 1 → Wrote kind n l found → AllScored n (score l)
wrote_scored d w = passed_scored (wrote_passed w) d

-- what computes the index of a set gives its index, and what is listed is what is of positive index
pub index_is : (limit : ℕ) (k : Kind) (n : ℕ) (s : Similarity) → Symmetric s → (A : ℕ) (z : ℤ) → IndexIs limit k n s A z ↔ (z ≡ index_within limit k n s A)
unfolding index_within
index_is limit strong n s symm A z = least_is limit n s symm A z
index_is limit clean n s symm A z = (λ e. e, λ e. e)
index_is limit splits n s symm A z = (λ e. e, λ e. e)

pub line_positive : (limit : ℕ) (k : Kind) (n : ℕ) (s : Similarity) → Symmetric s → (A : ℕ) (z : ℤ)
    → HasLine (groups_within limit k n s) A z ↔ Positive limit k n s A z
unfolding groups_within positive_within positive
line_positive limit k n s symm A z =
    let is = index_is limit k n s symm A z in
    let line = line_by (positive_within limit k n s) (index_within limit k n s) n A z in
    let spoken = speaks_of k n A in
    let one = le_z (pos 1) (index_within limit k n s A) in (
      λ m.
          let (h, t, e) = line.0 m in
          let (p, i) = and_T spoken one t in
          record {
            fits = h;
            spoken = (spoken_says k n A).to p;
            index_is = is.1 e;
            positive = subst (λ y. pos 1 ≤ℤ y) (sym e) (le_z_yes i);
          },
      λ p.
          let e = is.0 p.index_is in
          let i : pos 1 ≤ℤ index_within limit k n s A = subst (λ y. pos 1 ≤ℤ y) e p.positive in
          line.1 (p.fits, T_and spoken one ((spoken_says k n A).from p.spoken) i.le, e),
    )

-- demands 2 and 3 of the groups
module _ (kind : ℤ) (n : ℕ) (s : Similarity) (symm : Symmetric s) where
  abbrev these : List Group
  these = groups (kind_of kind) n s

  exact : (A : ℕ) (z : ℤ) → HasLine these A z ↔ Positive score_limit (kind_of kind) n s A z
  exact A z = subst (λ (g : List Group). HasLine g A z ↔ Positive score_limit (kind_of kind) n s A z) (sym (groups_within_lem (kind_of kind) n s))
      (line_positive score_limit (kind_of kind) n s symm A z)

  of_group : (g : Group) → g ∈ these → Positive score_limit (kind_of kind) n s g.set g.index
  of_group g m = (exact g.set g.index).0 (g, m, refl, refl)

  indices_right : Indices kind n s these
  unfolding kind_of eq_z
  indices_right = record { strong_index_lem = right (pos 1); clean_index_lem = right (pos 2); separation_index_lem = right (pos 3) }
    where
      right : (j : ℤ) → kind ≡ j → (g : Group) → g ∈ these → IndexIs score_limit (kind_of j) n s g.set g.index
      right j e g m = subst (λ (i : ℤ). IndexIs score_limit (kind_of i) n s g.set g.index) e (of_group g m).index_is

  in_tree : (j : ℤ) → kind ≡ j → (g : Group) → g ∈ these → (f : Similarity) → TreeScores (kind_of j) n s f
      → (ms : List (ℕ × ℕ)) → Tree (tree_linkage (kind_of j)) n f ms → g.set ∈ blocks n ms
  in_tree j e g m f h ms t = group_in_tree (kind_of kind) n s symm g.set (group_set (kind_of kind) n s m) f
      (subst (λ (i : ℤ). TreeScores (kind_of i) n s f) (sym e) h) ms
      (subst (λ (i : ℤ). Tree (tree_linkage (kind_of i)) n f ms) (sym e) t)

  -- of kind 3
  split_exact : kind ≡ pos 3 → (A : ℕ) (z : ℤ) → HasLine these A z ↔ Positive score_limit splits n s A z
  unfolding kind_of eq_z
  split_exact e A z = subst (λ (j : ℤ). HasLine these A z ↔ Positive score_limit (kind_of j) n s A z) e (exact A z)

  complete : Complete kind n s these
  unfolding kind_of eq_z tree_linkage
  complete = record {
    exactly = exact;
    once = rw (groups_sets (kind_of kind) n s) (rising_distinct n (group_sets (kind_of kind) n s) (groups_rise (kind_of kind) n s));
    rising = rw (groups_sets (kind_of kind) n s) (groups_rise (kind_of kind) n s);
    few = groups_bound (kind_of kind) n s symm;
    strong_in_trees = in_tree (pos 1);
    clean_in_trees = λ e g m. in_tree (pos 2) e g m s refl;
    splits_in_trees = λ e g m. in_tree (pos 3) e g m (farris s 0) refl;
    nested = λ g h a b. groups_nested (kind_of kind) n s symm g.set h.set (group_set (kind_of kind) n s a) (group_set (kind_of kind) n s b);
    one_split = λ e g m.
        let p = (split_exact e g.set g.index).0 (g, m, refl, refl) in
        (p.spoken.1, p.index_is, p.index_is ∙ sym (separation_either_side n s symm g.set));
    either_side = λ e A low p z is h. (
      λ f. (split_exact e A z).1 (record { fits = low; spoken = (p, f); index_is = is; positive = h }),
      λ f.
          let C = complement n A in
          let (ha, hx) = p.there in
          let turned : Proper n C = record { a = p.x; x = p.a; there = (hx, ha); inside = in_complement n A hx p.outside; outside = not_complement n A ha p.inside } in
          (split_exact e C z).1 (record {
            fits = complement_lt n A;
            spoken = (turned, not_complement n A (omega arith) f);
            index_is = is ∙ sym (separation_either_side n s symm A);
            positive = h;
          }),
    );
  }

-- demand 2: the anchored scores, and the way back from what was written
module _ {n x : ℕ} {distances lent after : List ℤ} {r : Answer} (a : AnchoredCall n x distances lent r after) (z : number_of r ≡ 0)
    {lent' after' : List ℤ} {r' : Answer} (b : BackCall n x (take (count_of r) after) lent' r' after') (room : count_of r ≤ length lent') where
  pub back_again : (number_of r' ≡ 0) × (count_of r' ≡ count_of r) × (take (count_of r') after' ≡ distances)
  unfolding anchored_scores distances_back
  back_again =
      let k = anchored_refusal n x distances (length lent) in
      let first = not_refused k (row_start n) a.answered z in
      let count = counted k (row_start n) a.answered z in
      let scores = taken first (anchored_scores n x distances) lent a.written (length_anchored n x distances ∙ sym count) in
      let (passes, same) = way_back n x distances (length lent) (length lent') first (omega arith) in
      let S = take (count_of r) after in
      let k' = back_refusal n x S (length lent') in
      let first' : k' ≡ 0 = ap (λ (l : List ℤ). back_refusal n x l (length lent')) scores ∙ passes in
      let z' = b.answered.number ∙ first' in
      let count' = counted k' (row_start n) b.answered z' in
      let long : length (distances_back n S) ≡ count_of r' = length_pair_list n (unfarris (score S)) ∙ sym count' in
      (z', count' ∙ sym count, taken first' (distances_back n S) lent' b.written long ∙ ap (distances_back n) scores ∙ same)

pub demand_2 : Demand2
demand_2 = record {
  indices = λ {kind} {n} {l} w. subst (λ (g : List Group). Indices kind n (score l) g) (sym (wrote w)) (indices_right kind n (score l) (score_symm l));
  back = λ a z b room. back_again a z b room;
}

-- what a linkage call writes: as many blocks as a tree merges, in the order of its merges
pub record Merged {linkage : Linkage} {n : ℕ} {l : List ℤ} {lent after : List ℕ} {r : Answer} (c : LinkageCall linkage n l lent r after) : Type 0 where
  pub tree : Tree linkage n (score l) c.merges
  pub count : suc (count_of r) ≡ n
  pub many : length c.merges ≡ count_of r
  pub long : length (merged_blocks c.merges) ≡ count_of r
  pub slots : take (count_of r) after ≡ merged_blocks c.merges

pub merged_slots : {linkage : Linkage} {n : ℕ} {l : List ℤ} {lent after : List ℕ} {r : Answer} (c : LinkageCall linkage n l lent r after) → number_of r ≡ 0 → Merged c
unfolding merged_blocks
merged_slots {linkage} {n} {l} {lent} {r = r} c none =
    let k = linkage_refusal n l (length lent) in
    let z = not_refused k (n - 1) c.answered none in
    let t = c.tree z in
    let count = counted k (n - 1) c.answered none in
    let all = tree_length linkage n (score l) c.merges t in
    let long : length (merged_blocks c.merges) ≡ count_of r = length-map c.merges (λ (U, W). U ∪ W) ∙ omega (arith, count, all) in
    record {
      tree = t;
      count = omega (arith, count, all);
      many = omega (arith, count, all);
      long = long;
      slots = taken z (merged_blocks c.merges) lent c.written long;
    }

-- they are the blocks of the tree, but for the single entries
linked : {linkage : Linkage} {n : ℕ} {l : List ℤ} {lent after : List ℕ} {r : Answer} (c : LinkageCall linkage n l lent r after) → number_of r ≡ 0
    → (singles n ++ take (count_of r) after ≡ blocks n c.merges) × Tree linkage n (score l) c.merges
unfolding blocks
linked {n = n} c none = let m = merged_slots c none in (ap (λ (bs : List ℕ). singles n ++ bs) m.slots, m.tree)

wrote_all : {kind : ℤ} {n : ℕ} {l : List ℤ} {found : List Group} → Wrote kind n l found → Complete kind n (score l) found
wrote_all {kind} {n} {l} w = subst (λ (g : List Group). Complete kind n (score l) g) (sym (wrote w)) (complete kind n (score l) (score_symm l))

-- a list of which a linkage call wrote blocks has every pair scored, so it is its own filling
linked_fills : {linkage : Linkage} {n : ℕ} {l : List ℤ} {lent after : List ℕ} {r : Answer} → LinkageCall linkage n l lent r after → number_of r ≡ 0
    → Fills score_limit n (score l) (score l)
linked_fills {n = n} {l} {lent} c none =
    scored_fills score_limit n (score l) (score_symm l)
    (linkage_scored n l (length lent) (not_refused (linkage_refusal n l (length lent)) (n - 1) c.answered none))

-- demand 3
pub demand_3 : (kind : ℤ) → Demand3 kind
demand_3 kind = record {
  lines = λ l. (lines l, lines_read l, line_size l);
  slots = λ {n} {l} {lent_indices} {indices} {lent_sets} {sets} {r} c z. (
    length_groups_in (count_of r) sets indices,
    λ k h none. let at = group_at (count_of r) sets indices k none h in (ap (λ (g : Group). g.set) at, ap (λ (g : Group). g.index) at),
  );
  complete = wrote_all;
  strong_linked = λ e {n} {l} c none w g m. let (b, t) = linked c none in
      subst (λ (bs : List ℕ). g.set ∈ bs) (sym b) ((wrote_all w).strong_in_trees e g m (score l) (linked_fills c none) c.merges t);
  filled_linked = λ e {n} {l} {filling} c none fills w g m. let (b, t) = linked c none in
      subst (λ (bs : List ℕ). g.set ∈ bs) (sym b) ((wrote_all w).strong_in_trees e g m (score filling) fills c.merges t);
  clean_linked = λ e c none w g m. let (b, t) = linked c none in
      subst (λ (bs : List ℕ). g.set ∈ bs) (sym b) ((wrote_all w).clean_in_trees e g m c.merges t);
  reordered = λ {n} {l} {l'} w w' p m.
      subst₂ (λ (g g' : List Group). SameGroups (kind_of kind) n p g g') (sym (wrote w)) (sym (wrote w'))
      (groups_image (kind_of kind) n p (score l) (score l') m (score_symm l) (score_symm l'));
}
