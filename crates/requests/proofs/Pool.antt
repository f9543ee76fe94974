-- Request 2.4, from the outcomes of the calls, what is read back of a sheet as it is written, and the theorems about pooled scores.
use mathlib.Core.Path.{◌≡◌, refl, sym, ap, ap₂, ◌∙◌, subst, subst₂}
use mathlib.Core.Bool.{not, cond}
use mathlib.Core.Logic.{◌↔◌}
use mathlib.Core.List.{List, []}
use Prim.Native.Nat.{ℕ, ◌^◌, ◌≤◌, ◌<◌}
use native.Mathlib.Omega.{arith}
use borrow.Author.Tests.{lt-ltb, le-ltb}
use lib.Dec.{T, ltb, not_T, T_not}
use lib.IntN.{ℤ, pos, ◌+ℤ◌}
use lib.ListN.{length, get_or}
use lib.Signed.{◌≤ℤ◌}
use Rattle.lists.proofs.Tests.{T_false, T_same, false_T}
use Rattle.sets.specs.Sets.{has}
use Rattle.sets.proofs.Sets.{has_yes, yes_has}
use Rattle.pairs.specs.declared.Carried.{Carried}
use Rattle.pairs.specs.declared.Carried.TheVariants.{Scored, Unscored}
use Rattle.pairs.specs.Pairs.{number_for, carried}
use Rattle.clusters.specs.PairList.{score, score_limit, scores_in_range, is_allowed_pair, one_point, point_limit}
use Rattle.clusters.specs.Groups.{strong, kind_of, index, written_set, HasLine}
use Rattle.clusters.specs.declared.Group.{Group}
use Rattle.clusters.specs.Reordering.{Permutation, Reordered, image}
use Rattle.clusters.specs.Pooling.{added, pooled}
use Rattle.clusters.proofs.PairList.{score_pair_list, of_pair_list}
use Rattle.clusters.proofs.Groups.{of_listed, is_listed, listed_index, line_of}
use Rattle.clusters.proofs.Images.{image_only}
use Rattle.clusters.proofs.Fillings.{filled_cong}
use Rattle.clusters.proofs.Pooled.{both_scored, either_unscored, pooled_turned, pooled_index, pooled_strong, added_carried}
use Rattle.answers.specs.Answers.{number_of, Answer, count_of}
use Rattle.interface.specs.Sheet.{names, entries, value, pairs}
use Rattle.interface.specs.Pool.{place_on, pool_scores, pool_pairs, pool_text}
use Rattle.interface.specs.Refusals.{none, names_differ, sheet_checks, pool_checks, pool_refusal}
use Rattle.interface.specs.Calls.{PoolCall}
use Rattle.interface.proofs.Outcomes.{taken, dropped, not_refused, counted}
use Rattle.interface.proofs.Places.{Matching, same_count, moved_lt, moved_name, moved_only, renumbering, same_names, names_same}
use Rattle.interface.proofs.PoolScores.{Sound, sound, pool_symmetric, pool_allowed, both_sound, pool_passed, pool_last, pool_formed, pool_never_short}
use Rattle.interface.proofs.SheetTexts.{
  WellFormed,
  sheet_text_cong,
  sheet_text_names,
  sheet_text_value,
  sheet_text_pairs,
  sheet_text_accepted,
}
use Rattle.demands.specs.Demands.{Wrote}
use Rattle.demands.proofs.Agree.{Says, denied, lt_says, Agree, done, next, agree_append, agree_tests, judged_by}
use Rattle.demands.proofs.AgreeValues.{carried_says}
use Rattle.demands.proofs.AgreeTables.{scores_agree}
use Rattle.demands.proofs.Demands.{wrote_allowed, demand_3}
use Rattle.requests.specs.Pool.{SameName, SameNames, SumBeyond, pool_table, Pooled, by_pool_call, SameSet, Request2_4}
use Rattle.requests.proofs.Unscored.{strong_wrote}
use Rattle.clusters.proofs.Scored.{allowed_within, within_range}
use Rattle.lists.proofs.Lists.{some_fails}

-- two sheets that pass their checks, with the same names
module _ {first second : List ℕ} (a : Sound first) (b : Sound second) (m : SameNames first second) where
  pub matching : Matching (names first) (names second)
  matching = record { first = a.distinct; second = b.distinct; there = m.there; back = m.back }

  pub same_entries : entries first ≡ entries second
  unfolding entries
  same_entries = same_count matching

  -- entry i of the first: the second has its name at one place
  pub on_second : (i : ℕ) → i < entries first → SameName first second i (place_on first second i)
  unfolding entries place_on
  on_second i h = record { here = h; there = omega (arith, same_count matching, moved_lt matching i h); same = sym (moved_name matching i h) }

  pub only_there : {i j : ℕ} → SameName first second i j → place_on first second i ≡ j
  unfolding entries place_on
  only_there {i} {j} q = moved_only matching i j q.there q.same

  -- "each score is the sum. A pair unscored in either is unscored in the pool."
  pub pool_number : {i i' j j' : ℕ} → SameName first second i i' → SameName first second j j'
      → pool_scores first second i j ≡ number_for (added (carried (value first i j)) (carried (value second i' j')))
  unfolding pool_scores pooled
  pool_number {i} {i'} {j} {j'} p q = ap₂ (λ y z. number_for (added (carried y) (carried z))) (a.scores i j p.here q.here)
      (ap₂ (score (pairs second)) (only_there p) (only_there q) ∙ b.scores i' j' p.there q.there)

  pub pool_carried : {i i' j j' : ℕ} → SameName first second i i' → SameName first second j j'
      → carried (pool_scores first second i j) ≡ added (carried (value first i j)) (carried (value second i' j'))
  pool_carried {i} {i'} {j} {j'} p q = ap carried (pool_number p q)
      ∙ added_carried (carried (value first i j)) (carried (value second i' j')) (a.allowed i j p.here q.here) (b.allowed i' j' p.there q.there)

  -- 18: "a sum out of range"
  pub sum_out : T (not (scores_in_range (pool_pairs first second))) → SumBeyond first second
  unfolding scores_in_range pool_pairs added is_allowed_pair score_limit one_point point_limit
  sum_out t =
      let (v, k, f) = some_fails (λ v. is_allowed_pair score_limit (carried v)) (pool_pairs first second) t in
      let (i, j, h, l, e) = of_pair_list (entries first) (pool_scores first second) k in
      let p = on_second i h in
      let q = on_second j (omega arith) in
      go i (place_on first second i) j (place_on first second j) p q (carried (value first i j)) (carried (value second (place_on first second i) (place_on first second j))) refl refl
      (subst (λ c. T (not (is_allowed_pair score_limit c))) (ap carried e ∙ pool_carried p q) f)
    where
      go : (i i' j j' : ℕ) → SameName first second i i' → SameName first second j j' → (c d : Carried) → carried (value first i j) ≡ c → carried (value second i' j') ≡ d
          → T (not (is_allowed_pair score_limit (added c d))) → SumBeyond first second
      go i i' j j' p q (Scored y) (Scored z) e f t = record {
        i = i;
        j = j;
        i' = i';
        j' = j';
        one = p;
        other = q;
        y = y;
        z = z;
        here = (carried_says first a.formed i j p.here q.here).0 e;
        there = (carried_says second b.formed i' j' p.there q.there).0 f;
        out = λ w. T_not (is_allowed_pair score_limit (Scored (y +ℤ z))) t (within_range w);
      }
      go i i' j j' p q (Scored y) Unscored e f t = absurd t
      go i i' j j' p q Unscored d e f t = absurd t

  pub out_sum : SumBeyond first second → T (not (scores_in_range (pool_pairs first second)))
  unfolding added score_limit one_point point_limit
  out_sum o =
      let y = (carried_says first a.formed o.i o.j o.one.here o.other.here).1 o.here in
      let z = (carried_says second b.formed o.i' o.j' o.one.there o.other.there).1 o.there in
      not_T (scores_in_range (pool_pairs first second)) (λ t. o.out (allowed_within (subst (λ c. T (is_allowed_pair score_limit c))
      (pool_carried o.one o.other ∙ ap₂ added y z) (pool_allowed first second t o.i o.j o.one.here o.other.here))))

-- its table
names_say : (first second : List ℕ) → Says (not (names_differ (names first) (names second))) (SameNames first second)
names_say first second = record {
  to = λ t. let (f, g) = same_names (names first) (names second) (T_false {b = names_differ (names first) (names second)} t) in record { there = f; back = g };
  from = λ m. false_T (names_same (names first) (names second) m.there m.back);
}

seventeen_says : (first second : List ℕ) → Says (names_differ (names first) (names second)) (SameNames first second → ⊥)
seventeen_says first second = denied (names_say first second)

-- 18, of two sheets that pass 2 to 9 and 11 and have the same names
eighteen_says : (first second : List ℕ) → T (none (sheet_checks first)) → T (none (sheet_checks second)) → T (not (names_differ (names first) (names second)))
    → Says (not (scores_in_range (pool_pairs first second))) (SumBeyond first second)
eighteen_says first second a b m =
    let both = (names_say first second).to m in
    record { to = sum_out (sound first a) (sound second b) both; from = out_sum (sound first a) (sound second b) both }

pool_agrees : (first second : List ℕ) (buffer : ℕ) → Agree (pool_checks first second buffer) (pool_table first second buffer)
unfolding pool_checks
pool_agrees first second buffer = agree_append (scores_agree first) λ a. agree_append (scores_agree second) λ b.
    next (seventeen_says first second) λ m.
    next (eighteen_says first second a b m) λ _.
    next (lt_says buffer (length (pool_text first second))) λ _. done

-- bytes that a call wrote are the pool of two sheets that pass
record Written (first second bytes : List ℕ) : Type 0 where
  one : Sound first
  two : Sound second
  same : SameNames first second
  range : T (scores_in_range (pool_pairs first second))
  left : (buffer : ℕ) → pool_refusal first second buffer ≡ cond (ltb buffer (length (pool_text first second))) 14 0
  are : bytes ≡ pool_text first second

written : {first second bytes : List ℕ} → Pooled first second bytes → Written first second bytes
written {first} {second} (by_pool_call {lent} c z) =
    let k = pool_refusal first second (length lent) in
    let text = pool_text first second in
    let e = not_refused k (length text) c.answered z in
    let (t, m, r) = pool_passed first second (length lent) e in
    let (a, b) = both_sound first second t in
    record {
      one = a;
      two = b;
      same = (names_say first second).to m;
      range = r;
      left = λ other. pool_last first second other t m r;
      are = taken e text lent c.written (sym (counted k (length text) c.answered z));
    }

-- what is read back of the pool
module _ {first second bytes : List ℕ} (x : Written first second bytes) where
  formed : WellFormed (names first) (pool_scores first second)
  formed = pool_formed second x.one x.range

  pool_names : names bytes ≡ names first
  unfolding pool_text
  pool_names = ap names x.are ∙ sheet_text_names formed

  pool_entries : entries bytes ≡ entries first
  unfolding entries
  pool_entries = ap length pool_names

  pool_sheet : T (none (sheet_checks bytes))
  unfolding pool_text
  pool_sheet = subst (λ (t : List ℕ). T (none (sheet_checks t))) (sym x.are) (sheet_text_accepted formed x.one.count)

  pool_value : (i j : ℕ) → i < entries first → j < entries first → value bytes i j ≡ pool_scores first second i j
  unfolding pool_text entries
  pool_value i j h k = ap (λ (t : List ℕ). value t i j) x.are ∙ sheet_text_value formed i j h k

  pool_score : (i j : ℕ) → i < entries first → j < entries first → score (pairs bytes) i j ≡ pool_scores first second i j
  unfolding pool_text entries
  pool_score i j h k =
      ap (λ (t : List ℕ). score (pairs t) i j) x.are ∙ ap (λ (l : List ℤ). score l i j) (sheet_text_pairs formed)
      ∙ score_pair_list (length (names first)) (pool_scores first second) (pool_symmetric first second) i j h k

  pool_pair : {i i' j j' : ℕ} → SameName first second i i' → SameName first second j j'
      → carried (value bytes i j) ≡ added (carried (value first i j)) (carried (value second i' j'))
  pool_pair {i} {i'} {j} {j'} p q = ap carried (pool_value i j p.here q.here) ∙ pool_carried x.one x.two x.same p q

  -- from an entry of the first sheet to that of the second with the same name
  order : Permutation (entries first)
  unfolding entries
  order = renumbering (matching x.one x.two x.same)

  -- a set of names: a set of entries of the first sheet, and its image on the second
  set_image : {A B : ℕ} → SameSet first second A B → B ≡ image (entries first) order A
  unfolding order renumbering entries place_on
  set_image {A} {B} q = image_only (entries first) order A B (subst (λ (n : ℕ). B < 2 ^ n) (sym (same_entries x.one x.two x.same)) q.there) λ i h.
      let (to, from) = q.same i (order.to i) (on_second x.one x.two x.same i h) in
      T_same (has B (order.to i)) (has A i) (λ t. yes_has A i (from (has_yes B (order.to i) t))) (λ t. yes_has B (order.to i) (to (has_yes A i t)))

  scores_turned : Reordered (entries first) order (pool_scores first second) (pool_scores second first)
  unfolding order renumbering entries pool_scores place_on
  scores_turned = pooled_turned (entries first) order (score (pairs first)) (score (pairs second))

  -- "a set of names strong in both is strong in the pool, with an index no smaller than the two added"
  pool_strong : {found found' pool : List Group}
      → Wrote (pos 1) (entries first) (pairs first) found → Wrote (pos 1) (entries second) (pairs second) found' → Wrote (pos 1) (entries bytes) (pairs bytes) pool
      → (A B : ℕ) → SameSet first second A B → (y z : ℤ) → HasLine found A y → HasLine found' B z
      → (v : ℤ) × HasLine pool A v × ((y +ℤ z) ≤ℤ v)
  unfolding order renumbering entries pool_scores place_on index
  pool_strong {found} {found'} {pool} w w' u A B q y z l l' =
      let n = entries first in
      let s = score (pairs first) in
      let t = score (pairs second) in
      let r = score (pairs bytes) in
      let c = same_entries x.one x.two x.same in
      let w₁ = subst (λ (m : ℕ). Wrote (pos 1) m (pairs second) found') (sym c) w' in
      let u₁ = subst (λ (m : ℕ). Wrote (pos 1) m (pairs bytes) pool) pool_entries u in
      let (h, a, e) = (line_of strong n s A y).0 (subst (λ (g : List Group). HasLine g A y) (strong_wrote w) l) in
      let (_, b, f) = (line_of strong n t (image n order A) z).0
      (subst₂ (λ (g : List Group) (C : ℕ). HasLine g C z) (strong_wrote w₁) (set_image q) l') in
      let is : index strong n (pool_scores first second) A ≡ index strong n r A = filled_cong score_limit n (pool_scores first second) r A (λ i j hi hj. sym (pool_score i j hi hj)) in
      let p = pooled_strong n order s t (wrote_allowed w) (wrote_allowed w₁) A a b in
      let least = pooled_index n order s t (wrote_allowed w) (wrote_allowed w₁) A a b in
      let v = index strong n r A in (
        v,
        subst (λ (g : List Group). HasLine g A v) (sym (strong_wrote u₁)) ((line_of strong n r A v).1
            (h, is_listed strong n r A (of_listed strong n s A a).0 (subst (λ i. pos 1 ≤ℤ i) is (listed_index strong n (pool_scores first second) A p)), refl)),
        subst₂ (λ i k. i ≤ℤ k) (sym (ap₂ ◌+ℤ◌ e f)) is least,
      )

-- the answer for a buffer, beside a pool that was written
pool_fits : {first second lent after bytes : List ℕ} {r : Answer} → PoolCall first second lent r after → Written first second bytes
    → (length lent < length bytes → number_of r ≡ 14) × (length bytes ≤ length lent → (number_of r ≡ 0) × (count_of r ≡ length bytes))
pool_fits {first} {second} {lent} {bytes = bytes} {r = r} c x = (
  λ h. number ∙ x.left (length lent) ∙ rw (← ap length x.are, lt-ltb (length lent) (length bytes) h),
  λ h.
      let z : number_of r ≡ 0 = number ∙ x.left (length lent) ∙ rw (← ap length x.are, le-ltb (length lent) (length bytes) h) in
      (z, counted k (length text) c.answered z ∙ sym (ap length x.are)),
)
  where
    text : List ℕ
    text = pool_text first second

    k : ℕ
    k = pool_refusal first second (length lent)

    number : number_of r ≡ pool_refusal first second (length lent)
    number = c.answered.number

-- a set of names, of sheets with the same lines of names
set_named : {s t s' t' : List ℕ} {A B : ℕ} → names s ≡ names s' → names t ≡ names t' → SameSet s t A B → SameSet s' t' A B
unfolding entries
set_named {A = A} {B = B} e f q = record {
  here = subst (λ (ns : List (List ℕ)). A < 2 ^ length ns) e q.here;
  there = subst (λ (ns : List (List ℕ)). B < 2 ^ length ns) f q.there;
  same = λ i j r. q.same i j (record {
    here = subst (λ (ns : List (List ℕ)). i < length ns) (sym e) r.here;
    there = subst (λ (ns : List (List ℕ)). j < length ns) (sym f) r.there;
    same = ap (λ (ns : List (List ℕ)). get_or ns i []) e ∙ r.same ∙ sym (ap (λ (ns : List (List ℕ)). get_or ns j []) f);
  });
}

-- the pool of the sheets the other way round
module _ {first second bytes bytes' : List ℕ} (x : Written first second bytes) (x' : Written second first bytes') where
  pool_reordered : Reordered (entries first) (order x) (score (pairs bytes)) (score (pairs bytes'))
  pool_reordered = record {
    same = λ i j h k. pool_score x' ((order x).to i) ((order x).to j) (there i h) (there j k) ∙ (scores_turned x).same i j h k ∙ sym (pool_score x i j h k);
  }
    where
      there : (i : ℕ) → i < entries first → (order x).to i < entries second
      there i h = subst (λ (n : ℕ). (order x).to i < n) (same_entries x.one x.two x.same) ((order x).to_lt i h)

  pool_turned : {kind : ℤ} {found found' : List Group}
      → Wrote kind (entries bytes) (pairs bytes) found → Wrote kind (entries bytes') (pairs bytes') found'
      → (A B : ℕ) → SameSet bytes bytes' A B → (z : ℤ)
      → HasLine found (written_set (kind_of kind) (entries bytes) A) z ↔ HasLine found' (written_set (kind_of kind) (entries bytes') B) z
  pool_turned {kind} {found} {found'} w w' A B q z =
      let n = entries first in
      let k = kind_of kind in
      let e = pool_entries x in
      let e' = pool_entries x' ∙ sym (same_entries x.one x.two x.same) in
      let these = set_named (pool_names x) (pool_names x') q in
      let g = (demand_3 kind).reordered (subst (λ (m : ℕ). Wrote kind m (pairs bytes) found) e w)
      (subst (λ (m : ℕ). Wrote kind m (pairs bytes') found') e' w') (order x) pool_reordered A these.here z in
      subst₂ (λ (m m' : ℕ). HasLine found (written_set k m A) z ↔ HasLine found' (written_set k m' B) z) (sym e) (sym e')
      (subst (λ (C : ℕ). HasLine found (written_set k n A) z ↔ HasLine found' (written_set k n C) z) (sym (set_image x these)) g)

-- another order of the second's names
other_order : {first second second' bytes bytes' : List ℕ} → Written first second bytes → Written first second' bytes'
    → ((i i' j j' : ℕ) → SameName second second' i i' → SameName second second' j j' → value second' i' j' ≡ value second i j) → bytes' ≡ bytes
unfolding pool_text entries
other_order {first} {second} {second'} x x' f = x'.are ∙ sheet_text_cong (names first) (pool_scores first second') (pool_scores first second) scores ∙ sym x.are
  where
    here : (i : ℕ) → i < entries first → SameName first second i (place_on first second i)
    here = on_second x.one x.two x.same

    there : (i : ℕ) → i < entries first → SameName first second' i (place_on first second' i)
    there = on_second x'.one x'.two x'.same

    across : (i : ℕ) → i < entries first → SameName second second' (place_on first second i) (place_on first second' i)
    across i h = record { here = (here i h).there; there = (there i h).there; same = sym (here i h).same ∙ (there i h).same }

    scores : (i j : ℕ) → i < entries first → j < entries first → pool_scores first second' i j ≡ pool_scores first second i j
    scores i j h k =
        pool_number x'.one x'.two x'.same (there i h) (there j k)
        ∙ ap (λ z. number_for (added (carried (value first i j)) (carried z)))
        (f (place_on first second i) (place_on first second' i) (place_on first second j) (place_on first second' j) (across i h) (across j k))
        ∙ sym (pool_number x.one x.two x.same (here i h) (here j k))

pub request_2_4 : Request2_4
unfolding pool_refusal
request_2_4 = record {
  judged = λ {first} {second} {lent} c. judged_by (pool_agrees first second (length lent)) _ _ c.answered c.written;
  own_bytes = λ {first} {second} {lent} c z.
      let text = pool_text first second in
      let none = not_refused _ _ c.answered z in
      let count = sym (counted _ _ c.answered z) in
      (ap length (taken none text lent c.written count) ∙ count, dropped none text lent c.written count);
  room = λ c d. pool_fits c (written d);
  never_short = λ {first} {second} {lent} c h e.
      pool_never_short first second (length lent) h (sym c.answered.number ∙ e);
  a_sheet = λ {bytes = bytes} c. (agree_tests (scores_agree bytes)).0 (pool_sheet (written c));
  its_names = λ c. let x = written c in (pool_names x, x.same);
  sums = λ c i i' j j' p q y z e f. pool_pair (written c) p q ∙ ap₂ added e f ∙ both_scored y z;
  unscored = λ c i i' j j' p q u. pool_pair (written c) p q ∙ either_unscored _ _ u;
  any_order = λ c c'. other_order (written c) (written c');
  strong_in_both = λ c w w' u. pool_strong (written c) w w' u;
  turned = λ c c' w w'. pool_turned (written c) (written c') w w';
}
