-- Two sheets that were accepted: their names, checks 17, 18 and 14, and what is then written.
use mathlib.Core.Path.{◌≡◌, refl, sym, ap, ap₂, ◌∙◌, subst, subst₂}
use mathlib.Core.Bool.{Bool, true, false, not, ◌&&◌}
use mathlib.Core.List.{List, [], ◌∷◌}
use Prim.Native.Nat.{ℕ, ◌+◌, ◌≤◌, ◌<◌}
use native.Mathlib.Omega.{arith}
use borrow.Author.Tests.{ne_eqb, eq-eqb}
use lib.Dec.{T, eqb}
use lib.IntN.{ℤ}
use lib.ListN.{length, get_or, take, length-take}
use Rattle.lists.specs.Lists.{all}
use Rattle.lists.proofs.Lists.{get_d_in}
use Rattle.pairs.specs.Pairs.{number_for, carried}
use Rattle.clusters.specs.PairList.{row_start, score, pair_list, scores_in_range}
use Rattle.clusters.specs.Pooling.{added, pooled}
use Rattle.clusters.proofs.PairList.{pair_list_cong, score_pair_list}
use Rattle.std.specs.Prelude.{Err}
use Rattle.answers.specs.declared.Refusal.{Refusal}
use Rattle.answers.specs.declared.Refusal.TheVariants.{NamesDiffer}
use Rattle.answers.specs.Answers.{number, Answer, Answered, slots}
use Rattle.answers.proofs.Answers.{refused_is}
use Rattle.answers.proofs.WaysOut.{refused}
use Rattle.interface.specs.Sheet.{space, is_name, cut, names, entries, pairs, is_among}
use Rattle.interface.specs.SheetText.{sheet_text}
use Rattle.interface.specs.Pool.{place_of, place_on, pool_scores, pool_pairs, pool_text}
use Rattle.interface.specs.Refusals.{first_of, wrong_count, names_differ, check14, check18, reader_checks, sheet_checks, pool_checks, pool_refusal}
use Rattle.interface.specs.Calls.{PoolCall, piece_at}
use Rattle.interface.proofs.Refusals.{gives, first_yes, first_no, first_none, first_back, right_count, refused_front, passed_back}
use Rattle.interface.proofs.Places.{place_lt, same_names, by_count}
use Rattle.interface.proofs.SheetTexts.{sheet_text_cong}
use Rattle.interface.proofs.PoolScores.{Sound, sound, pool_symmetric}
use Rattle.sheet.proofs.Lines.{first_line_lem}
use Rattle.reader.proofs.Answers.{pairs_length}
use Rattle.std.proofs.lemmas.List.{get_or-map}
use Rattle.pooling.proofs.Places.{as_many}
use Rattle.pooling.specs.Pools.{AcceptedSheet, Placed, Addable, sheet_of, sums_refusal, SumsWritten, both_refusal, PairsPooled}

-- one of them
module _ {sheet : List ℕ} {n : ℕ} {l : List ℤ} (a : AcceptedSheet sheet n l) where
  pub left : Sound sheet
  unfolding sheet_checks reader_checks all
  left = sound sheet ((first_none (sheet_checks sheet) tt).0 a.passed)

  pub names_count : n ≡ length (names sheet)
  unfolding entries
  names_count = a.count

  pub few : n ≤ 32
  few = right_count n (ap wrong_count names_count ∙ left.count)

  pub long : length l ≡ row_start n
  long = ap length a.its_pairs ∙ pairs_length sheet ∙ ap row_start (sym a.count)

  pub in_range_lem : T (scores_in_range l)
  in_range_lem = subst (λ k. T (scores_in_range k)) (sym a.its_pairs) left.range

  -- line 1, up to its end
  module _ (end : ℕ) (is : end ≡ 0 + length (piece_at 10 sheet 0)) where
    pub line_names : cut space (take end sheet) ≡ names sheet
    unfolding names
    line_names = ap (cut space) (first_line_lem sheet end is)

    pub line_count : n ≡ length (cut space (take end sheet))
    line_count = names_count ∙ ap length (sym line_names)

    pub line_named : T (all is_name (cut space (take end sheet)))
    line_named = subst (λ (ws : List (List ℕ)). T (all is_name ws)) (sym line_names) left.named

-- its pair list as the first slots of those that hold it
module _ {sheet : List ℕ} {n : ℕ} (held : List ℤ) (a : AcceptedSheet sheet n (take (row_start n) held)) {count : ℕ} (e : count ≡ row_start n) where
  pub lent_pairs : AcceptedSheet sheet n (take count held)
  lent_pairs = subst (λ (k : ℕ). AcceptedSheet sheet n (take k held)) (sym e) a

  pub lent_long : count ≡ length (take count held)
  lent_long = e ∙ sym (long lent_pairs)

  pub lent_fit : count ≤ length held
  lent_fit = omega (arith, lent_long, length-take count held)

-- both
module _ {first second : List ℕ} {n m : ℕ} {scores others : List ℤ} (a : AcceptedSheet first n scores) (b : AcceptedSheet second m others) where
  -- the code's test of 17
  tested : names_differ (names first) (names second) ≡ not (eqb n m && all (λ w. is_among w (names second)) (names first))
  tested =
      by_count (names first) (names second) (left a).distinct (left b).distinct
      ∙ ap₂ (λ (i j : ℕ). not (eqb i j && all (λ w. is_among w (names second)) (names first))) (sym (names_count a)) (sym (names_count b))

  refused_17 : (lent : List ℕ) → names_differ (names first) (names second) ≡ true → PairsPooled first second lent (Err NamesDiffer) lent
  unfolding both_refusal
  refused_17 lent e =
      let (r, w) = refused (length (pool_text first second)) (pool_text first second) lent {e = NamesDiffer} (gives (first_yes e)) in
      record { answered = r; written = w }

  pub other_count : (lent : List ℕ) → (n ≡ m → ⊥) → PairsPooled first second lent (Err NamesDiffer) lent
  other_count lent d = refused_17 lent (tested ∙ rw (ne_eqb n m d))

  pub other_names : (lent : List ℕ) → all (λ w. is_among w (names second)) (names first) ≡ false
      → PairsPooled first second lent (Err NamesDiffer) lent
  other_names lent e = refused_17 lent (tested ∙ go (eqb n m))
    where
      go : (b : Bool) → not (b && all (λ w. is_among w (names second)) (names first)) ≡ true
      go true = ap not e
      go false = refl

  -- the names are the same, and their places were found
  module _ (same : n ≡ m) {places : List ℕ} (p : Placed (names first) (names second) places) where
    right_names : names_differ (names first) (names second) ≡ false
    right_names = tested ∙ rw (eq-eqb n m same) (ap not p.there)

    place_is : (i : ℕ) → i < n → get_or places i 0 ≡ place_on first second i
    unfolding place_on
    place_is i h = ap (λ (l : List ℕ). get_or l i 0) p.are ∙ get_or-map (λ w. place_of w (names second)) (names first) i [] 0 (omega (arith, names_count a))

    pub place_few : (i : ℕ) → i < n → get_or places i 0 < n
    unfolding place_on
    place_few i h =
        let k : i < length (names first) = omega (arith, names_count a) in
        let there = (same_names (names first) (names second) right_names).0 (get_or (names first) i []) (get_d_in (names first) i [] k) in
        omega (arith, place_is i h, place_lt (get_or (names first) i []) (names second) there, names_count b)

    pub addable : Addable n scores others places
    addable = record {
      few = few a;
      first_long = long a;
      second_long = long b ∙ ap row_start (sym same);
      first_allowed = in_range_lem a;
      second_allowed = in_range_lem b;
      places_long = as_many _ p ∙ sym (names_count a);
      placed = place_few;
    }

    module _ (sums : List ℤ) (are : sums ≡ pair_list n (pooled (λ k. get_or places k 0) (score scores) (score others))) where
      sums_are : sums ≡ pool_pairs first second
      unfolding pool_pairs pool_scores pooled
      sums_are =
          are
          ∙ ap (λ (k : ℕ). pair_list k (pooled (λ i. get_or places i 0) (score scores) (score others))) a.count
          ∙ ap₂ (λ (k l : List ℤ). pair_list (entries first) (pooled (λ i. get_or places i 0) (score k) (score l))) a.its_pairs b.its_pairs
          ∙ pair_list_cong (entries first) _ _ (λ i j h k.
          ap₂ (λ (u v : ℕ). number_for (added (carried (score (pairs first) i j)) (carried (score (pairs second) u v))))
          (place_is i (omega (arith, a.count))) (place_is j (omega (arith, a.count))))

      module _ (end : ℕ) (is : end ≡ 0 + length (piece_at 10 first 0)) where
        text_is : sheet_of (take end first) sums ≡ pool_text first second
        unfolding sheet_of pool_text pool_pairs entries
        text_is =
            ap₂ (λ (ws : List (List ℕ)) (l : List ℤ). sheet_text ws (score l)) (line_names a end is) sums_are
            ∙ sheet_text_cong (names first) (score (pool_pairs first second)) (pool_scores first second)
            (λ i j h k. score_pair_list (entries first) (pool_scores first second) (pool_symmetric first second) i j h k)

        refusal_is : (buffer : ℕ) → sums_refusal (take end first) sums buffer ≡ both_refusal first second buffer
        unfolding sums_refusal both_refusal
        refusal_is buffer =
            ap₂ (λ (l : List ℤ) (t : List ℕ). first_of (check18 l ∷ check14 buffer t ∷ [])) sums_are text_is ∙ gives (first_no right_names (record { is = refl }))

        -- what is written of the sums is the pool
        pub pool_written : {lent : List ℕ} {r : Answer} {after : List ℕ} → SumsWritten (take end first) sums lent r after → PairsPooled first second lent r after
        pool_written {lent} {r} w = record {
          answered = subst₂ (λ (k c : ℕ). Answered k c r) (refusal_is (length lent)) (ap length text_is) w.answered;
          written = w.written ∙ ap₂ (λ (k : ℕ) (t : List ℕ). slots k t lent) (refusal_is (length lent)) text_is;
        }

-- the ways out of the call: the first refused, the second refused, and checks 17, 18 and 14 made
module _ (first second lent : List ℕ) where
  refusal_out : {e : Refusal} → number e ≡ pool_refusal first second (length lent) → PoolCall first second lent (Err e) lent
  refusal_out h = let (r, w) = refused (length (pool_text first second)) (pool_text first second) lent h in record { answered = r; written = w }

  pub refused_first : (e : Refusal) → Answered (first_of (sheet_checks first)) (entries first) (Err e) → PoolCall first second lent (Err e) lent
  unfolding pool_refusal pool_checks sheet_checks reader_checks all
  refused_first e a = refusal_out (refused_front (sheet_checks first) _ tt e (refused_is a).0)

  module _ {n : ℕ} {scores : List ℤ} (a : AcceptedSheet first n scores) where
    pub refused_second : (e : Refusal) → Answered (first_of (sheet_checks second)) (entries second) (Err e) → PoolCall first second lent (Err e) lent
    unfolding pool_refusal pool_checks sheet_checks reader_checks all
    refused_second e q =
        refusal_out (passed_back (sheet_checks first) _ tt (sym a.passed) (record { is = refused_front (sheet_checks second) _ tt e (refused_is q).0 }))

    pub both_accepted : {m : ℕ} {others : List ℤ} → AcceptedSheet second m others → {r : Answer} {after : List ℕ} → PairsPooled first second lent r after
        → PoolCall first second lent r after
    unfolding pool_refusal pool_checks both_refusal sheet_checks reader_checks all
    both_accepted b {r} p =
        let e : both_refusal first second (length lent) ≡ pool_refusal first second (length lent) =
        gives (first_back (sheet_checks first) _ tt (sym a.passed) refl (first_back (sheet_checks second) _ tt (sym b.passed) refl (record { is = refl }))) in
        record {
          answered = subst (λ (k : ℕ). Answered k (length (pool_text first second)) r) e p.answered;
          written = p.written ∙ ap (λ (k : ℕ). slots k (pool_text first second) lent) e;
        }
