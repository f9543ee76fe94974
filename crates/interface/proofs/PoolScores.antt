-- Two sheets that pass 2 to 9 and 11, the table of their pool, and how long it can be.
use mathlib.Core.Path.{◌≡◌, ◌∙◌, subst}
use mathlib.Core.Logic.{◌≢◌}
use mathlib.Core.Bool.{false, not, Bool, cond, ◌&&◌, true}
use mathlib.Core.List.{List, ◌++◌, ◌∷◌, []}
use Prim.Native.Nat.{ℕ, ◌<◌, ◌≤◌}
use native.Mathlib.Omega.{arith}
use borrow.Author.Tests.{not-false, ltb-true}
use lib.Dec.{T, eqb, lit<, ltb}
use lib.ListN.{length}
use Rattle.lists.specs.Lists.{all, Distinct}
use Rattle.lists.proofs.Tests.{T_false, true_T, or_none, T_true, and_T}
use Rattle.pairs.specs.Pairs.{carried}
use Rattle.clusters.specs.PairList.{Symmetric, score, score_limit, is_allowed_pair, scores_in_range}
use Rattle.clusters.proofs.PairList.{length_pair_list, score_symm, score_mirrored, score_pair_list}
use Rattle.clusters.proofs.Scored.{AllAllowed, list_allowed}
use Rattle.clusters.proofs.Pooled.{pooled_symmetric}
use Rattle.interface.specs.Sheet.{is_name, lines, names, entries, value, pairs, mirrored}
use Rattle.interface.specs.Pool.{place_on, pool_scores, pool_pairs, pool_text}
use Rattle.interface.specs.Refusals.{none, wrong_names, equal_names, wrong_count, wrong_values, reader_checks, sheet_checks, Check, pool_refusal, names_differ, check14, check17, pool_checks, first_of, check18}
use Rattle.interface.proofs.Refusals.{first_none, passes, under, none_append, first_append, some_count, first_at}
use Rattle.interface.proofs.Accepted.{not_not, mirrored_same}
use Rattle.interface.proofs.Names.{distinct_names}
use Rattle.interface.proofs.SheetTexts.{WellFormed, sheet_text_most}

-- what checks 2 to 9 and 11 leave of a sheet
pub record Sound (s : List ℕ) : Type 0 where
  pub named : T (all is_name (names s))
  pub formed : T (not (wrong_values s))
  pub distinct : Distinct (names s)
  pub count : wrong_count (length (names s)) ≡ false
  pub range : T (scores_in_range (pairs s))
  pub scores : (i j : ℕ) → i < entries s → j < entries s → score (pairs s) i j ≡ value s i j
  pub allowed : AllAllowed score_limit (entries s) (value s)

left : (s : List ℕ) → T (none (sheet_checks s))
    → T (not (wrong_names s)) × T (not (equal_names s)) × T (not (wrong_count (entries s))) × T (not (wrong_values s)) × T (mirrored (entries s) (value s)) × T (scores_in_range (pairs s))
unfolding sheet_checks reader_checks under all
left s t =
    let checks = sheet_checks s in
    let e = (first_none checks tt).1 t in (
      passes 4 checks tt e,
      passes 5 checks tt e,
      passes 6 checks tt e,
      passes 8 checks tt e,
      not_not (mirrored (entries s) (value s)) (passes 9 checks tt e),
      not_not (scores_in_range (pairs s)) (passes 11 checks tt e),
    )

pub sound : (s : List ℕ) → T (none (sheet_checks s)) → Sound s
unfolding wrong_names equal_names entries pairs
sound s t =
    let (four, five, six, eight, nine, eleven) = left s t in
    let n = entries s in
    let same = score_mirrored n (value s) (mirrored_same n (value s) nine) in
    record {
      named = true_T (not-false (all is_name (names s)) (or_none (eqb (length (lines s)) 1) (not (all is_name (names s))) (T_false {b = wrong_names s} four)).1);
      formed = eight;
      distinct = distinct_names (names s) (T_false {b = equal_names s} five);
      count = T_false {b = wrong_count n} six;
      range = eleven;
      scores = same;
      allowed = λ i j h k. subst (λ z. T (is_allowed_pair score_limit (carried z))) (same i j h k)
          (list_allowed n (pairs s) (length_pair_list n (value s)) eleven i j h k);
    }

-- the pool's scores are symmetric, and those that its pair list holds
pub pool_symmetric : (first second : List ℕ) → Symmetric (pool_scores first second)
unfolding pool_scores
pool_symmetric first second =
    pooled_symmetric (place_on first second) (score (pairs first)) (score (pairs second)) (score_symm (pairs first)) (score_symm (pairs second))

pub pool_allowed : (first second : List ℕ) → T (scores_in_range (pool_pairs first second)) → AllAllowed score_limit (entries first) (pool_scores first second)
unfolding pool_pairs
pool_allowed first second t i j h k =
    let n = entries first in
    let s = pool_scores first second in
    subst (λ z. T (is_allowed_pair score_limit (carried z))) (score_pair_list n s (pool_symmetric first second) i j h k)
    (list_allowed n (pool_pairs first second) (length_pair_list n s) t i j h k)

-- the table
module _ (first second : List ℕ) where
  abbrev pub before : List Check
  before = sheet_checks first ++ sheet_checks second

  abbrev pub differing : Bool
  differing = names_differ (names first) (names second)

  abbrev pub ranging : Bool
  ranging = scores_in_range (pool_pairs first second)

  pub both_sound : T (none before) → Sound first × Sound second
  both_sound t = let (p, q) = (none_append (sheet_checks first) (sheet_checks second)).0 t in (sound first p, sound second q)

  module _ (buffer : ℕ) where
    abbrev room : Check
    room = check14 buffer (pool_text first second)

    abbrev last : List Check
    last = check17 first second ∷ check18 (pool_pairs first second) ∷ room ∷ []

    -- what a table that gives no number leaves
    pub pool_passed : pool_refusal first second buffer ≡ 0 → T (none before) × T (not differing) × T ranging
    unfolding pool_refusal pool_checks sheet_checks reader_checks under all
    pool_passed e =
        let checks = pool_checks first second buffer in (
          ((none_append before last).0 ((first_none checks tt).0 e)).0,
          passes 17 checks tt e,
          not_not ranging (passes 18 checks tt e),
        )

    -- and only 14 is left to two that pass, with the same names and sums in range
    pub pool_last : T (none before) → T (not differing) → T ranging → pool_refusal first second buffer ≡ cond (ltb buffer (length (pool_text first second))) 14 0
    unfolding pool_refusal pool_checks sheet_checks reader_checks all first_of
    pool_last t d g =
        first_append before last tt ∙ rw ((first_none before tt).1 t, T_false {b = differing} d, T_true {b = ranging} g)

    -- 14 comes after all else
    pub pool_short : pool_refusal first second buffer ≡ 14 → T (none before) × T (not differing) × T ranging × (buffer < length (pool_text first second))
    unfolding pool_refusal pool_checks sheet_checks reader_checks all
    pool_short e =
        let short = ltb buffer (length (pool_text first second)) in
        let front = check17 first second ∷ check18 (pool_pairs first second) ∷ [] in
        let (t, s) = (first_at 14 (lit< tt) (before ++ front) short [] tt tt).0 e in
        let (b, rest) = (none_append before front).0 t in
        let (seventeen, eighteen) = and_T (not differing) (not (not ranging) && true) rest in
        let (sums, _) = and_T (not (not ranging)) true eighteen in
        (b, seventeen, not_not ranging sums, ltb-true buffer (length (pool_text first second)) (T_true s))

-- a pool that is not refused gets 14 exactly from a buffer that is too short
pub pool_buffer : (first second : List ℕ) (buffer other : ℕ) → pool_refusal first second buffer ≡ 0
    → pool_refusal first second other ≡ cond (ltb other (length (pool_text first second))) 14 0
pool_buffer first second buffer other e = let (t, m, r) = pool_passed first second buffer e in pool_last first second other t m r

-- the pool of two that pass is a sheet of at most 10,528 bytes
pub pool_formed : {first : List ℕ} (second : List ℕ) → Sound first → T (ranging first second) → WellFormed (names first) (pool_scores first second)
unfolding entries pool_pairs
pool_formed {first} second one range = record {
  some = some_count (length (names first)) one.count;
  named = one.named;
  distinct = one.distinct;
  symmetric = λ i j _ _. pool_symmetric first second i j;
  allowed = range;
}

pub pool_most : {first : List ℕ} (second : List ℕ) → Sound first → T (ranging first second) → length (pool_text first second) ≤ 10528
unfolding pool_text
pool_most second one range = sheet_text_most (pool_formed second one range) one.count

pub pool_room : (first second : List ℕ) (buffer : ℕ) → pool_refusal first second buffer ≡ 0 → length (pool_text first second) ≤ 10528
pool_room first second buffer e =
    let (t, _, range) = pool_passed first second buffer e in
    pool_most second (both_sound first second t).0 range

-- so of a buffer of so many bytes 14 is not given
pub pool_never_short : (first second : List ℕ) (buffer : ℕ) → 10528 ≤ buffer → pool_refusal first second buffer ≢ 14
pool_never_short first second buffer h e =
    let (t, _, range, short) = pool_short first second buffer e in
    omega (arith, pool_most second (both_sound first second t).0 range)
