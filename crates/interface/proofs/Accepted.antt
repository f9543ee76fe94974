-- What checks 9, 11 and 16 leave of the pairs, for each call that makes them.
use mathlib.Core.Path.{◌≡◌, sym, subst}
use mathlib.Core.Bool.{Bool, true, false, not, ◌&&◌}
use mathlib.Core.Logic.{◌≢◌}
use mathlib.Core.List.{List}
use Prim.Native.Nat.{ℕ, ◌<◌}
use lib.Dec.{T, not_T}
use lib.IntN.{ℤ, pos}
use lib.ListN.{length}
use Rattle.lists.specs.Lists.{below, all}
use Rattle.lists.proofs.Lists.{lt_below, all_in}
use Rattle.lists.proofs.Tests.{T_false}
use Rattle.integers.specs.Integers.{eq_z}
use Rattle.integers.proofs.Linear.{eq_z_yes}
use Rattle.pairs.specs.declared.Carried.TheVariants.{Unscored}
use Rattle.pairs.specs.Pairs.{mark, carried}
use Rattle.pairs.proofs.Pairs.{marked}
use Rattle.clusters.specs.PairList.{Similarity, row_start, score, score_limit, has_length, is_allowed_pair, scores_in_range, has_unscored}
use Rattle.clusters.specs.Fillings.{AllScored}
use Rattle.clusters.proofs.PairList.{length_pair_list}
use Rattle.clusters.proofs.Scored.{AllAllowed, list_allowed, list_scored}
use Rattle.interface.specs.Sheet.{entries, value, mirrored, pairs}
use Rattle.interface.specs.Refusals.{
  wrong_unscored,
  reader_checks,
  sheet_checks,
  sheet_call_checks,
  sheet_refusal,
  numbers_checks,
  numbers_refusal,
  linkage_checks,
  linkage_refusal,
  shared_refusal,
  shared_checks,
  wrong_group_kind,
  wrong_entries,
  wrong_count,
  wrong_distances,
}
use Rattle.interface.proofs.Refusals.{under, passes, right_length, right_entries}

pub not_not : (b : Bool) → T (not (not b)) → T b
not_not true t = tt
not_not false t = absurd t

-- what 9 leaves
pub mirrored_same : (n : ℕ) (v : Similarity) → T (mirrored n v) → (i j : ℕ) → i < n → j < n → v i j ≡ v j i
unfolding mirrored
mirrored_same n v t i j h k = eq_z_yes (v i j) (v j i) (all_in (λ j. eq_z (v i j) (v j i)) (below n)
    (all_in (λ i. all (λ j. eq_z (v i j) (v j i)) (below n)) (below n) t (lt_below n i h)) (lt_below n j k))

-- 11, with the mark exempt
exempt : T (is_allowed_pair score_limit Unscored)
unfolding is_allowed_pair
exempt = tt

pub mark_allowed : {v : ℤ} → v ≡ mark → T (is_allowed_pair score_limit (carried v))
mark_allowed e = subst (λ p. T (is_allowed_pair score_limit p)) (sym (marked e)) exempt

-- what 16 leaves to a kind that is not 1
pub unscored_left : (kind : ℤ) (l : List ℤ) → kind ≢ pos 1 → T (not (wrong_unscored kind l)) → T (not (has_unscored l))
unfolding wrong_unscored
unscored_left kind l d t =
    subst (λ b. T (not (not b && has_unscored l))) (T_false {b = eq_z kind (pos 1)} (not_T (eq_z kind (pos 1)) (λ h. d (eq_z_yes kind (pos 1) h)))) t

-- of n entries: what 6 and 10 leave; every score is in range; if the kind is not 1, every pair is scored, and what 12 leaves
pub record Passed (kind : ℤ) (n : ℕ) (l : List ℤ) : Type 0 where
  pub count : wrong_count n ≡ false
  pub long : length l ≡ row_start n
  pub range : T (scores_in_range l)
  pub sixteen : T (not (wrong_unscored kind l))
  pub twelve : T (not (wrong_distances kind n l))

module _ {kind : ℤ} {n : ℕ} {l : List ℤ} (p : Passed kind n l) where
  pub passed_allowed : AllAllowed score_limit n (score l)
  passed_allowed = list_allowed n l p.long p.range

  pub passed_scored : kind ≢ pos 1 → AllScored n (score l)
  passed_scored d = list_scored n l p.long (unscored_left kind l d p.sixteen)

pub sheet_passed : (kind : ℤ) (s : List ℕ) (buffer : ℕ) → sheet_refusal kind s buffer ≡ 0 → Passed kind (entries s) (pairs s)
unfolding sheet_refusal sheet_call_checks sheet_checks reader_checks under all pairs
sheet_passed kind s buffer e = record {
  count = T_false {b = wrong_count (entries s)} (passes 6 (sheet_call_checks kind s buffer) tt e);
  long = length_pair_list (entries s) (value s);
  range = not_not (scores_in_range (pairs s)) (passes 11 (sheet_call_checks kind s buffer) tt e);
  sixteen = passes 16 (sheet_call_checks kind s buffer) tt e;
  twelve = passes 12 (sheet_call_checks kind s buffer) tt e;
}

pub numbers_passed : (kind : ℤ) (n : ℕ) (l : List ℤ) (sets indices : ℕ) → numbers_refusal kind n l sets indices ≡ 0 → Passed kind n l
unfolding numbers_refusal numbers_checks under all
numbers_passed kind n l sets indices e =
    let checks = numbers_checks kind n l sets indices in
    record {
      count = T_false {b = wrong_count n} (passes 6 checks tt e);
      long = right_length n l (T_false {b = not (has_length n l)} (passes 10 checks tt e));
      range = not_not (scores_in_range l) (passes 11 checks tt e);
      sixteen = passes 16 checks tt e;
      twelve = passes 12 checks tt e;
    }

-- a linkage call takes scores only
pub linkage_scored : (n : ℕ) (l : List ℤ) (slots : ℕ) → linkage_refusal n l slots ≡ 0 → AllScored n (score l)
unfolding linkage_refusal linkage_checks under all
linkage_scored n l slots e =
    let checks = linkage_checks n l slots in
    list_scored n l (right_length n l (T_false {b = not (has_length n l)} (passes 10 checks tt e))) (passes 16 checks tt e)

-- what is left beside the checks of the pair list by those of the smallest group that two entries share
pub shared_left : (kind : ℤ) (n : ℕ) (l : List ℤ) (i j : ℕ) → shared_refusal kind n l i j ≡ 0 → (wrong_group_kind kind ≡ false) × (i < n) × (j < n)
unfolding shared_refusal shared_checks under all
shared_left kind n l i j e =
    let checks = shared_checks kind n l i j in
    let (hi, hj) = right_entries n i j (T_false {b = wrong_entries n i j} (passes 15 checks tt e)) in
    (T_false {b = wrong_group_kind kind} (passes 1 checks tt e), hi, hj)
