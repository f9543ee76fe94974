-- The weight, by a table of the distances and what the loops keep.
use mathlib.Core.Path.{◌≡◌, sym, ap, ap₂, ◌∙◌, subst}
use mathlib.Core.Logic.{◌≢◌}
use mathlib.Core.List.{List, map, foldl, foldl-map}
use Prim.Native.Nat.{ℕ, ◌+◌, ◌-◌, ◌^◌, ◌≤◌, ◌<◌}
use native.Mathlib.Decide.{ℕ_discrete}
use native.Mathlib.Omega.{arith}
use lib.Dec.{lit≤}
use lib.IntN.{ℤ, ◌+ℤ◌, ◌-ℤ◌}
use lib.ListN.{length-map}
use Rattle.lists.proofs.Lists.{map_cong}
use Rattle.integers.specs.Integers.{min_z, sum, sum_of_smallest}
use Rattle.integers.specs.Range.{Within, Bounded}
use Rattle.integers.proofs.Range.{within_grow, within_equal, zero_within}
use Rattle.sets.specs.Sets.{◌∋◌, ◌∌◌, others, size}
use Rattle.sets.proofs.Sets.{clash}
use Rattle.smallest.specs.Smallest.{kept_with, tops}
use Rattle.smallest.proofs.Tops.{tops_within, tops_kept}
use Rattle.clusters.specs.PairList.{Similarity, score}
use Rattle.clusters.specs.Refined.{Quartet, quartets, doubled_score, refined_weight, Across}
use Rattle.clusters.proofs.Quartets.{in_quartets, quartets_fold, quartets_many}
use Rattle.clusters.proofs.Refined.{quartets_within}
use Rattle.clusters.proofs.Bounds.{score_within}
use Rattle.matrix.specs.Rows.{Cleared}
use Rattle.links.specs.Table.{entry, Holds, OwnKept}
use Rattle.links.proofs.Rows.{own_cleared}
use Rattle.refined.specs.Kept.{DistanceTable, keep_quartets}
use Rattle.refined.proofs.Outside.{loops}

-- the loops take the quartets in their order
quartets_kept : (d : Similarity) (n A : ℕ) (l : List ℤ) → keep_quartets d n A (others n A) l ≡ foldl kept_with l (map (doubled_score d) (quartets n A))
quartets_kept d n A l = loops d n A l
    ∙ sym (foldl-map (doubled_score d) kept_with (quartets n A) l ∙ quartets_fold n A (λ l q. kept_with l (doubled_score d q)) l)

-- a table with the scores of any two different entries has the doubled score of any quartet
module _ {n : ℕ} (l : List ℤ) {t : List ℤ} (h : Holds n (score l) t) (A : ℕ) where
  same_score : (q : Quartet) → Across n A q → doubled_score (entry t) q ≡ doubled_score (score l) q
  unfolding doubled_score
  same_score q x =
      let (ha, la, ka, ka') = x.one_side in
      let (hb, lb, kb, kb') = x.other_side in
      let ha' : q.a' < n = omega arith in
      let hb' : q.b' < n = omega arith in
      ap₂ ◌-ℤ◌
      (ap₂ min_z (ap₂ ◌+ℤ◌ (h.is q.a q.b ha hb (apart ka kb)) (h.is q.a' q.b' ha' hb' (apart ka' kb')))
      (ap₂ ◌+ℤ◌ (h.is q.a q.b' ha hb' (apart ka kb')) (h.is q.a' q.b ha' hb (apart ka' kb))))
      (ap₂ ◌+ℤ◌ (h.is q.a q.a' ha ha' (λ e. omega arith)) (h.is q.b q.b' hb hb' (λ e. omega arith)))
    where
      apart : {i j : ℕ} → A ∋ i → A ∌ j → i ≢ j
      apart k m e = clash (subst (λ (i : ℕ). A ∋ i) e k) m

  same_scores : map (doubled_score (entry t)) (quartets n A) ≡ map (doubled_score (score l)) (quartets n A)
  same_scores = map_cong (doubled_score (entry t)) (doubled_score (score l)) (quartets n A) (λ q m. same_score q ((in_quartets n A q).0 m))

  module _ (s : Bounded (2 ^ 22) l) (k : ℕ) {outside : List ℕ} (o : outside ≡ others n A) where
    scores : List ℤ
    scores = map (doubled_score (score l)) (quartets n A)

    small : Bounded (2 ^ 30) scores
    unfolding scores
    small z m = within_grow (lit≤ tt) (quartets_within (score l) (score_within s) n A z m)

    kept_are : keep_quartets (entry t) n A outside (tops k) ≡ foldl kept_with (tops k) scores
    unfolding scores
    kept_are = ap (λ (m : List ℕ). keep_quartets (entry t) n A m (tops k)) o ∙ quartets_kept (entry t) n A (tops k)
        ∙ ap (foldl kept_with (tops k)) same_scores

    pub kept_within : Bounded (2 ^ 30) (keep_quartets (entry t) n A outside (tops k))
    kept_within = subst (Bounded (2 ^ 30)) (sym kept_are) (tops_within scores small k)

    pub kept_weight : 2 ≤ size n A → size n A + 2 ≤ n → k ≡ n - 3 → sum (keep_quartets (entry t) n A outside (tops k)) ≡ refined_weight n (score l) A
    unfolding refined_weight scores
    kept_weight two rest e =
        let many = quartets_many n A two rest in
        ap sum kept_are
        ∙ tops_kept scores small k (omega (arith, length-map (quartets n A) (doubled_score (score l))))
        ∙ ap (λ (k : ℕ). sum_of_smallest k scores) e

-- a table filled with the scores
pub filled_table : {n : ℕ} {l t : List ℤ} → n ≤ 32 → Bounded (2 ^ 22) l → Holds n (score l) t
    → {t₀ : List ℤ} → Cleared t₀ → OwnKept t₀ t → DistanceTable n t
filled_table {n} {l} {t} few s h z o = record { few = few; size = h.size; small = λ a b ha hb. at a b ha hb (ℕ_discrete a b) }
  where
    at : (a b : ℕ) → a < n → b < n → Dec (a ≡ b) → Within (2 ^ 22) (entry t a b)
    at a b ha hb (no d) = within_equal (h.is a b ha hb d) (score_within s a b)
    at a b ha hb (yes e) = within_equal (ap (entry t a) (sym e) ∙ own_cleared z o a (omega arith)) zero_within
