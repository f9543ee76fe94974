-- A set that an unscored pair touches is never listed; of any other the strong index is that of the numbers as lent.
use mathlib.Core.Path.{◌≡◌, refl, sym, ap, ◌∙◌, subst}
use mathlib.Core.Bool.{not, xor, cond, not-not}
use mathlib.Core.Logic.{◌⊎◌, inl, inr, ◌↔◌}
use Prim.Native.Nat.{ℕ, ◌^◌, ◌<◌}
use lib.IntN.{pos, neg_ℤ}
use lib.Signed.{◌≤ℤ◌, ◌<ℤ◌}
use lib.Bits.{bit_and}
use lib.Dec.{T, eqb, eqb→eq, not_T}
use Rattle.lists.specs.Lists.{below}
use Rattle.lists.proofs.Tests.{cond_elim, T_same, eqb_yes}
use Rattle.lists.proofs.Lists.{below_lt, lt_below, all_in, in_all, some_fails}
use Rattle.integers.proofs.Linear.{zarith}
use Rattle.sets.specs.Sets.{has, ◌∋◌, ◌∌◌, members, Disjoint}
use Rattle.sets.proofs.Sets.{in_or_out, has_no, no_has, mask_has, in_mask, of_mask, in_members, of_members}
use Rattle.sets.proofs.Subsets.{disjoint_and}
use Rattle.pairs.specs.declared.Carried.{Carried}
use Rattle.pairs.specs.declared.Carried.TheVariants.{Scored, Unscored}
use Rattle.pairs.specs.Pairs.{carried, is_scored}
use Rattle.pairs.proofs.Pairs.{Cases, carried_cases, scored_is, is_scored_lem}
use Rattle.clusters.specs.PairList.{Similarity, is_allowed_pair}
use Rattle.clusters.specs.Indices.{strong_index}
use Rattle.clusters.specs.Fillings.{AllScored, low, high, worst, filled_index}
use Rattle.clusters.specs.Touched.{row_scored, untouched, touched_entries}
use Rattle.clusters.proofs.Strong.{strong_lt, strong_cong}
use Rattle.clusters.proofs.Scored.{AllAllowed, allowed_within}
use Rattle.clusters.proofs.Fillings.{low_fill, high_fill, worst_inside, worst_across}

-- untouched, by its pairs and by the set of touched entries
module _ (n : ℕ) (s : Similarity) (A : ℕ) where
  pub of_untouched : T (untouched n s A) → (a b : ℕ) → a < n → b < n → A ∋ a → T (is_scored (carried (s a b)))
  unfolding untouched row_scored
  of_untouched t a b ha hb ka = all_in (λ b. is_scored (carried (s a b))) (below n) (all_in (row_scored n s) (members n A) t (in_members n A ha ka)) (lt_below n b hb)

  pub in_untouched : ((a b : ℕ) → a < n → b < n → A ∋ a → T (is_scored (carried (s a b)))) → T (untouched n s A)
  unfolding untouched row_scored
  in_untouched f = in_all (row_scored n s) (members n A) (λ a m. let (ha, ka) = of_members n A m in in_all (λ b. is_scored (carried (s a b))) (below n) (λ b k. f a b ha (below_lt n k) ka))

  pub untouched_disjoint : T (untouched n s A) ↔ Disjoint n A (touched_entries n s)
  unfolding untouched touched_entries
  untouched_disjoint = (
    λ t. record { all = λ a ha ka. has_no (touched_entries n s) a (subst (λ b. T b) (sym (entry a ha)) (all_in (row_scored n s) (members n A) t (in_members n A ha ka))) },
    λ d. in_all (row_scored n s) (members n A) (λ a m. let (ha, ka) = of_members n A m in subst (λ b. T b) (entry a ha) (no_has (touched_entries n s) a (d.all a ha ka))),
  )
    where
      entry : (a : ℕ) → a < n → not (has (touched_entries n s) a) ≡ row_scored n s a
      entry a ha = ap not (mask_has n (λ a. not (row_scored n s a)) a ha) ∙ not-not (row_scored n s a)

-- the touched entries are those with an Unscored pair
module _ (n : ℕ) (s : Similarity) where
  pub in_touched : {a b : ℕ} → a < n → b < n → carried (s a b) ≡ Unscored → touched_entries n s ∋ a
  unfolding touched_entries row_scored is_scored
  in_touched {a} {b} ha hb e = in_mask n (λ a. not (row_scored n s a)) ha (not_T (row_scored n s a) (λ t. subst (λ p. T (is_scored p)) e (all_in (λ b. is_scored (carried (s a b))) (below n) t (lt_below n b hb))))

  pub of_touched : {a : ℕ} → a < n → touched_entries n s ∋ a → (b : ℕ) × (b < n) × (carried (s a b) ≡ Unscored)
  unfolding touched_entries row_scored is_scored
  of_touched {a} ha k =
      let (b, m, t) = some_fails (λ b. is_scored (carried (s a b))) (below n) (of_mask n (λ a. not (row_scored n s a)) ha k) in
      (b, below_lt n m, go b t (carried_cases (s a b)))
    where
      go : (b : ℕ) → T (not (is_scored (carried (s a b)))) → Cases (s a b) → carried (s a b) ≡ Unscored
      go b t (inl e) = absurd (subst (λ p. T (not (is_scored p))) e t)
      go b t (inr (_, e)) = e

  -- untouched as the code tests it: A and the touched entries have no bit in common
  pub untouched_mask : (A : ℕ) → A < 2 ^ n → untouched n s A ≡ eqb (bit_and A (touched_entries n s)) 0
  untouched_mask A h = T_same (untouched n s A) (eqb (bit_and A (touched_entries n s)) 0)
      (λ t. eqb_yes (bit_and A (touched_entries n s)) 0 ((disjoint_and n A (touched_entries n s) h).1 ((untouched_disjoint n s A).0 t)))
      (λ t. (untouched_disjoint n s A).1 ((disjoint_and n A (touched_entries n s) h).0 (eqb→eq (bit_and A (touched_entries n s)) 0 t)))

-- the fillings leave the pairs of an untouched set as they are
pub worst_scored : (limit : ℕ) (s : Similarity) (A a b : ℕ) → T (is_scored (carried (s a b))) → worst limit A s a b ≡ s a b
unfolding worst low high
worst_scored limit s A a b t =
    subst (λ p. cond (xor (has A a) (has A b)) (high limit p) (low limit p) ≡ s a b) (sym (scored_is t))
    (cond_elim (xor (has A a) (has A b)) (s a b) (s a b) (λ z. z ≡ s a b) (λ _. refl) (λ _. refl))

pub untouched_index : (limit n : ℕ) (s : Similarity) (A : ℕ) → T (untouched n s A) → filled_index limit n s A ≡ strong_index n s A
unfolding filled_index
untouched_index limit n s A t = strong_cong n (worst limit A s) s A (λ a b ha hb ka. worst_scored limit s A a b (of_untouched n s A t a b ha hb ka))

pub scored_untouched : (n : ℕ) (s : Similarity) → AllScored n s → (A : ℕ) → T (untouched n s A)
scored_untouched n s h A = in_untouched n s A (λ a b ha hb _. h a b ha hb)

-- with every pair scored the index is the strong index
pub scored_index : (limit n : ℕ) (s : Similarity) → AllScored n s → (A : ℕ) → filled_index limit n s A ≡ strong_index n s A
scored_index limit n s h A = untouched_index limit n s A (scored_untouched n s h A)

low_le : (limit : ℕ) (p : Carried) → T (is_allowed_pair limit p) → low limit p ≤ℤ pos limit
unfolding low
low_le limit (Scored z) t = (allowed_within t).top
low_le limit Unscored t = (low_fill limit Unscored).top

high_ge : (limit : ℕ) (p : Carried) → T (is_allowed_pair limit p) → neg_ℤ (pos limit) ≤ℤ high limit p
unfolding high
high_ge limit (Scored z) t = (allowed_within t).low
high_ge limit Unscored t = (high_fill limit Unscored).low

-- an Unscored pair of a member a and an entry y leaves an index of at most 0. If y is a member, its least score −limit is not above the
-- score with an entry outside; if not, its greatest score limit is not below the own score of a.
module _ (limit n : ℕ) (s : Similarity) (A : ℕ) (allowed : AllAllowed limit n s) (out : (x : ℕ) × (x < n) × (A ∌ x)) (h : pos 1 ≤ℤ filled_index limit n s A) where
  above : (a b x : ℕ) → a < n → b < n → x < n → A ∋ a → A ∋ b → A ∌ x → high limit (carried (s a x)) <ℤ low limit (carried (s a b))
  unfolding filled_index
  above a b x ha hb hx ka kb kx =
      let k = strong_lt n (worst limit A s) A h a b x ha hb hx ka kb kx in
      omega (zarith, worst_inside limit s A a b ka kb, worst_across limit s A a x ka kx)

  pair_scored : (a y : ℕ) → a < n → y < n → A ∋ a → T (is_scored (carried (s a y)))
  unfolding low high
  pair_scored a y ha hy ka = go (carried_cases (s a y)) (in_or_out A y)
    where
      go : Cases (s a y) → (A ∋ y) ⊎ (A ∌ y) → T (is_scored (carried (s a y)))
      go (inl e) _ = is_scored_lem e
      go (inr (_, e)) (inl ky) =
          let (x, hx, kx) = out in
          let k = above a y x ha hy hx ka ky kx in
          absurd (omega (zarith, ap (low limit) e, high_ge limit (carried (s a x)) (allowed a x ha hx)))
      go (inr (_, e)) (inr ky) =
          let k = above a a y ha ha hy ka ka ky in
          absurd (omega (zarith, ap (high limit) e, low_le limit (carried (s a a)) (allowed a a ha ha)))

  pub positive_untouched : T (untouched n s A)
  positive_untouched = in_untouched n s A pair_scored
