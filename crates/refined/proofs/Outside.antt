-- The entries outside a side, listed once: loops by their places go through them and through those before each.
use mathlib.Core.Path.{◌≡◌, sym, ap, ◌∙◌}
use mathlib.Core.Bool.{true, false, not}
use mathlib.Core.List.{List, [], ◌∷◌, ◌++◌, foldl}
use Prim.Native.Nat.{ℕ, ◌+◌, ◌<◌}
use native.Mathlib.Numerals.{add-one}
use native.Mathlib.Omega.{arith}
use lib.IntN.{ℤ}
use lib.ListN.{length, take, get_or, length-take}
use lib.Seq.{get_or-take, take_all}
use Rattle.lists.specs.Lists.{below}
use Rattle.lists.proofs.Lists.{below_lt, get_d_in, keep_more, keep_same, keep_at}
use Rattle.lists.proofs.Tests.{true_T, false_T}
use Rattle.integers.proofs.Running.{foldl_same, foldl_cong, foldl_at}
use Rattle.sets.specs.Sets.{has, members, others}
use Rattle.sets.proofs.Sets.{of_others}
use Rattle.smallest.specs.Smallest.{kept_with}
use Rattle.clusters.specs.PairList.{Similarity}
use Rattle.clusters.specs.Refined.{quartet, doubled_score}
use Rattle.refined.specs.Kept.{Below, keep_beside, keep_across, keep_within, keep_quartets}

-- the loops take the quartets of the split
module _ (d : Similarity) (n A : ℕ) where
  step : ℕ → ℕ → ℕ → List ℤ → ℕ → List ℤ
  step a a' b l b' = kept_with l (doubled_score d (quartet (a, a') (b, b')))

  beside : (a a' i : ℕ) → i < length (others n A) → (l : List ℤ)
      → keep_beside d a a' (get_or (others n A) i 0) (take i (others n A)) l
      ≡ foldl (step a a' (get_or (others n A) i 0)) l (others (get_or (others n A) i 0) A)
  unfolding keep_beside step others
  beside a a' i h l = ap (foldl (step a a' (get_or (others n A) i 0)) l) (sym (keep_at (λ i. not (has A i)) n i h))

  across : (a a' : ℕ) (l : List ℤ) → keep_across d a a' (others n A) l ≡ foldl (λ l b. foldl (step a a' b) l (others b A)) l (others n A)
  unfolding keep_across
  across a a' l =
      foldl_same (λ l i. keep_beside d a a' (get_or (others n A) i 0) (take i (others n A)) l) (λ l i. each_b l (get_or (others n A) i 0)) (below (length (others n A)))
      (λ l i m. beside a a' i (below_lt (length (others n A)) m) l) l
      ∙ foldl_at each_b (others n A) l (length (others n A)) (omega arith)
      ∙ ap (foldl each_b l) (take_all (length (others n A)) (others n A) (omega arith))
    where
      each_b : List ℤ → ℕ → List ℤ
      each_b l b = foldl (step a a' b) l (others b A)

  pub loops : (l : List ℤ) → keep_quartets d n A (others n A) l
      ≡ foldl (λ l a. foldl (λ l a'. foldl (λ l b. foldl (λ l b'. kept_with l (doubled_score d (quartet (a, a') (b, b')))) l (others b A)) l (others n A)) l (members a A)) l (members n A)
  unfolding keep_quartets keep_within step
  loops l = foldl_cong (λ l a. keep_within d A (others n A) a l) (λ l a. each_a l a) (λ l a.
      foldl_cong (λ l a'. keep_across d a a' (others n A) l) (λ l a'. foldl (λ l b. foldl (step a a' b) l (others b A)) l (others n A)) (λ l a'. across a a' l) l (members a A)) l (members n A)
    where
      each_a : List ℤ → ℕ → List ℤ
      each_a l a = foldl (λ l a'. foldl (λ l b. foldl (λ l b'. kept_with l (doubled_score d (quartet (a, a') (b, b')))) l (others b A)) l (others n A)) l (members a A)

pub others_below : (n A : ℕ) → Below n (others n A)
others_below n A i h = (of_others n A {i = get_or (others n A) i 0} (get_d_in (others n A) i 0 h)).0

pub below_first : (n : ℕ) (l : List ℕ) (i : ℕ) → Below n l → Below n (take i l)
below_first n l i h j k =
    let few : j < i = omega (arith, length-take i l) in
    rw (get_or-take i l j 0 few) (h j (omega (arith, length-take i l)))

-- while they are listed: those before b, and b
module _ (A b : ℕ) {l : List ℕ} (e : l ≡ others b A) where
  pub listed_next : not (has A b) ≡ true → {m : List ℕ} → m ≡ l ++ (b ∷ []) → m ≡ others (b + 1) A
  unfolding others
  listed_next t q = q ∙ ap (λ (l : List ℕ). l ++ (b ∷ [])) e ∙ sym (rw (add-one b) (keep_more (λ i. not (has A i)) b (true_T t)))

  pub listed_same : not (has A b) ≡ false → {m : List ℕ} → m ≡ l → m ≡ others (b + 1) A
  unfolding others
  listed_same t q = q ∙ e ∙ sym (rw (add-one b) (keep_same (λ i. not (has A i)) b (false_T t)))
