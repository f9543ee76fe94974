-- The unordered pairs of different members of a set: which they are, sums and folds over them, and how many they are.
use mathlib.Core.Path.{◌≡◌, refl, sym, ap, ap₂, ◌∙◌, subst₂}
use mathlib.Core.Logic.{◌⊎◌, inl, inr}
use mathlib.Core.List.{List, [], ◌∷◌, ◌++◌, map, foldl, foldl-map}
use Prim.Native.Nat.{ℕ, zero, suc, ◌+◌, ◌≤◌, ◌<◌}
use native.Mathlib.Omega.{arith}
use lib.IntN.{ℤ, pos, ◌+ℤ◌, +ℤ_idr}
use lib.Signed.{◌≤ℤ◌, ≤ℤ_refl}
use lib.ListN.{length, length-append, length-map}
use Rattle.lists.specs.Lists.{◌∈◌, below, each, keep, Distinct}
use Rattle.lists.proofs.Lists.{below_lt, in_each, of_each, in_map, of_map, each_append, each_cong}
use Rattle.lists.proofs.Distinct.{distinct_pairs}
use Rattle.integers.specs.Integers.{sum_of}
use Rattle.integers.proofs.Linear.{zarith, +at}
use Rattle.integers.proofs.Sums.{sum_cong, sum_add, sum_append, sum_each, sum_map, sum_nonneg, sum_keep_le}
use Rattle.integers.proofs.Running.{foldl_each, foldl_cong}
use Rattle.sets.specs.Sets.{has, ◌∋◌, ◌∌◌, members, others, size, complement}
use Rattle.sets.proofs.Sets.{
  has_yes,
  yes_has,
  in_or_out,
  clash,
  in_members,
  of_members,
  members_distinct,
  members_with,
  members_without,
  members_complement,
  others_complement,
}
use Rattle.clusters.specs.Indices.{pairs_of}

-- the pairs of a and a member before it
row : ℕ → ℕ → List (ℕ × ℕ)
row A a = map (λ b. (a, b)) (members a A)

module _ (n A : ℕ) where
  pub of_pairs : {ab : ℕ × ℕ} → ab ∈ pairs_of n A → (ab.0 < n) × (ab.1 < ab.0) × (A ∋ ab.0) × (A ∋ ab.1)
  unfolding pairs_of row
  of_pairs m =
      let (a, ma, r) = of_each (members n A) (row A) m in
      let (b, mb, e) = of_map (λ b. (a, b)) (members a A) r in
      let (ha, ka) = of_members n A ma in
      let (hb, kb) = of_members a A mb in
      rw e (ha, hb, ka, kb)

  pub in_pairs : {a b : ℕ} → a < n → b < a → A ∋ a → A ∋ b → ◌∈◌ {A = ℕ × ℕ} (a, b) (pairs_of n A)
  unfolding pairs_of row
  in_pairs {a} h k ka kb = in_each (row A) (in_members n A h ka) (in_map (λ b. (a, b)) (in_members a A k kb))

  pub pairs_distinct : Distinct (pairs_of n A)
  unfolding pairs_of row
  pairs_distinct = distinct_pairs {C = ℕ × ℕ} (λ a b. (a, b)) (λ ab. ab.0) (λ ab. ab.1) (λ a b. refl) (λ a b. refl)
      (members n A) (members_distinct n A) (λ a. members a A) (λ a. members_distinct a A)

  -- by another list of the members below each m up to n
  pairs_by : (f : ℕ → List ℕ) → ((m : ℕ) → m ≤ n → members m A ≡ f m) → pairs_of n A ≡ each (f n) λ a. map (λ b. (a, b)) (f a)
  unfolding pairs_of row
  pairs_by f e =
      each_cong (members n A) (row A) (λ a. map (λ b. (a, b)) (f a)) (λ a m. let h = (of_members n A m).0 in ap (map (λ b. (a, b))) (e a (omega arith)))
      ∙ ap (λ (l : List ℕ). each l λ a. map (λ b. (a, b)) (f a)) (e n (omega arith))

  pub pairs_sum : (f : ℕ × ℕ → ℤ) → sum_of (pairs_of n A) f ≡ sum_of (members n A) (λ a. sum_of (members a A) (λ b. f (a, b)))
  unfolding pairs_of row
  pairs_sum f = sum_each (members n A) (row A) f ∙ sum_cong (members n A) _ _ (λ a _. sum_map (λ b. (a, b)) (members a A) f)

-- the pairs of the entries outside A; and of those outside of these
pub pairs_outside : (n A : ℕ) → pairs_of n (complement n A) ≡ each (others n A) λ b. map (λ b'. (b, b')) (others b A)
pairs_outside n A = pairs_by n (complement n A) (λ m. others m A) (members_complement n A)

pub pairs_back : (n A : ℕ) → pairs_of n (complement n (complement n A)) ≡ pairs_of n A
unfolding pairs_of row
pairs_back n A = pairs_by n (complement n (complement n A)) (λ m. members m A) (λ m h. members_complement n (complement n A) m h ∙ others_complement n A m h)

-- a loop over the pairs of a member and one before it, or of any a of l and b of f a
pub pairs_fold : {S : Type 0} (f : ℕ → List ℕ) (op : S → ℕ × ℕ → S) (z : S) (l : List ℕ)
    → foldl op z (each l λ a. map (λ b. (a, b)) (f a)) ≡ foldl (λ z a. foldl (λ z b. op z (a, b)) z (f a)) z l
pairs_fold f op z l = foldl_each op (λ a. map (λ b. (a, b)) (f a)) z l
    ∙ foldl_cong (λ z a. foldl op z (map (λ b. (a, b)) (f a))) (λ z a. foldl (λ z b. op z (a, b)) z (f a)) (λ z a. foldl-map (λ b. (a, b)) op (f a) z) z l

-- as many pairs as members, but one
pub pairs_size : (n A : ℕ) → size n A ≤ length (pairs_of n A) + 1
unfolding size pairs_of row each members below keep
pairs_size zero A = omega arith
pairs_size (suc n) A = go (in_or_out A n) (pairs_size n A)
  where
    go : (A ∋ n) ⊎ (A ∌ n) → size n A ≤ length (pairs_of n A) + 1 → length (members (suc n) A) ≤ length (each (members (suc n) A) (row A)) + 1
    go (inl k) ih = rw (members_with n A k, each_append (members n A) (n ∷ []) (row A), length-append (each (members n A) (row A)) (row A n ++ []), length-append (members n A) (n ∷ []))
        (omega (arith, length-append (row A n) [], length-map {B = ℕ × ℕ} (members n A) (λ b. (n, b))))
    go (inr k) ih = rw (members_without n A k) ih

-- a sum over the members below n + 1, with n in A
sum_with : (n A : ℕ) (f : ℕ → ℤ) → A ∋ n → sum_of (members (suc n) A) f ≡ sum_of (members n A) f +ℤ f n
unfolding sum_of
sum_with n A f k = ap (λ l. sum_of l f) (members_with n A k) ∙ sum_append (members n A) (n ∷ []) f ∙ ap (λ z. sum_of (members n A) f +ℤ z) (+ℤ_idr (f n))

sum_subset : (n U A : ℕ) (f g : ℕ → ℤ) → ((i : ℕ) → i < n → U ∋ i → A ∋ i) → ((i : ℕ) → f i ≤ℤ g i) → ((i : ℕ) → pos 0 ≤ℤ g i)
    → sum_of (members n U) f ≤ℤ sum_of (members n A) g
unfolding members
sum_subset n U A f g sub le nn = sum_keep_le (has U) (has A) (below n) f g (λ i m t. yes_has A i (sub i (below_lt n m) (has_yes U i t))) le nn

-- the pairs of U and W, two parts of A that share no entry, are among the unordered pairs of A
module _ (U W A : ℕ) (f g : ℕ → ℕ → ℤ) (nn : (a b : ℕ) → pos 0 ≤ℤ g a b) (fg : (a b : ℕ) → f a b ≤ℤ g a b) (gf : (a b : ℕ) → f a b ≤ℤ g b a) where
  abbrev pub across : ℕ → ℤ
  across n = sum_of (members n U) λ u. sum_of (members n W) (f u)

  abbrev pub among : ℕ → ℤ
  among n = sum_of (members n A) λ a. sum_of (members a A) (g a)

  pub pairs_le : (n : ℕ) → ((i : ℕ) → i < n → U ∋ i → A ∋ i) → ((i : ℕ) → i < n → W ∋ i → A ∋ i) → ((i : ℕ) → i < n → U ∋ i → W ∌ i) → across n ≤ℤ among n
  unfolding members below keep sum_of
  pairs_le zero hu hw apart = ≤ℤ_refl (pos 0)
  pairs_le (suc n) hu hw apart =
      go (pairs_le n (λ i l. hu i (omega arith)) (λ i l. hw i (omega arith)) (λ i l. apart i (omega arith))) (in_or_out U n) (in_or_out W n) (in_or_out A n)
    where
      row : sum_of (members n W) (f n) ≤ℤ sum_of (members n A) (g n)
      row = sum_subset n W A (f n) (g n) (λ i l. hw i (omega arith)) (fg n) (nn n)

      column : sum_of (members n U) (λ u. f u n) ≤ℤ sum_of (members n A) (g n)
      column = sum_subset n U A (λ u. f u n) (g n) (λ i l. hu i (omega arith)) (λ i. gf i n) (nn n)

      more : (x : ℤ) → A ∋ n → x ≤ℤ sum_of (members n A) (g n) → across (suc n) ≡ across n +ℤ x → across n ≤ℤ among n → across (suc n) ≤ℤ among (suc n)
      more x a h e ih = omega (zarith, sum_with n A (λ a. sum_of (members a A) (g a)) a, +at (across n) x, +at (among n) (sum_of (members n A) (g n)))

      same : U ∌ n → W ∌ n → across (suc n) ≡ across n
      same u w = ap₂ (λ l m. sum_of l (λ u. sum_of m (f u))) (members_without n U u) (members_without n W w)

      go : across n ≤ℤ among n → (U ∋ n) ⊎ (U ∌ n) → (W ∋ n) ⊎ (W ∌ n) → (A ∋ n) ⊎ (A ∌ n) → across (suc n) ≤ℤ among (suc n)
      go ih (inl u) (inl w) _ = clash w (apart n (omega arith) u)
      go ih (inl u) (inr w) _ =
          more (sum_of (members n W) (f n)) (hu n (omega arith) u) row
          (ap (λ l. sum_of (members (suc n) U) (λ u. sum_of l (f u))) (members_without n W w) ∙ sum_with n U (λ u. sum_of (members n W) (f u)) u) ih
      go ih (inr u) (inl w) _ =
          more (sum_of (members n U) (λ u. f u n)) (hw n (omega arith) w) column
          (ap (λ l. sum_of l (λ u. sum_of (members (suc n) W) (f u))) (members_without n U u)
          ∙ sum_cong (members n U) _ _ (λ u _. sum_with n W (f u) w) ∙ sum_add (members n U) (λ u. sum_of (members n W) (f u)) (λ u. f u n)) ih
      go ih (inr u) (inr w) (inl a) = more (pos 0) a (sum_nonneg (members n A) (g n) (λ i _. nn n i)) (same u w ∙ sym (+ℤ_idr (across n))) ih
      go ih (inr u) (inr w) (inr a) = subst₂ ◌≤ℤ◌ (sym (same u w)) (sym (ap (λ l. sum_of l (λ a. sum_of (members a A) (g a))) (members_without n A a))) ih
