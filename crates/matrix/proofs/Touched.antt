-- The set of the entries below a place that pass a test, joined one by one.
use mathlib.Core.Path.{◌≡◌, sym, subst}
use mathlib.Core.Bool.{Bool, true, false}
use mathlib.Core.Logic.{◌⊎◌, inl, inr}
use Prim.Native.Nat.{ℕ, ◌+◌, ◌^◌, ◌<◌, ◌≤◌}
use native.Mathlib.Decide.{ℕ_discrete}
use native.Mathlib.Omega.{arith}
use lib.Dec.{T, T_not}
use lib.Pow.{pow_pos, pow-lt}
use Rattle.lists.specs.Lists.{below}
use Rattle.lists.proofs.Lists.{below_lt, in_all}
use Rattle.lists.proofs.Tests.{true_T, false_T}
use Rattle.sets.specs.Sets.{◌∋◌, ◌∪◌, mask}
use Rattle.sets.proofs.Sets.{clash, one_in, one_only, ∪_left, ∪_right, ∪_cases, ∪_lt, in_mask, of_mask, mask_lt, subset_antisymm}
use Rattle.sets.proofs.Subsets.{empty_out}
use Rattle.pairs.specs.Pairs.{carried, is_scored}
use Rattle.clusters.specs.PairList.{Similarity}
use Rattle.clusters.specs.Fillings.{AllScored}
use Rattle.clusters.specs.Touched.{row_scored, touched_entries}

pub record Joined (n : ℕ) (p : ℕ → Bool) (A a : ℕ) : Type 0 where
  pub few : A < 2 ^ n
  pub inside : (i : ℕ) → i < a → T (p i) → A ∋ i
  pub only : (i : ℕ) → A ∋ i → T (p i)

pub join_started : {n : ℕ} {p : ℕ → Bool} → Joined n p 0 0
join_started {n} = record { few = pow_pos n; inside = λ i h t. absurd (omega arith); only = λ i k. clash k (empty_out i) }

-- the entry a fails, or it passes; none is left
module _ {n : ℕ} {p : ℕ → Bool} {A a : ℕ} (j : Joined n p A a) where
  pub join_less : p a ≡ false → Joined n p A (a + 1)
  join_less e = record { few = j.few; inside = λ i h t. go i h t (ℕ_discrete i a); only = j.only }
    where
      go : (i : ℕ) → i < a + 1 → T (p i) → Dec (i ≡ a) → A ∋ i
      go i h t (yes q) = absurd (T_not (p a) (false_T e) (subst (λ (k : ℕ). T (p k)) q t))
      go i h t (no d) = j.inside i (omega arith) t

  pub join_more : {B : ℕ} → a < n → p a ≡ true → B ≡ A ∪ 2 ^ a → Joined n p B (a + 1)
  join_more {B} l t e = record {
    few = subst (λ (S : ℕ). S < 2 ^ n) (sym e) (∪_lt n j.few (pow-lt l));
    inside = λ i h u. subst (λ (S : ℕ). S ∋ i) (sym e) (go i h u (ℕ_discrete i a));
    only = λ i k. back i (∪_cases A (2 ^ a) (subst (λ (S : ℕ). S ∋ i) e k));
  }
    where
      go : (i : ℕ) → i < a + 1 → T (p i) → Dec (i ≡ a) → (A ∪ 2 ^ a) ∋ i
      go i h u (yes q) = ∪_right A (2 ^ a) (subst (λ (k : ℕ). 2 ^ a ∋ k) (sym q) (one_in a))
      go i h u (no d) = ∪_left A (2 ^ a) (j.inside i (omega arith) u)

      back : (i : ℕ) → (A ∋ i) ⊎ ((2 ^ a) ∋ i) → T (p i)
      back i (inl k) = j.only i k
      back i (inr k) = subst (λ (k : ℕ). T (p k)) (sym (one_only a k)) (true_T t)

  pub join_ended : n ≤ a → A ≡ mask n p
  join_ended h = subset_antisymm n A (mask n p) j.few (mask_lt n p)
      (record { all = λ i l k. in_mask n p l (j.only i k) })
      (record { all = λ i l k. j.inside i (omega arith) (of_mask n p l k) })

-- with every pair scored no entry is touched
pub none_touched : (n : ℕ) (s : Similarity) → AllScored n s → 0 ≡ touched_entries n s
unfolding touched_entries row_scored
none_touched n s h = join_ended {a = n} (record {
  few = pow_pos n;
  inside = λ i l t. absurd (T_not (row_scored n s i) t (in_all (λ b. is_scored (carried (s i b))) (below n) (λ b m. h i b l (below_lt n m))));
  only = λ i k. clash k (empty_out i);
}) (omega arith)
