-- Sums over the members and the entries outside of a set and of its image.
use mathlib.Core.Path.{◌≡◌, refl, sym, ap, ap₂, ◌∙◌, subst}
use mathlib.Core.Bool.{Bool, not, cond}
use mathlib.Core.Logic.{◌⊎◌, inl, inr}
use mathlib.Core.List.{List, [], ◌∷◌, ◌++◌}
use Prim.Native.Nat.{ℕ, zero, suc, ◌<◌}
use lib.IntN.{ℤ, pos, ◌+ℤ◌}
use lib.Dec.{eqb, eqb→eq}
use Rattle.lists.specs.Lists.{below, keep}
use Rattle.lists.proofs.Tests.{eqb_yes, T_same}
use Rattle.lists.proofs.Lists.{below_lt}
use Rattle.integers.specs.Integers.{sum_of}
use Rattle.integers.proofs.Linear.{zarith, +at}
use Rattle.integers.proofs.Sums.{sum_cong, sum_add, sum_swap, sum_keep, sum_snoc, sum_one}
use Rattle.sets.specs.Sets.{has, ◌∋◌, ◌∌◌, members, others, complement}
use Rattle.sets.proofs.Sets.{in_or_out, of_members, complement_has, members_with, members_without}
use Rattle.clusters.specs.Reordering.{Permutation}

-- B holds p(i) where A holds i
abbrev pub Image : (n : ℕ) → Permutation n → ℕ → ℕ → Type 0
Image n p A B = (i : ℕ) → i < n → has B (p.to i) ≡ has A i

pub complement_image : (n : ℕ) (p : Permutation n) (A B : ℕ) → Image n p A B → Image n p (complement n A) (complement n B)
complement_image n p A B im i h = complement_has n B (p.to_lt i h) ∙ ap not (im i h) ∙ sym (complement_has n A h)

module _ (n : ℕ) (p : Permutation n) where
  reindex : (f : ℕ → ℤ) → sum_of (below n) (λ i. f (p.to i)) ≡ sum_of (below n) f
  reindex f =
      sum_cong (below n) _ _ (λ i m. sym (sum_one n (p.to i) (p.to_lt i (below_lt n m)) f))
      ∙ sum_swap (below n) (below n) (λ i j. cond (eqb j (p.to i)) (f j) (pos 0))
      ∙ sum_cong (below n) _ f (λ j mj.
      sum_cong (below n) _ _ (λ i mi. ap (λ b. cond b (f j) (pos 0)) (flip i j (below_lt n mi) (below_lt n mj)))
      ∙ sum_one n (p.from j) (p.from_lt j (below_lt n mj)) (λ i. f j))
    where
      flip : (i j : ℕ) → i < n → j < n → eqb j (p.to i) ≡ eqb i (p.from j)
      flip i j hi hj = T_same (eqb j (p.to i)) (eqb i (p.from j))
          (λ t. eqb_yes i (p.from j) (sym (p.from_to i hi) ∙ ap p.from (sym (eqb→eq j (p.to i) t))))
          (λ t. eqb_yes j (p.to i) (sym (p.to_from j hj) ∙ ap p.to (sym (eqb→eq i (p.from j) t))))

  reindex_keep : (q r : ℕ → Bool) → ((i : ℕ) → i < n → r (p.to i) ≡ q i) → (f : ℕ → ℤ)
      → sum_of (keep r (below n)) f ≡ sum_of (keep q (below n)) (λ i. f (p.to i))
  reindex_keep q r e f =
      sum_keep r (below n) f ∙ sym (reindex (λ j. cond (r j) (f j) (pos 0)))
      ∙ sum_cong (below n) _ _ (λ i m. ap (λ b. cond b (f (p.to i)) (pos 0)) (e i (below_lt n m)))
      ∙ sym (sum_keep q (below n) (λ i. f (p.to i)))

  module _ (A B : ℕ) (im : Image n p A B) where
    pub reindex_members : (f : ℕ → ℤ) → sum_of (members n B) f ≡ sum_of (members n A) (λ i. f (p.to i))
    unfolding members
    reindex_members f = reindex_keep (has A) (has B) im f

    pub reindex_others : (f : ℕ → ℤ) → sum_of (others n B) f ≡ sum_of (others n A) (λ i. f (p.to i))
    unfolding others
    reindex_others f = reindex_keep (λ i. not (has A i)) (λ j. not (has B j)) (λ i h. ap not (im i h)) f

-- f over all pairs of the list, over each element with itself, and over each element and the members of A below it
abbrev square : List ℕ → (ℕ → ℕ → ℤ) → ℤ
square l f = sum_of l λ a. sum_of l (f a)

abbrev diagonal : List ℕ → (ℕ → ℕ → ℤ) → ℤ
diagonal l f = sum_of l λ a. f a a

abbrev unordered : ℕ → List ℕ → (ℕ → ℕ → ℤ) → ℤ
unordered A l f = sum_of l λ a. sum_of (members a A) (f a)

-- all pairs of members are the unordered pairs twice, and each member with itself
module _ (A : ℕ) (f : ℕ → ℕ → ℤ) (symm : (a b : ℕ) → f a b ≡ f b a) where
  abbrev Twice : List ℕ → Type 0
  Twice l = (unordered A l f +ℤ unordered A l f) +ℤ diagonal l f ≡ square l f

  twice_snoc : (n : ℕ) → Twice (members n A) → Twice (members n A ++ (n ∷ []))
  twice_snoc n e =
      ap₂ (λ x y. (x +ℤ x) +ℤ y) (sum_snoc l n (λ a. sum_of (members a A) (f a))) (sum_snoc l n (λ a. f a a))
      ∙ end (unordered A l f) (diagonal l f) (square l f) (sum_of l (f n)) (f n n) e
      ∙ sym grown
    where
      l : List ℕ
      l = members n A

      grown : square (l ++ (n ∷ [])) f ≡ (square l f +ℤ sum_of l (f n)) +ℤ (sum_of l (f n) +ℤ f n n)
      grown =
          sum_cong (l ++ (n ∷ [])) _ (λ a. sum_of l (f a) +ℤ f a n) (λ a _. sum_snoc l n (f a))
          ∙ sum_snoc l n (λ a. sum_of l (f a) +ℤ f a n)
          ∙ ap (λ z. z +ℤ (sum_of l (f n) +ℤ f n n)) (sum_add l (λ a. sum_of l (f a)) (λ a. f a n) ∙ ap (λ z. square l f +ℤ z) (sum_cong l _ _ (λ a _. symm a n)))

      end : (U D S R d : ℤ) → (U +ℤ U) +ℤ D ≡ S → ((U +ℤ R) +ℤ (U +ℤ R)) +ℤ (D +ℤ d) ≡ (S +ℤ R) +ℤ (R +ℤ d)
      end U D S R d e =
          omega (zarith, +at U U, +at (U +ℤ U) D, +at U R, +at (U +ℤ R) (U +ℤ R), +at D d, +at ((U +ℤ R) +ℤ (U +ℤ R)) (D +ℤ d), +at S R, +at R d, +at (S +ℤ R) (R +ℤ d))

  twice : (n : ℕ) → Twice (members n A)
  unfolding sum_of members below keep
  twice zero = refl
  twice (suc n) = go (twice n) (in_or_out A n)
    where
      go : Twice (members n A) → (A ∋ n) ⊎ (A ∌ n) → Twice (members (suc n) A)
      go ih (inl k) = subst Twice (sym (members_with n A k)) (twice_snoc n ih)
      go ih (inr k) = subst Twice (sym (members_without n A k)) ih

-- a symmetric sum over the unordered pairs of members
module _ (n : ℕ) (p : Permutation n) (A B : ℕ) (im : Image n p A B) (f g : ℕ → ℕ → ℤ) (moved : (a b : ℕ) → a < n → b < n → g (p.to a) (p.to b) ≡ f a b) where
  row : (a : ℕ) → a < n → sum_of (members n B) (g (p.to a)) ≡ sum_of (members n A) (f a)
  row a h = reindex_members n p A B im (g (p.to a)) ∙ sum_cong (members n A) _ _ (λ b m. moved a b h (of_members n A m).0)

  square_image : square (members n B) g ≡ square (members n A) f
  square_image = reindex_members n p A B im (λ a. sum_of (members n B) (g a)) ∙ sum_cong (members n A) _ _ (λ a m. row a (of_members n A m).0)

  diagonal_image : diagonal (members n B) g ≡ diagonal (members n A) f
  diagonal_image = reindex_members n p A B im (λ a. g a a) ∙ sum_cong (members n A) _ _ (λ a m. let h = (of_members n A m).0 in moved a a h h)

  pub reindex_pairs : ((a b : ℕ) → f a b ≡ f b a) → ((a b : ℕ) → g a b ≡ g b a)
      → sum_of (members n B) (λ a. sum_of (members a B) (g a)) ≡ sum_of (members n A) (λ a. sum_of (members a A) (f a))
  reindex_pairs f-symm g-symm = halve _ _ _ _ _ _ (twice B g g-symm n) (twice A f f-symm n) diagonal_image square_image
    where
      halve : (u v d e s t : ℤ) → (u +ℤ u) +ℤ d ≡ s → (v +ℤ v) +ℤ e ≡ t → d ≡ e → s ≡ t → u ≡ v
      halve u v d e s t a b c r = omega (zarith, +at u u, +at (u +ℤ u) d, +at v v, +at (v +ℤ v) e)
