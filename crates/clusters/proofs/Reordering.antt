-- A reordering of the entries keeps every index, and the groups and splits of the new sheet are the images of those of the old.
use mathlib.Core.Path.{◌≡◌, refl, sym, ap, ap₂, ◌∙◌, subst, subst₂}
use mathlib.Core.Bool.{not, xor, cond, ◌&&◌}
use mathlib.Core.Logic.{◌↔◌}
use mathlib.Core.List.Memᴰ
use mathlib.Core.List.{List}
use Prim.Native.Nat.{ℕ, ◌-◌, ◌^◌, ◌≤◌, ◌<◌}
use native.Mathlib.Omega.{arith}
use lib.IntN.{ℤ, pos, ◌-ℤ◌, ◌+ℤ◌}
use lib.Signed.{◌≤ℤ◌}
use lib.Dec.{T, leb}
use Rattle.lists.specs.Lists.{◌∈◌}
use Rattle.lists.proofs.Tests.{T_and, cond_elim}
use Rattle.integers.specs.Integers.{max_z, least, sum_of, sum_of_smallest}
use Rattle.integers.proofs.Linear.{up, dn, zarith}
use Rattle.integers.proofs.Least.{least_same}
use Rattle.integers.proofs.Sums.{sum_cong, sum_const}
use Rattle.integers.proofs.Smallest.{smallest_same}
use Rattle.sets.specs.Sets.{has, ◌∋◌, ◌∌◌, members, others, size, complement}
use Rattle.sets.proofs.Sets.{has_yes, yes_has, has_no, no_has, mask_lt, mask_has, of_others, complement_lt, not_complement, size_complement}
use Rattle.pairs.specs.Pairs.{carried}
use Rattle.clusters.specs.PairList.{Similarity, Symmetric, score_limit}
use Rattle.clusters.specs.Indices.{strong_values, strong_index, weight, weights, clean_index, separation_values, separation_index}
use Rattle.clusters.specs.Fillings.{low, high, worst, filled_index}
use Rattle.clusters.specs.Groups.{Kind, HasLine, strong, clean, splits, index, proper, speaks_of, groups, written_set}
use Rattle.clusters.specs.Reordering.{Permutation, Reordered, image}
use Rattle.clusters.proofs.Weights.{weight_symm, weights_sum}
use Rattle.clusters.proofs.Strong.{in_strong_values, of_strong_values, in_separation_values, of_separation_values}
use Rattle.clusters.proofs.Farris.{separation_either_side}
use Rattle.clusters.proofs.Groups.{least_size, between, speaks_size, of_listed, is_listed, listed_index, line_of}
use Rattle.clusters.proofs.Reindex.{Image, reindex_members, reindex_others, reindex_pairs}

pub image_lt : (n : ℕ) (p : Permutation n) (A : ℕ) → image n p A < 2 ^ n
unfolding image
image_lt n p A = mask_lt n (λ j. has A (p.from j))

pub image_has : (n : ℕ) (p : Permutation n) (A : ℕ) (i : ℕ) → i < n → has (image n p A) (p.to i) ≡ has A i
unfolding image
image_has n p A i h = mask_has n (λ j. has A (p.from j)) (p.to i) (p.to_lt i h) ∙ ap (has A) (p.from_to i h)

pub size_image : (n : ℕ) (p : Permutation n) (A : ℕ) → size n (image n p A) ≡ size n A
unfolding size up dn
size_image n p A =
    omega (zarith, reindex_members n p A (image n p A) (image_has n p A) (λ i. pos 1), sum_const (members n A) (pos 1), sum_const (members n (image n p A)) (pos 1))

-- what a reordering does, its inverse undoes
unfoldable pub inverse : {n : ℕ} → Permutation n → Permutation n
inverse p = record { to = p.from; from = p.to; to_lt = p.from_lt; from_lt = p.to_lt; from_to = p.to_from; to_from = p.from_to }

inverse_image : (n : ℕ) (p : Permutation n) (A B : ℕ) → Image n p A B → Image n (inverse p) B A
unfolding inverse
inverse_image n p A B im j h = sym (im (p.from j) (p.from_lt j h)) ∙ ap (has B) (p.to_from j h)

inverse_reordered : (n : ℕ) (p : Permutation n) (old new : Similarity) → Reordered n p old new → Reordered n (inverse p) new old
unfolding inverse
inverse_reordered n p old new r =
    record { same = λ i j hi hj. sym (r.same (p.from i) (p.from j) (p.from_lt i hi) (p.from_lt j hj)) ∙ ap₂ new (p.to_from i hi) (p.to_from j hj) }

module _ (n : ℕ) (p : Permutation n) (old new : Similarity) (r : Reordered n p old new) (A B : ℕ) (im : Image n p A B) where
  to_in : {i : ℕ} → i < n → A ∋ i → B ∋ p.to i
  to_in {i} h k = has_yes B (p.to i) (rw (im i h) (yes_has A i k))

  to_out : {i : ℕ} → i < n → A ∌ i → B ∌ p.to i
  to_out {i} h k = has_no B (p.to i) (rw (im i h) (no_has A i k))

  strong_value : (z : ℤ) → z ∈ strong_values n old A → z ∈ strong_values n new B
  strong_value z m =
      let (a, b, x, ha, hb, hx, ka, kb, kx, e) = of_strong_values n old A m in
      Memᴰ.cast (e ∙ sym (ap₂ ◌-ℤ◌ (r.same a b ha hb) (r.same a x ha hx)))
      (in_strong_values n new B (p.to_lt a ha) (p.to_lt b hb) (p.to_lt x hx) (to_in ha ka) (to_in hb kb) (to_out hx kx))

  separation_value : (z : ℤ) → z ∈ separation_values n old A → z ∈ separation_values n new B
  separation_value z m =
      let (a, a', b, b', ha, ha', hb, hb', ka, ka', kb, kb', e) = of_separation_values n old A m in
      Memᴰ.cast (e ∙ sym (ap₂ ◌-ℤ◌ (ap₂ ◌-ℤ◌ (ap₂ ◌+ℤ◌ (r.same a b ha hb) (r.same a' b' ha' hb')) (r.same a a' ha ha')) (r.same b b' hb hb')))
      (in_separation_values n new B (p.to_lt a ha) (p.to_lt a' ha') (p.to_lt b hb) (p.to_lt b' hb') (to_in ha ka) (to_in ha' ka') (to_out hb kb) (to_out hb' kb'))

-- values that a reordering carries over, and so its inverse brings back
least_image : (n : ℕ) (values : Similarity → ℕ → List ℤ)
    → ((p : Permutation n) (old new : Similarity) → Reordered n p old new → (A B : ℕ) → Image n p A B → (z : ℤ) → z ∈ values old A → z ∈ values new B)
    → (p : Permutation n) (old new : Similarity) → Reordered n p old new → (A : ℕ) → least (values new (image n p A)) ≡ least (values old A)
least_image n values carry p old new r A = least_same (values new (image n p A)) (values old A)
    (carry (inverse p) new old (inverse_reordered n p old new r) (image n p A) A (inverse_image n p A (image n p A) (image_has n p A)))
    (carry p old new r A (image n p A) (image_has n p A))

module _ (n : ℕ) (p : Permutation n) (old new : Similarity) (r : Reordered n p old new) where
  pub strong_image : (A : ℕ) → strong_index n new (image n p A) ≡ strong_index n old A
  unfolding strong_index
  strong_image = least_image n (strong_values n) (strong_value n) p old new r

  pub separation_image : (A : ℕ) → separation_index n new (image n p A) ≡ separation_index n old A
  unfolding separation_index
  separation_image = least_image n (separation_values n) (separation_value n) p old new r

  weight_image : (a b c : ℕ) → a < n → b < n → c < n → weight new (p.to a) (p.to b) (p.to c) ≡ weight old a b c
  unfolding weight
  weight_image a b c ha hb hc = ap₂ ◌-ℤ◌ (r.same a b ha hb) (ap₂ max_z (r.same a c ha hc) (r.same b c hb hc))

  weights_image : Symmetric old → Symmetric new → (A : ℕ) (φ : ℤ → ℤ) → sum_of (weights n new (image n p A)) φ ≡ sum_of (weights n old A) φ
  weights_image old-symm new-symm A φ =
      weights_sum n new (image n p A) φ
      ∙ reindex_pairs n p A (image n p A) (image_has n p A) before after moved
      (λ a b. sum_cong (others n A) _ _ (λ c _. ap φ (weight_symm old old-symm a b c)))
      (λ a b. sum_cong (others n (image n p A)) _ _ (λ c _. ap φ (weight_symm new new-symm a b c)))
      ∙ sym (weights_sum n old A φ)
    where
      before : ℕ → ℕ → ℤ
      before a b = sum_of (others n A) λ c. φ (weight old a b c)

      after : ℕ → ℕ → ℤ
      after a b = sum_of (others n (image n p A)) λ c. φ (weight new a b c)

      moved : (a b : ℕ) → a < n → b < n → after (p.to a) (p.to b) ≡ before a b
      moved a b ha hb =
          reindex_others n p A (image n p A) (image_has n p A) (λ c. φ (weight new (p.to a) (p.to b) c))
          ∙ sum_cong (others n A) _ _ (λ c m. ap φ (weight_image a b c ha hb (of_others n A m).0))

  pub clean_image : Symmetric old → Symmetric new → (A : ℕ) → clean_index n new (image n p A) ≡ clean_index n old A
  unfolding clean_index
  clean_image old-symm new-symm A =
      smallest_same (weights n new (image n p A)) (weights n old A) (weights_image old-symm new-symm A) (size n (image n p A) - 1)
      ∙ ap (λ (k : ℕ). sum_of_smallest (k - 1) (weights n old A)) (size_image n p A)

-- the mark goes with its pair, so the filling that is worst for the image of A is that of A, reordered
module _ (limit n : ℕ) (p : Permutation n) (old new : Similarity) (r : Reordered n p old new) (A : ℕ) where
  worst_reordered : Reordered n p (worst limit A old) (worst limit (image n p A) new)
  unfolding worst
  worst_reordered = record {
    same = λ i j hi hj. ap₂ (λ c z. cond c (high limit (carried z)) (low limit (carried z)))
        (ap₂ xor (image_has n p A i hi) (image_has n p A j hj)) (r.same i j hi hj);
  }

  filled_image : filled_index limit n new (image n p A) ≡ filled_index limit n old A
  unfolding filled_index
  filled_image = strong_image n p (worst limit A old) (worst limit (image n p A) new) worst_reordered A

pub index_image : (k : Kind) (n : ℕ) (p : Permutation n) (old new : Similarity) → Reordered n p old new → Symmetric old → Symmetric new
    → (A : ℕ) → index k n new (image n p A) ≡ index k n old A
unfolding index
index_image strong n p old new r _ _ A = filled_image score_limit n p old new r A
index_image clean n p old new r old-symm new-symm A = clean_image n p old new r old-symm new-symm A
index_image splits n p old new r _ _ A = separation_image n p old new r A

-- of a split both sides have such a size, or neither has
speaks_written : (k : Kind) (n A : ℕ) → T (speaks_of k n (written_set k n A)) ↔ ((least_size k ≤ size n A) × (size n A < n))
unfolding speaks_of proper written_set least_size
speaks_written strong n A = between 1 (size n A) n
speaks_written clean n A = between 2 (size n A) n
speaks_written splits n A = cond_elim (has A 0) (complement n A) A (λ B. T (speaks_of splits n B) ↔ ((1 ≤ size n A) × (size n A < n)))
    (λ t. (
      λ q. let r = sizes (complement n A) q in omega (arith, size_complement n A),
      λ r. speaks (complement n A) (omega (arith, size_complement n A)) (no_has (complement n A) 0 (not_complement n A (omega arith) (has_yes A 0 t))),
    ))
    (λ t. (sizes A, λ r. speaks A r t))
  where
    sizes : (B : ℕ) → T (speaks_of splits n B) → (1 ≤ size n B) × (size n B < n)
    sizes B q = speaks_size splits n B q

    speaks : (B : ℕ) → (1 ≤ size n B) × (size n B < n) → T (not (has B 0)) → T (speaks_of splits n B)
    speaks B r t = T_and (leb 1 (size n B) && proper n B) (not (has B 0)) ((between 1 (size n B) n).1 r) t

written_lt : (k : Kind) (n A : ℕ) → A < 2 ^ n → written_set k n A < 2 ^ n
unfolding written_set
written_lt strong n A h = h
written_lt clean n A h = h
written_lt splits n A h = cond_elim (has A 0) (complement n A) A (λ B. B < 2 ^ n) (λ _. complement_lt n A) (λ _. h)

index_written : (k : Kind) (n : ℕ) (s : Similarity) → Symmetric s → (A : ℕ) → index k n s (written_set k n A) ≡ index k n s A
unfolding index written_set
index_written strong n s symm A = refl
index_written clean n s symm A = refl
index_written splits n d symm A =
    cond_elim (has A 0) (complement n A) A (λ B. separation_index n d B ≡ separation_index n d A) (λ _. separation_either_side n d symm A) (λ _. refl)

-- a set of size m and index i is listed, and with the number z
abbrev Line : Kind → ℕ → ℤ → ℕ → ℤ → Type 0
Line k n z m i = (least_size k ≤ m) × (m < n) × (pos 1 ≤ℤ i) × (z ≡ i)

in_written : (k : Kind) (n : ℕ) (s : Similarity) → Symmetric s → (A : ℕ) → A < 2 ^ n → (z : ℤ)
    → HasLine (groups k n s) (written_set k n A) z ↔ Line k n z (size n A) (index k n s A)
in_written k n s symm A h z = (
  λ m.
      let (_, t, q) = (line_of k n s B z).0 m in
      let (l, u) = (speaks_written k n A).0 (of_listed k n s B t).0 in
      (l, u, subst (λ i. pos 1 ≤ℤ i) e (listed_index k n s B t), q ∙ e),
  λ (l, u, v, q). (line_of k n s B z).1
      (written_lt k n A h, is_listed k n s B ((speaks_written k n A).1 (l, u)) (subst (λ i. pos 1 ≤ℤ i) (sym e) v), q ∙ sym e),
)
  where
    B : ℕ
    B = written_set k n A

    e : index k n s B ≡ index k n s A
    e = index_written k n s symm A

pub groups_image : (k : Kind) (n : ℕ) (p : Permutation n) (old new : Similarity) → Reordered n p old new → Symmetric old → Symmetric new → (A : ℕ)
    → A < 2 ^ n → (z : ℤ)
    → HasLine (groups k n old) (written_set k n A) z ↔ HasLine (groups k n new) (written_set k n (image n p A)) z
groups_image k n p old new r old-symm new-symm A h z =
    let before = in_written k n old old-symm A h z in
    let after = in_written k n new new-symm (image n p A) (image_lt n p A) z in
    let e = index_image k n p old new r old-symm new-symm A in
    (λ m. after.1 (subst₂ (Line k n z) (sym (size_image n p A)) (sym e) (before.0 m)), λ m. before.1 (subst₂ (Line k n z) (size_image n p A) e (after.0 m)))
