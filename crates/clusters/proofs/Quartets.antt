-- The quartets of a split: which they are, how many, sums and loops over them; the symmetries of their scores.
use mathlib.Core.Path.{◌≡◌, refl, ap, ap₂, ◌∙◌}
use mathlib.Core.Logic.{◌↔◌}
use mathlib.Core.List.{List, map, foldl, foldl-map}
use Prim.Native.Nat.{ℕ, zero, suc, ◌+◌, ◌-◌, ◌*◌, ◌≤◌}
use native.Mathlib.Omega.{arith}
use lib.IntN.{ℤ, pos, ◌+ℤ◌, ◌-ℤ◌, +ℤ_comm}
use lib.Signed.{◌≤ℤ◌}
use lib.ListN.{length, length-map}
use Rattle.lists.specs.Lists.{◌∈◌, each, Distinct}
use Rattle.lists.proofs.Lists.{in_each, of_each, in_map, of_map, length_each}
use Rattle.lists.proofs.Distinct.{distinct_pairs}
use Rattle.integers.specs.Integers.{min_z, sum_of}
use Rattle.integers.proofs.Linear.{up, dn, zarith, +at, -at}
use Rattle.integers.proofs.Least.{min_left, min_comm}
use Rattle.integers.proofs.Sums.{sum_cong, sum_each, sum_map}
use Rattle.integers.proofs.Running.{foldl_each, foldl_cong}
use Rattle.sets.specs.Sets.{members, others, size, complement}
use Rattle.sets.proofs.Sets.{in_complement, of_complement, size_complement}
use Rattle.clusters.specs.PairList.{Similarity, Symmetric}
use Rattle.clusters.specs.Indices.{pairs_of}
use Rattle.clusters.specs.Refined.{Quartet, quartet, quartets, doubled_score, Across}
use Rattle.clusters.proofs.Pairs.{of_pairs, in_pairs, pairs_distinct, pairs_outside, pairs_fold, pairs_size}

-- a and a' may change places, b and b', and the two sides
module _ (d : Similarity) (symm : Symmetric d) (a a' b b' : ℕ) where
  pub score_left : doubled_score d (quartet (a, a') (b, b')) ≡ doubled_score d (quartet (a', a) (b, b'))
  unfolding quartet doubled_score
  score_left = ap₂ ◌-ℤ◌
      (min_comm (d a b +ℤ d a' b') (d a b' +ℤ d a' b) ∙ ap₂ min_z (+ℤ_comm (d a b') (d a' b)) (+ℤ_comm (d a b) (d a' b')))
      (ap (λ z. z +ℤ d b b') (symm a a'))

  pub score_right : doubled_score d (quartet (a, a') (b, b')) ≡ doubled_score d (quartet (a, a') (b', b))
  unfolding quartet doubled_score
  score_right = ap₂ ◌-ℤ◌ (min_comm (d a b +ℤ d a' b') (d a b' +ℤ d a' b)) (ap (λ z. d a a' +ℤ z) (symm b b'))

  pub score_sides : doubled_score d (quartet (a, a') (b, b')) ≡ doubled_score d (quartet (b, b') (a, a'))
  unfolding quartet doubled_score
  score_sides = ap₂ ◌-ℤ◌
      (ap₂ min_z (ap₂ ◌+ℤ◌ (symm a b) (symm a' b')) (ap₂ ◌+ℤ◌ (symm a b') (symm a' b) ∙ +ℤ_comm (d b' a) (d b a')))
      (+ℤ_comm (d a a') (d b b'))

-- the scores of pq|yz and py|qz have a sum of at most 0
pub scores_opposed : (d : Similarity) (p q y z : ℕ) → (doubled_score d (quartet (p, q) (y, z)) +ℤ doubled_score d (quartet (p, y) (q, z))) ≤ℤ pos 0
unfolding quartet doubled_score up dn
scores_opposed d p q y z = end (d p y +ℤ d q z) (d p z +ℤ d q y) (d p q +ℤ d y z) (d p z +ℤ d y q)
  where
    end : (u v w x : ℤ) → (min_z u v -ℤ w +ℤ (min_z w x -ℤ u)) ≤ℤ pos 0
    end u v w x = omega (zarith, min_left u v, min_left w x, -at (min_z u v) w, -at (min_z w x) u, +at (min_z u v -ℤ w) (min_z w x -ℤ u))

-- the quartets of a pair of l and a pair of m; those of a split are these of the pairs of its two sides
unfoldable pub quartets_of : (l m : List (ℕ × ℕ)) → List Quartet
quartets_of l m = each l λ aa. map (quartet aa) m

module _ (l m : List (ℕ × ℕ)) where
  pub length_quartets : length (quartets_of l m) ≡ length l * length m
  unfolding quartets_of
  length_quartets = length_each l (λ aa. map (quartet aa) m) (length m) (λ aa. length-map m (quartet aa))

  -- a sum over their scores
  pub scores_sum : (d : Similarity) (φ : ℤ → ℤ)
      → sum_of (map (doubled_score d) (quartets_of l m)) φ ≡ sum_of l (λ aa. sum_of m (λ bb. φ (doubled_score d (quartet aa bb))))
  unfolding quartets_of
  scores_sum d φ =
      sum_map (doubled_score d) (quartets_of l m) φ
      ∙ sum_each l (λ aa. map (quartet aa) m) (λ q. φ (doubled_score d q))
      ∙ sum_cong l _ _ (λ aa _. sum_map (quartet aa) m (λ q. φ (doubled_score d q)))

-- two numbers from 1 on have a product of their sum less 1 or more
pub product_ge : (a b : ℕ) → 1 ≤ a → 1 ≤ b → a + b ≤ a * b + 1
product_ge zero b h k = absurd (omega arith)
product_ge (suc a) zero h k = absurd (omega arith)
product_ge (suc a) (suc b) h k = omega arith

module _ (n A : ℕ) where
  abbrev other : ℕ
  other = complement n A

  row : ℕ × ℕ → List Quartet
  row aa = map (quartet aa) (pairs_of n other)

  quartets_are : quartets n A ≡ quartets_of (pairs_of n A) (pairs_of n other)
  unfolding quartets quartets_of
  quartets_are = refl

  -- a sum over the scores of a split
  pub split_sum : (d : Similarity) (φ : ℤ → ℤ) → sum_of (map (doubled_score d) (quartets n A)) φ
      ≡ sum_of (pairs_of n A) (λ aa. sum_of (pairs_of n (complement n A)) (λ bb. φ (doubled_score d (quartet aa bb))))
  split_sum d φ = rw quartets_are (scores_sum (pairs_of n A) (pairs_of n other) d φ)

  -- the quartets of a split are those that lie across it, each once
  pub in_quartets : (q : Quartet) → (q ∈ quartets n A) ↔ Across n A q
  unfolding quartets row quartet
  in_quartets q = (
    λ m.
        let (aa, ma, r) = of_each (pairs_of n A) row m in
        let (bb, mb, e) = of_map (quartet aa) (pairs_of n other) r in
        let (hb, lb, kb, kb') = of_pairs n other mb in
        rw e (record { one_side = of_pairs n A ma; other_side = (hb, lb, of_complement n A hb kb, of_complement n A (omega arith) kb') }),
    λ c.
        let (ha, la, ka, ka') = c.one_side in
        let (hb, lb, kb, kb') = c.other_side in
        in_each row (in_pairs n A ha la ka ka')
        (in_map (quartet (q.a, q.a')) (in_pairs n other hb lb (in_complement n A hb kb) (in_complement n A (omega arith) kb'))),
  )

  pub quartets_distinct : Distinct (quartets n A)
  unfolding quartets row quartet
  quartets_distinct = distinct_pairs quartet (λ q. (q.a, q.a')) (λ q. (q.b, q.b')) (λ aa bb. refl) (λ aa bb. refl)
      (pairs_of n A) (pairs_distinct n A) (λ aa. pairs_of n other) (λ aa. pairs_distinct n other)

  -- four loops take them in their order: a in A, a' in A before a, b outside, b' outside before b
  pub quartets_fold : {S : Type 0} (op : S → Quartet → S) (z : S) → foldl op z (quartets n A)
      ≡ foldl (λ z a. foldl (λ z a'. foldl (λ z b. foldl (λ z b'. op z (quartet (a, a') (b, b'))) z (others b A)) z (others n A)) z (members a A)) z (members n A)
  unfolding quartets row pairs_of
  quartets_fold {S} op z =
      foldl_each op row z (pairs_of n A)
      ∙ foldl_cong (λ z aa. foldl op z (row aa)) inner (λ z aa.
      foldl-map (quartet aa) op (pairs_of n other) z
      ∙ ap (λ l. foldl (λ z bb. op z (quartet aa bb)) z l) (pairs_outside n A)
      ∙ pairs_fold (λ b. others b A) (λ z bb. op z (quartet aa bb)) z (others n A)) z (pairs_of n A)
      ∙ pairs_fold (λ a. members a A) inner z (members n A)
    where
      inner : S → ℕ × ℕ → S
      inner z aa = foldl (λ z b. foldl (λ z b'. op z (quartet aa (b, b'))) z (others b A)) z (others n A)

  -- a split with two entries or more on each side has n − 3 of them or more
  pub quartets_many : 2 ≤ size n A → size n A + 2 ≤ n → n - 3 ≤ length (quartets n A)
  quartets_many h k =
      let p = pairs_size n A in
      let q = pairs_size n other in
      let s = size_complement n A in
      omega (
        arith,
        ap length quartets_are,
        length_quartets (pairs_of n A) (pairs_of n other),
        product_ge (length (pairs_of n A)) (length (pairs_of n other)) (omega arith) (omega arith),
      )
