-- The group around a group (document 02, 2.7): in any hierarchy, so of any kind.
use mathlib.Core.Path.{◌≡◌, refl, sym, ap, ◌∙◌, subst}
use mathlib.Core.Bool.{false, not}
use mathlib.Core.Logic.{inl, inr, ◌≢◌, ◌↔◌}
use mathlib.Core.List.Memᴰ
use mathlib.Core.List.{List, [], ◌∷◌}
use Prim.Native.Nat.{ℕ, zero, suc, ◌+◌, ◌^◌, ◌≤◌, ◌<◌}
use native.Mathlib.Decide.{dec_lt}
use native.Mathlib.Omega.{arith}
use lib.Dec.{T, eqb, eqb→eq, T_not, not_T}
use lib.ListN.{length, get_or}
use lib.Pow.{pow_pos}
use Rattle.lists.specs.Lists.{◌∈◌, all}
use Rattle.lists.proofs.Tests.{and_T, T_and, eqb_no, T_false, T_same}
use Rattle.lists.proofs.Lists.{all_in, in_all, get_d_in}
use Rattle.sets.specs.Sets.{has, ◌∋◌, members, size, Subset}
use Rattle.sets.proofs.Sets.{has_yes, yes_has, clash, in_members, of_members, left_out, subset_antisymm}
use Rattle.sets.proofs.Subsets.{strict_size, empty_out}
use Rattle.clusters.specs.Groups.{Rising}
use Rattle.clusters.specs.Reordering.{Permutation, image}
use Rattle.clusters.specs.Nesting.{first_from, OnLine, strictly_holds, around, StrictlyHolds, Around}
use Rattle.clusters.specs.declared.Hit.{Hit}
use Rattle.clusters.proofs.Groups.{before_size}
use Rattle.clusters.proofs.Reordering.{image_lt, inverse}
use Rattle.clusters.proofs.Hierarchies.{Hierarchy}
use Rattle.clusters.proofs.Searches.{First, Outcome, first_cases, first_in, Looked, look_started, look_next}
use Rattle.clusters.proofs.Searches.{Smallest, smallest_only, first_smallest, smallest_inside}
use Rattle.clusters.proofs.Images.{image_subset, image_injective, image_inverse, first_image}

-- the test as a fact: of any two numbers, and in words of two sets of n entries
pub strictly_holds_lem : (n A B : ℕ) → T (strictly_holds n A B) ↔ (Subset n A B × (A ≢ B))
unfolding strictly_holds
strictly_holds_lem n A B = (
  λ t. let (p, q) = and_T (all (has B) (members n A)) (not (eqb A B)) t in
      (record { all = λ i h k. has_yes B i (all_in (has B) (members n A) p (in_members n A h k)) }, eqb_no A B q),
  λ (s, d). T_and (all (has B) (members n A)) (not (eqb A B))
      (in_all (has B) (members n A) (λ i m. let (h, k) = of_members n A m in yes_has B i (s.all i h k)))
      (not_T (eqb A B) (λ t. d (eqb→eq A B t))),
)

holds_apart : {n A B : ℕ} → StrictlyHolds n A B → A ≢ B
holds_apart s e = let (x, _, b, a) = s.more in clash (subst (λ (C : ℕ). C ∋ x) (sym e) b) a

pub in_words : (n : ℕ) {A B : ℕ} → A < 2 ^ n → B < 2 ^ n → T (strictly_holds n A B) ↔ StrictlyHolds n A B
in_words n {A} {B} ha hb = (
  λ t. let (s, d) = (strictly_holds_lem n A B).0 t in record { every = s; more = left_out n B A hb ha d s },
  λ s. (strictly_holds_lem n A B).1 (s.every, holds_apart s),
)

-- later lines have sets as large or larger
rising_places : (n : ℕ) (l : List ℕ) → Rising n l → (i j : ℕ) → i < j → j < length l
    → size n (get_or l i 0) ≤ size n (get_or l j 0)
rising_places n [] up i j h k = absurd (omega arith)
rising_places n (A ∷ l) up i zero h k = absurd (omega arith)
rising_places n (A ∷ l) up zero (suc j) h k = before_size n (up.0 (get_or l j 0) (get_d_in l j 0 (omega arith)))
rising_places n (A ∷ l) up (suc i) (suc j) h k = rising_places n l up.1 i j (omega arith) (omega arith)

-- a larger set stands on a later line
larger_later : (n : ℕ) (l : List ℕ) → Rising n l → (A W : ℕ) → size n A < size n W → (i j : ℕ) → OnLine l i A → OnLine l j W → i < j
larger_later n l up A W h zero j p q = absurd p
larger_later n l up A W h (suc i) zero p q = absurd q
larger_later n l up A W h (suc i) (suc j) p q = go (dec_lt i j)
  where
    no_later : Dec (j < i) → (i < j → ⊥) → size n W ≤ size n A
    no_later (yes m) k = omega (arith, rising_places n l up j i m p.0, ap (size n) p.1, ap (size n) q.1)
    no_later (no m) k =
        let e : j ≡ i = omega arith in omega (arith, ap (size n) q.1, ap (size n) p.1, ap (λ (i : ℕ). size n (get_or l i 0)) e)

    go : Dec (i < j) → suc i < suc j
    go (yes k) = omega arith
    go (no k) = absurd (omega (arith, h, no_later (dec_lt j i) k))

module _ (n A : ℕ) (l : List ℕ) where
  hit : Hit
  hit = first_from (strictly_holds n A) 0 1 l

  is_hit : around n A l ≡ hit.set
  unfolding around hit
  is_hit = refl

  outcome : Outcome (strictly_holds n A) 0 1 l hit
  unfolding hit
  outcome = first_cases (strictly_holds n A) 0 1 l

  module _ (h : Hierarchy n l) where
    empty_unlisted : 0 ∈ l → ⊥
    empty_unlisted m = let (i, _, k) = h.some 0 m in clash k (empty_out i)

    found : hit.set ≢ 0 → First (strictly_holds n A) 1 l hit
    found d = go outcome
      where
        go : Outcome (strictly_holds n A) 0 1 l hit → First (strictly_holds n A) 1 l hit
        go (inl r) = r
        go (inr (e, _)) = absurd (d (ap (λ (x : Hit). x.set) e))

    pub around_lt : around n A l < 2 ^ n
    around_lt = subst (λ (W : ℕ). W < 2 ^ n) (sym is_hit) (go outcome)
      where
        go : Outcome (strictly_holds n A) 0 1 l hit → hit.set < 2 ^ n
        go (inl r) = h.low hit.set (first_in r)
        go (inr (e, _)) = subst (λ (x : Hit). x.set < 2 ^ n) (sym e) (pow_pos n)

    -- of a listed set A
    module _ (a : A ∈ l) where
      to_test : {B : ℕ} → B ∈ l → StrictlyHolds n A B → T (strictly_holds n A B)
      to_test {B} m = (in_words n (h.low A a) (h.low B m)).1

      of_test : {B : ℕ} → B ∈ l → T (strictly_holds n A B) → StrictlyHolds n A B
      of_test {B} m = (in_words n (h.low A a) (h.low B m)).0

      none_around : (around n A l ≡ 0) ↔ ((B : ℕ) → B ∈ l → StrictlyHolds n A B → ⊥)
      none_around = (λ e. fore outcome (sym is_hit ∙ e), λ f. is_hit ∙ back outcome f)
        where
          fore : Outcome (strictly_holds n A) 0 1 l hit → hit.set ≡ 0 → (B : ℕ) → B ∈ l → StrictlyHolds n A B → ⊥
          fore (inl r) e B m s = empty_unlisted (Memᴰ.cast (sym e) (first_in r))
          fore (inr (_, t)) e B m s = T_not (strictly_holds n A B) (all_in (λ B. not (strictly_holds n A B)) l t m) (to_test m s)

          back : Outcome (strictly_holds n A) 0 1 l hit → ((B : ℕ) → B ∈ l → StrictlyHolds n A B → ⊥) → hit.set ≡ 0
          back (inl r) f = absurd (f hit.set (first_in r) (of_test (first_in r) r.passes))
          back (inr (e, _)) f = ap (λ (x : Hit). x.set) e

      member : ℕ
      member = (h.some A a).0

      member_lt : member < n
      unfolding member
      member_lt = (h.some A a).1

      -- a member of A is in every set that holds A
      holds_member : (B : ℕ) → B ∈ l → T (strictly_holds n A B) → B ∋ member
      unfolding member
      holds_member B _ t = let (i, hi, k) = h.some A a in ((strictly_holds_lem n A B).0 t).0.all i hi k

      smallest : around n A l ≢ 0 → Smallest n (strictly_holds n A) l (around n A l)
      smallest d = subst (Smallest n (strictly_holds n A) l) (sym is_hit)
          (first_smallest n h (strictly_holds n A) member member_lt holds_member (found (λ e. d (is_hit ∙ e))))

      some_around : (B : ℕ) → B ∈ l → StrictlyHolds n A B → around n A l ≢ 0
      some_around B m s e = none_around.0 e B m s

      -- what the search finds is the smallest listed set that strictly holds A
      pub is_around : Around n A l (around n A l)
      is_around = record {
        none = none_around;
        listed = λ d. (smallest d).listed;
        holds = λ d. of_test (smallest d).listed (smallest d).passes;
        inside = λ B m s d.
            let r = smallest (some_around B m s) in
            let low = h.low (around n A l) r.listed in
            let sub = smallest_inside n h (strictly_holds n A) member member_lt holds_member r B m (to_test m s) in (
              record { every = sub; more = left_out n B (around n A l) (h.low B m) low (λ e. d (sym e)) sub },
              r.least B m (to_test m s) d,
            );
        only = λ B m s f. smallest_only (smallest (some_around B m s)) m (to_test m s) (λ C k t. f C k (of_test k t));
        later = λ d i j.
            let r = smallest d in
            let (s, e) = (strictly_holds_lem n A (around n A l)).0 r.passes in
            larger_later n l h.rising A (around n A l) (strict_size n (h.low A a) (h.low (around n A l) r.listed) s e) i j;
      }

-- the search may start at the line after A: of the set at place i, none up to there strictly holds it
module _ (n : ℕ) (l : List ℕ) (fits : (A : ℕ) → A ∈ l → A < 2 ^ n) (up : Rising n l) (i : ℕ) (hi : i < length l) where
  not_before : (j : ℕ) → j ≤ i → strictly_holds n (get_or l i 0) (get_or l j 0) ≡ false
  not_before j k = T_false {b = strictly_holds n A B} (not_T (strictly_holds n A B) (at (dec_lt j i)))
    where
      A : ℕ
      A = get_or l i 0

      B : ℕ
      B = get_or l j 0

      at : Dec (j < i) → T (strictly_holds n A B) → ⊥
      at (yes m) t =
          let (p, d) = (strictly_holds_lem n A B).0 t in
          let larger = strict_size n (fits A (get_d_in l i 0 hi)) (fits B (get_d_in l j 0 (omega arith))) p d in
          omega (arith, larger, rising_places n l up j i m hi)
      at (no m) t = let e : i ≡ j = omega arith in ((strictly_holds_lem n A B).0 t).1 (ap (λ (i : ℕ). get_or l i 0) e)

  pub around_looked : Looked (strictly_holds n (get_or l i 0)) 0 l (i + 1) (first_from (strictly_holds n (get_or l i 0)) 0 1 l)
  around_looked = go (i + 1) (omega arith)
    where
      go : (j : ℕ) → j ≤ i + 1
          → Looked (strictly_holds n (get_or l i 0)) 0 l j (first_from (strictly_holds n (get_or l i 0)) 0 1 l)
      go zero k = look_started
      go (suc j) k =
          subst (λ (m : ℕ). Looked (strictly_holds n (get_or l i 0)) 0 l m (first_from (strictly_holds n (get_or l i 0)) 0 1 l))
          {x = j + 1} {y = suc j} (omega arith) (look_next (go j (omega arith)) (omega arith) (not_before j (omega arith)))

-- "in a reordering it is renumbered as the set is". The set without entries is inside the image of any set, so also of
-- that of which it is the image.
pub image_empty : (n : ℕ) (p : Permutation n) → image n p 0 ≡ 0
image_empty n p = subset_antisymm n (image n p 0) 0 (image_lt n p 0) (pow_pos n)
    (subst (Subset n (image n p 0)) (image_inverse n p 0 (pow_pos n)) ((image_subset n p 0 origin).0 (nothing origin))) (nothing (image n p 0))
  where
    origin : ℕ
    origin = image n (inverse p) 0

    nothing : (B : ℕ) → Subset n 0 B
    nothing B = record { all = λ i _ k. clash k (empty_out i) }

-- two hierarchies, the second made of the images of the first
around_image : (n : ℕ) (p : Permutation n) {l l' : List ℕ} → Hierarchy n l → Hierarchy n l'
    → ((A : ℕ) → A < 2 ^ n → (A ∈ l) ↔ (image n p A ∈ l'))
    → (A : ℕ) → A ∈ l → around n (image n p A) l' ≡ image n p (around n A l)
unfolding around
around_image n p {l} {l'} h h' carried A a =
    let (i, hi, k) = h.some A a in
    first_image n p h h' carried (strictly_holds n A) (strictly_holds n (image n p A)) same
    i hi (λ B _ t. ((strictly_holds_lem n A B).0 t).0.all i hi k) 0 0 (image_empty n p)
  where
    same : (B : ℕ) → B ∈ l → strictly_holds n (image n p A) (image n p B) ≡ strictly_holds n A B
    same B b = T_same (strictly_holds n (image n p A) (image n p B)) (strictly_holds n A B)
        (λ t.
        let (s, d) = (strictly_holds_lem n (image n p A) (image n p B)).0 t in
        (strictly_holds_lem n A B).1 ((image_subset n p A B).1 s, λ e. d (ap (image n p) e)))
        (λ t.
        let (s, d) = (strictly_holds_lem n A B).0 t in
        (strictly_holds_lem n (image n p A) (image n p B)).1
        ((image_subset n p A B).0 s, λ e. d (image_injective n p (h.low A a) (h.low B b) e)))
