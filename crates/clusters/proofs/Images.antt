-- A reordering carries sets to their images, the groups of kinds 1 and 2 to groups, and what a search finds to what it finds.
use mathlib.Core.Path.{◌≡◌, refl, sym, ap, ◌∙◌, subst}
use mathlib.Core.Bool.{Bool, true, false, not}
use mathlib.Core.Logic.{inl, inr, ◌↔◌}
use mathlib.Core.List.Memᴰ
use mathlib.Core.List.{List}
use Prim.Native.Nat.{ℕ, ◌^◌, ◌<◌}
use native.Mathlib.Omega.{arith}
use lib.IntN.{ℤ}
use lib.Dec.{T, T_not}
use Rattle.lists.specs.Lists.{◌∈◌}
use Rattle.lists.proofs.Tests.{T_same}
use Rattle.lists.proofs.Lists.{all_in}
use Rattle.sets.specs.Sets.{has, ◌∋◌, size, all_entries, Subset}
use Rattle.sets.proofs.Sets.{has_yes, yes_has, mask_has, subset_antisymm}
use Rattle.sets.proofs.Subsets.{all_entries_in, all_entries_lt}
use Rattle.clusters.specs.PairList.{Similarity, Symmetric}
use Rattle.clusters.specs.Groups.{Kind, HasLine, strong, clean, splits, index, group_sets, groups, written_set}
use Rattle.clusters.specs.Reordering.{Permutation, Reordered, image}
use Rattle.clusters.specs.Nesting.{first_from, holds_both, smallest_shared}
use Rattle.clusters.specs.declared.Hit.{Hit}
use Rattle.clusters.proofs.Groups.{group_set, set_line}
use Rattle.clusters.proofs.Reindex.{Image}
use Rattle.clusters.proofs.Reordering.{image_lt, size_image, inverse, groups_image}
use Rattle.clusters.proofs.Hierarchies.{Hierarchy, groups_hierarchy}
use Rattle.clusters.proofs.Searches.{Outcome, Smallest, first_cases, first_in, smallest_unique, first_smallest}
use Rattle.clusters.proofs.Shared.{holds_both_lem, shared_lt, shared_all}

module _ (n : ℕ) (p : Permutation n) where
  image_from : (A : ℕ) {j : ℕ} → j < n → has (image n p A) j ≡ has A (p.from j)
  unfolding image
  image_from A {j} h = mask_has n (λ j. has A (p.from j)) j h

  of_image : (A : ℕ) {j : ℕ} → j < n → image n p A ∋ j → A ∋ p.from j
  of_image A {j} h k = has_yes A (p.from j) (subst (λ b. T b) (image_from A h) (yes_has (image n p A) j k))

  image_of : (A : ℕ) {j : ℕ} → j < n → A ∋ p.from j → image n p A ∋ j
  image_of A {j} h k = has_yes (image n p A) j (subst (λ b. T b) (sym (image_from A h)) (yes_has A (p.from j) k))

  pub in_image : (A : ℕ) {i : ℕ} → i < n → A ∋ i → image n p A ∋ p.to i
  in_image A {i} h k = image_of A (p.to_lt i h) (subst (λ (j : ℕ). A ∋ j) (sym (p.from_to i h)) k)

  pub image_in : (A : ℕ) {i : ℕ} → i < n → image n p A ∋ p.to i → A ∋ i
  image_in A {i} h k = subst (λ (j : ℕ). A ∋ j) (p.from_to i h) (of_image A (p.to_lt i h) k)

  pub image_subset : (A B : ℕ) → Subset n A B ↔ Subset n (image n p A) (image n p B)
  image_subset A B = (
    λ s. record { all = λ j h k. image_of B h (s.all (p.from j) (p.from_lt j h) (of_image A h k)) },
    λ s. record { all = λ i h k. image_in B h (s.all (p.to i) (p.to_lt i h) (in_image A h k)) },
  )

  pub image_injective : {A B : ℕ} → A < 2 ^ n → B < 2 ^ n → image n p A ≡ image n p B → A ≡ B
  image_injective {A} {B} ha hb e = subset_antisymm n A B ha hb ((image_subset A B).1 (half e)) ((image_subset B A).1 (half (sym e)))
    where
      half : {C D : ℕ} → C ≡ D → Subset n C D
      half q = record { all = λ i _ k. subst (λ (C : ℕ). C ∋ i) q k }

  pub image_all : image n p (all_entries n) ≡ all_entries n
  image_all = subset_antisymm n (image n p (all_entries n)) (all_entries n) (image_lt n p (all_entries n)) (all_entries_lt n)
      (record { all = λ j h _. all_entries_in n h }) (record { all = λ j h _. image_of (all_entries n) h (all_entries_in n (p.from_lt j h)) })

-- the image of a set is the only set with its members
pub image_only : (n : ℕ) (p : Permutation n) (A B : ℕ) → B < 2 ^ n → Image n p A B → B ≡ image n p A
image_only n p A B h im = subset_antisymm n B (image n p A) h (image_lt n p A)
    (record { all = λ j l k. has_yes (image n p A) j (subst (λ b. T b) (same j l) (yes_has B j k)) })
    (record { all = λ j l k. has_yes B j (subst (λ b. T b) (sym (same j l)) (yes_has (image n p A) j k)) })
  where
    same : (j : ℕ) → j < n → has B j ≡ has (image n p A) j
    same j l = ap (has B) (sym (p.to_from j l)) ∙ im (p.from j) (p.from_lt j l) ∙ sym (image_from n p A l)

-- every set is an image
pub image_inverse : (n : ℕ) (p : Permutation n) (B : ℕ) → B < 2 ^ n → image n p (image n (inverse p) B) ≡ B
unfolding inverse
image_inverse n p B h = subset_antisymm n (image n p (image n q B)) B (image_lt n p (image n q B)) h
    (record { all = λ j l k. subst (λ (i : ℕ). B ∋ i) (p.to_from j l) (of_image n q B (p.from_lt j l) (of_image n p (image n q B) l k)) })
    (record { all = λ j l k. image_of n p (image n q B) l (image_of n q B (p.from_lt j l) (subst (λ (i : ℕ). B ∋ i) (sym (p.to_from j l)) k)) })
  where
    q : Permutation n
    q = inverse p

-- two hierarchies, the second made of the images of the first, and a test that passes the images of what another passes
module _ (n : ℕ) (p : Permutation n) {l l' : List ℕ} (h : Hierarchy n l) (h' : Hierarchy n l')
    (carried : (A : ℕ) → A < 2 ^ n → (A ∈ l) ↔ (image n p A ∈ l'))
    (test test' : ℕ → Bool) (same : (A : ℕ) → A ∈ l → test' (image n p A) ≡ test A) where
  -- a set of the second that passes is the image of a set of the first that passes
  origin : (B : ℕ) → B ∈ l' → T (test' B) → (A : ℕ) × (A ∈ l) × T (test A) × (image n p A ≡ B)
  origin B m t =
      let A = image n (inverse p) B in
      let e = image_inverse n p B (h'.low B m) in
      let a = (carried A (image_lt n (inverse p) B)).1 (Memᴰ.cast e m) in
      (A, a, subst (λ b. T b) (same A a) (subst (λ (C : ℕ). T (test' C)) (sym e) t), e)

  passes_image : (A : ℕ) → A ∈ l → T (test A) → (image n p A ∈ l') × T (test' (image n p A))
  passes_image A m t = ((carried A (h.low A m)).0 m, subst (λ b. T b) (sym (same A m)) t)

  smallest_image : {B : ℕ} → Smallest n test l B → Smallest n test' l' (image n p B)
  smallest_image {B} r = record {
    listed = (passes_image B r.listed r.passes).0;
    passes = (passes_image B r.listed r.passes).1;
    least = λ C m t d.
        let (A, a, u, e) = origin C m t in
        let less = r.least A a u (λ q. d (sym e ∙ ap (image n p) q)) in
        omega (arith, size_image n p A, size_image n p B, ap (size n) e);
  }

  -- only sets with the entry c pass, so only images with p(c) do
  module _ (c : ℕ) (hc : c < n) (common : (B : ℕ) → B ∈ l → T (test B) → B ∋ c) where
    pub first_image : (other other' : ℕ) → image n p other ≡ other' → (first_from test' other' 1 l').set ≡ image n p (first_from test other 1 l).set
    first_image other other' e = go (first_cases test other 1 l) (first_cases test' other' 1 l')
      where
        old : Hit
        old = first_from test other 1 l

        new : Hit
        new = first_from test' other' 1 l'

        common' : (B : ℕ) → B ∈ l' → T (test' B) → B ∋ p.to c
        common' B m t = let (A, a, u, q) = origin B m t in subst (λ (C : ℕ). C ∋ p.to c) q (in_image n p A hc (common A a u))

        go : Outcome test other 1 l old → Outcome test' other' 1 l' new → new.set ≡ image n p old.set
        go (inl r) (inl r') = smallest_unique (first_smallest n h' test' (p.to c) (p.to_lt c hc) common' r') (smallest_image (first_smallest n h test c hc common r))
        go (inl r) (inr (_, t)) =
            let (m, u) = passes_image old.set (first_in r) r.passes in
            absurd (T_not (test' (image n p old.set)) (all_in (λ A. not (test' A)) l' t m) u)
        go (inr (_, t)) (inl r') =
            let (A, a, u, _) = origin new.set (first_in r') r'.passes in
            absurd (T_not (test A) (all_in (λ A. not (test A)) l t a) u)
        go (inr (q, _)) (inr (q', _)) = ap (λ (x : Hit). x.set) q' ∙ sym e ∙ ap (λ (x : Hit). image n p x.set) (sym q)

-- kinds 1 and 2, whose sets are written as they are
unfoldable pub of_groups : Kind → Bool
of_groups strong = true
of_groups clean = true
of_groups splits = false

written_group : (k : Kind) → T (of_groups k) → (n A : ℕ) → written_set k n A ≡ A
unfolding of_groups written_set
written_group strong t n A = refl
written_group clean t n A = refl
written_group splits t n A = absurd t

module _ (k : Kind) (kind : T (of_groups k)) (n : ℕ) (s : Similarity) (A : ℕ) where
  to_line : A ∈ group_sets k n s → HasLine (groups k n s) (written_set k n A) (index k n s A)
  to_line m = let (g, h, a, i) = set_line k n s m in (g, h, a ∙ sym (written_group k kind n A), i)

  of_line : (z : ℤ) → HasLine (groups k n s) (written_set k n A) z → A ∈ group_sets k n s
  of_line z (g, m, a, _) = Memᴰ.cast (sym (a ∙ written_group k kind n A)) (group_set k n s m)

module _ (k : Kind) (kind : T (of_groups k)) (n : ℕ) (p : Permutation n) (old new : Similarity) (r : Reordered n p old new)
    (old-symm : Symmetric old) (new-symm : Symmetric new) where
  -- the groups of the new sheet are the images of those of the old
  pub group_sets_image : (A : ℕ) → A < 2 ^ n → (A ∈ group_sets k n old) ↔ (image n p A ∈ group_sets k n new)
  group_sets_image A h = (
    λ m. of_line k kind n new (image n p A) (index k n old A)
        ((groups_image k n p old new r old-symm new-symm A h (index k n old A)).0 (to_line k kind n old A m)),
    λ m. of_line k kind n old A (index k n new (image n p A))
        ((groups_image k n p old new r old-symm new-symm A h (index k n new (image n p A))).1 (to_line k kind n new (image n p A) m)),
  )

  module _ (i j : ℕ) (hi : i < n) (hj : j < n) where
    -- the smallest set that p(i) and p(j) share is the image of that which i and j share, all entries where there is none
    pub shared_image : (smallest_shared n (p.to i) (p.to j) (group_sets k n new)).set ≡ image n p (smallest_shared n i j (group_sets k n old)).set
    unfolding smallest_shared
    shared_image = first_image n p (groups_hierarchy k n old old-symm) (groups_hierarchy k n new new-symm) group_sets_image
        (holds_both i j) (holds_both (p.to i) (p.to j)) same i hi (λ B _ t. ((holds_both_lem i j B).0 t).0) (all_entries n) (all_entries n) (image_all n p)
      where
        same : (A : ℕ) → A ∈ group_sets k n old → holds_both (p.to i) (p.to j) (image n p A) ≡ holds_both i j A
        same A _ = T_same (holds_both (p.to i) (p.to j) (image n p A)) (holds_both i j A)
            (λ t. let (a, b) = (holds_both_lem (p.to i) (p.to j) (image n p A)).0 t in (holds_both_lem i j A).1 (image_in n p A hi a, image_in n p A hj b))
            (λ t. let (a, b) = (holds_both_lem i j A).0 t in (holds_both_lem (p.to i) (p.to j) (image n p A)).1 (in_image n p A hi a, in_image n p A hj b))

    -- and line 0 stays line 0
    pub shared_image_none : ((smallest_shared n i j (group_sets k n old)).line ≡ 0) ↔ ((smallest_shared n (p.to i) (p.to j) (group_sets k n new)).line ≡ 0)
    shared_image_none = (
      λ e. after.1 (shared_image ∙ ap (image n p) (before.0 e) ∙ image_all n p),
      λ e. before.1 (image_injective n p (shared_lt n i j (group_sets k n old) (groups_hierarchy k n old old-symm)) (all_entries_lt n)
          (sym shared_image ∙ after.0 e ∙ sym (image_all n p))),
    )
      where
        before : ((smallest_shared n i j (group_sets k n old)).line ≡ 0) ↔ ((smallest_shared n i j (group_sets k n old)).set ≡ all_entries n)
        before = shared_all n i j (group_sets k n old) (groups_hierarchy k n old old-symm)

        after : ((smallest_shared n (p.to i) (p.to j) (group_sets k n new)).line ≡ 0)
            ↔ ((smallest_shared n (p.to i) (p.to j) (group_sets k n new)).set ≡ all_entries n)
        after = shared_all n (p.to i) (p.to j) (group_sets k n new) (groups_hierarchy k n new new-symm)
