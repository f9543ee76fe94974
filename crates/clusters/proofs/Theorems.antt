-- What holds of the groups of every kind, for any number of entries.
use mathlib.Core.Path.{◌≡◌, refl, sym, ap, ◌∙◌, subst}
use mathlib.Core.Logic.{◌⊎◌, inl, inr}
use mathlib.Core.List.Memᴰ
use mathlib.Core.List.{
  List,
  [],
  ◌∷◌,
  ◌++◌,
}
use Prim.Native.Nat.{ℕ, suc, ◌+◌, ◌-◌, ◌*◌, ◌^◌, ◌≤◌, ◌<◌}
use native.Mathlib.Omega.{arith}
use native.Mathlib.Decide.{dec_lt}
use lib.IntN.{pos}
use lib.Signed.{◌≤ℤ◌}
use lib.Dec.{T}
use lib.ListN.{length, length-append, length-map}
use Rattle.lists.specs.Lists.{◌∈◌, below, Distinct}
use Rattle.lists.proofs.Lists.{lt_below, in_map, of_map, no_element}
use Rattle.lists.proofs.Distinct.{pigeonhole}
use Rattle.sets.specs.Sets.{◌∋◌, ◌∌◌, ◌∪◌, size, Disjoint, Nested}
use Rattle.sets.proofs.Sets.{clash, one_in, one_only, size_le, size_less, size_single}
use Rattle.clusters.specs.PairList.{Similarity, Symmetric, score_limit}
use Rattle.clusters.specs.Indices.{strong_index}
use Rattle.clusters.specs.Farris.{farris}
use Rattle.clusters.specs.Fillings.{Fills}
use Rattle.clusters.specs.Linkage.{single, average, link, Tree, singles, merged_blocks, blocks}
use Rattle.clusters.specs.Groups.{
  Kind,
  strong,
  clean,
  splits,
  index,
  listed,
  groups_by,
  group_sets,
  groups,
  most_groups,
  tree_linkage,
  TreeScores,
}
use Rattle.clusters.specs.declared.Group.{Group}
use Rattle.clusters.specs.Stability.{Stable}
use Rattle.clusters.proofs.Groups.{
  in_group_sets,
  groups_rise,
  rising_distinct,
  listed_index,
  listed_some,
  listed_proper,
  listed_clean_two,
  listed_split_first,
}
use Rattle.clusters.proofs.Farris.{farris_symm, split_strong}
use Rattle.clusters.proofs.Fillings.{lowest, lowest_fills, filled_positive}
use Rattle.clusters.proofs.Trees.{Repels, repels_in_tree}
use Rattle.clusters.proofs.Blocks.{partition_singles}
use Rattle.clusters.proofs.Links.{link_symm}
use Rattle.clusters.proofs.Single.{strong_repels}
use Rattle.clusters.proofs.Stable.{strong_stable, clean_stable, stable_nested}
use Rattle.clusters.proofs.Average.{stable_repels}
use Rattle.clusters.proofs.Exists.{tree_exists, tree_length, last_block, count_singles}

-- every stable set, neither empty nor X, is a block of every average linkage tree
pub stable_in_tree : (n : ℕ) (s : Similarity) → Symmetric s → (A : ℕ) → A < 2 ^ n → ((a : ℕ) × (a < n) × (A ∋ a)) → ((x : ℕ) × (x < n) × (A ∌ x)) → Stable n s A
    → (ms : List (ℕ × ℕ)) → Tree average n s ms → A ∈ blocks n ms
stable_in_tree n s symm A low some out h = repels_in_tree (link average n s) (link_symm n s symm average) n A (stable_repels n s symm A low some out h)

tree_symm : (k : Kind) (n : ℕ) (s f : Similarity) → TreeScores k n s f → Symmetric s → Symmetric f
tree_symm strong n s f h symm = h.symmetric
tree_symm clean n s f h symm = subst Symmetric (sym h) symm
tree_symm splits n d f h symm = subst Symmetric (sym h) (farris_symm d symm 0)

-- there are such scores: of strong groups those of the filling that gives each unscored pair the least score
tree_scores : (k : Kind) (n : ℕ) (s : Similarity) → Symmetric s → (f : Similarity) × TreeScores k n s f
tree_scores strong n s symm = (lowest score_limit s, lowest_fills score_limit n s symm)
tree_scores clean n s symm = (s, refl)
tree_scores splits n d symm = (farris d 0, refl)

module _ (n : ℕ) (s : Similarity) (symm : Symmetric s) (A : ℕ) where
  -- a strong group is strong in every filling
  strong_filled : T (listed strong n s A) → (f : Similarity) → Fills score_limit n s f → pos 1 ≤ℤ strong_index n f A
  unfolding index
  strong_filled t = (filled_positive score_limit n s symm A).0 (listed_index strong n s A t)

  -- a split is strong in the scores anchored at the first entry
  split_anchored : T (listed splits n s A) → pos 1 ≤ℤ strong_index n (farris s 0) A
  unfolding index
  split_anchored t =
      let (x, h, _) = listed_proper splits n s A t in
      split_strong n s A 0 (omega arith) (listed_split_first n s A t) (listed_index splits n s A t)

  pub group_stable : (k : Kind) (f : Similarity) → TreeScores k n s f → T (listed k n s A) → Stable n f A
  unfolding index
  group_stable strong f h t = strong_stable n f h.symmetric A (strong_filled t f h)
  group_stable clean f h t = subst (λ f. Stable n f A) (sym h) (clean_stable n s symm A (listed_index clean n s A t))
  group_stable splits f h t = subst (λ f. Stable n f A) (sym h) (strong_stable n (farris s 0) (farris_symm s symm 0) A (split_anchored t))

  group_repels : (k : Kind) (f : Similarity) → TreeScores k n s f → A < 2 ^ n → T (listed k n s A) → Repels (link (tree_linkage k) n f) n A
  unfolding tree_linkage
  group_repels strong f h low t = strong_repels n f A low (listed_some strong n s A t) (listed_proper strong n s A t) (strong_filled t f h)
  group_repels clean f h low t =
      stable_repels n f (tree_symm clean n s f h symm) A low (listed_some clean n s A t) (listed_proper clean n s A t) (group_stable clean f h t)
  group_repels splits f h low t = subst (λ f. Repels (link single n f) n A) (sym h)
      (strong_repels n (farris s 0) A low (listed_some splits n s A t) (listed_proper splits n s A t) (split_anchored t))

-- every group is a block of every tree: a strong one of every single linkage tree of every filling, a clean one of every average linkage
-- tree, a split by its written side of every single linkage tree of the scores anchored at the first entry
pub group_in_tree : (k : Kind) (n : ℕ) (s : Similarity) → Symmetric s → (A : ℕ) → A ∈ group_sets k n s → (f : Similarity) → TreeScores k n s f
    → (ms : List (ℕ × ℕ)) → Tree (tree_linkage k) n f ms → A ∈ blocks n ms
group_in_tree k n s symm A m f h =
    let (low, t) = (in_group_sets k n s A).0 m in
    repels_in_tree (link (tree_linkage k) n f) (link_symm n f (tree_symm k n s f h symm) (tree_linkage k)) n A (group_repels n s symm A k f h low t)

-- two groups of one kind are nested or disjoint
pub groups_nested : (k : Kind) (n : ℕ) (s : Similarity) → Symmetric s → (A B : ℕ) → A ∈ group_sets k n s → B ∈ group_sets k n s → Nested n A B ⊎ Disjoint n A B
groups_nested k n s symm A B a b =
    let (la, ta) = (in_group_sets k n s A).0 a in
    let (lb, tb) = (in_group_sets k n s B).0 b in
    let (f, h) = tree_scores k n s symm in
    stable_nested n f (tree_symm k n s f h symm) A B la lb (group_stable n s symm A k f h ta) (group_stable n s symm B k f h tb)

-- how many
module _ (n : ℕ) (s : Similarity) (symm : Symmetric s) where
  count_blocks : (k : Kind) (f : Similarity) (ms : List (ℕ × ℕ)) → Tree (tree_linkage k) n f ms → suc (length (blocks n ms)) ≡ n + n
  unfolding blocks merged_blocks
  count_blocks k f ms t = omega (
    arith,
    length-append (singles n) (merged_blocks ms),
    count_singles n,
    length-map ms (λ (m : ℕ × ℕ). m.0 ∪ m.1),
    tree_length (tree_linkage k) n f ms t,
  )

  -- a set with all entries is not listed, and has them all for members
  all_absent : (k : Kind) (B : ℕ) → ((i : ℕ) → i < n → B ∋ i) → B ∈ group_sets k n s → ⊥
  all_absent k B f m = let (x, hx, kx) = listed_proper k n s B ((in_group_sets k n s B).0 m).1 in clash (f x hx) kx

  all_size : (B : ℕ) → ((i : ℕ) → i < n → B ∋ i) → size n B ≡ n
  all_size B f = go (dec_lt (size n B) n)
    where
      go : Dec (size n B < n) → size n B ≡ n
      go (yes h) = let (x, hx, kx) = size_less n B h in clash (f x hx) kx
      go (no d) = omega (arith, size_le n B)

  -- the groups and what else is among these blocks are no more than there are
  room : (k : Kind) (extra all : List ℕ) → Distinct (extra ++ group_sets k n s) → ((A : ℕ) → A ∈ extra → A ∈ all) → ((A : ℕ) → A ∈ group_sets k n s → A ∈ all)
      → length extra + length (group_sets k n s) ≤ length all
  room k extra all d f g =
      omega (arith, length-append extra (group_sets k n s), pigeonhole (extra ++ group_sets k n s) all d (λ A m. at A (Memᴰ.append_cases extra m)))
    where
      at : (A : ℕ) → (A ∈ extra) ⊎ (A ∈ group_sets k n s) → A ∈ all
      at A (inl m) = f A m
      at A (inr m) = g A m

  distinct : (k : Kind) → Distinct (group_sets k n s)
  distinct k = rising_distinct n (group_sets k n s) (groups_rise k n s)

  in_blocks : (ms : List (ℕ × ℕ)) {B : ℕ} → (B ∈ singles n) ⊎ (B ∈ merged_blocks ms) → B ∈ blocks n ms
  unfolding blocks
  in_blocks ms (inl m) = Memᴰ.append_left (merged_blocks ms) m
  in_blocks ms (inr m) = Memᴰ.append_right (singles n) m

  -- a block of two entries or more is a merged one
  is_merged : (ms : List (ℕ × ℕ)) {B : ℕ} → 2 ≤ size n B → (B ∈ singles n) ⊎ (B ∈ merged_blocks ms) → B ∈ merged_blocks ms
  unfolding singles
  is_merged ms h (inr m) = m
  is_merged ms {B} h (inl m) =
      let (i, _, e) = of_map (λ i. 2 ^ i) (below n) m in
      let l : 2 ≤ size n (2 ^ i) = subst (λ (A : ℕ). 2 ≤ size n A) e h in
      absurd (omega (arith, size_single n i))

  count_merged : (k : Kind) (f : Similarity) (ms : List (ℕ × ℕ)) → Tree (tree_linkage k) n f ms → suc (length (merged_blocks ms)) ≡ n
  unfolding merged_blocks
  count_merged k f ms t = ap suc (length-map ms (λ (m : ℕ × ℕ). m.0 ∪ m.1)) ∙ tree_length (tree_linkage k) n f ms t

  module _ (two : 2 ≤ n) where
    -- X and, for splits, the first entry alone are blocks but no groups; a clean group is a merged block
    at_tree : (k : Kind) (f : Similarity) → TreeScores k n s f → (ms : List (ℕ × ℕ)) → Tree (tree_linkage k) n f ms
        → (B : ℕ) → (B ∈ singles n) ⊎ (B ∈ merged_blocks ms) → ((i : ℕ) → i < n → B ∋ i) → length (group_sets k n s) ≤ most_groups k n
    unfolding most_groups blocks singles
    at_tree strong g h ms t B m f =
        let r = room strong (B ∷ []) (blocks n ms) (all_absent strong B f, distinct strong) (λ A q. Memᴰ.cast (Memᴰ.eq_of_singleton q) (in_blocks ms m)) (λ A q. group_in_tree strong n s symm A q g h ms t) in
        omega (arith, count_blocks strong g ms t)
    at_tree clean g h ms t B m f =
        let r = room clean (B ∷ []) (merged_blocks ms) (all_absent clean B f, distinct clean)
        (λ A q. Memᴰ.cast (Memᴰ.eq_of_singleton q) (is_merged ms (omega (arith, all_size B f)) m))
        (λ A q. is_merged ms (listed_clean_two n s A ((in_group_sets clean n s A).0 q).1) (Memᴰ.append_cases (singles n) (group_in_tree clean n s symm A q g h ms t))) in
        omega (arith, count_merged clean g ms t)
    at_tree splits g h ms t B m f =
        let r = room splits (B ∷ 2 ^ 0 ∷ []) (blocks n ms) (apart, (first, distinct splits)) among (λ A q. group_in_tree splits n s symm A q g h ms t) in
        omega (arith, count_blocks splits g ms t)
      where
        first : 2 ^ 0 ∈ group_sets splits n s → ⊥
        first q = clash (one_in 0) (listed_split_first n s (2 ^ 0) ((in_group_sets splits n s (2 ^ 0)).0 q).1)

        apart : B ∈ 2 ^ 0 ∷ group_sets splits n s → ⊥
        apart q = go (Memᴰ.cases_cons q)
          where
            go : (B ≡ 2 ^ 0) ⊎ (B ∈ group_sets splits n s) → ⊥
            go (inl e) = omega (arith, one_only 0 (subst (λ (A : ℕ). A ∋ 1) e (f 1 (omega arith))))
            go (inr k) = all_absent splits B f k

        among : (A : ℕ) → A ∈ B ∷ 2 ^ 0 ∷ [] → A ∈ blocks n ms
        among A q = go (Memᴰ.cases_cons q)
          where
            go : (A ≡ B) ⊎ (A ∈ 2 ^ 0 ∷ []) → A ∈ blocks n ms
            go (inl e) = Memᴰ.cast e (in_blocks ms m)
            go (inr k) = Memᴰ.cast (Memᴰ.eq_of_singleton k) (in_blocks ms (inl (in_map (λ i. 2 ^ i) (lt_below n 0 (omega arith)))))

  -- fewer than two entries have no set that is neither empty nor X
  none : n < 2 → (k : Kind) → length (group_sets k n s) ≡ 0
  none few k = ap length (no_element (group_sets k n s) (λ A m. at A ((in_group_sets k n s A).0 m).1))
    where
      at : (A : ℕ) → T (listed k n s A) → ⊥
      at A t =
          let (a, ha, ka) = listed_some k n s A t in
          let (x, hx, kx) = listed_proper k n s A t in
          let e : a ≡ x = omega arith in
          clash ka (subst (λ (i : ℕ). A ∌ i) (sym e) kx)

  bound : (k : Kind) → Dec (n < 2) → length (group_sets k n s) ≤ most_groups k n
  bound k (yes few) = omega (arith, none few k)
  bound k (no many) =
      let (f, h) = tree_scores k n s symm in
      let (ms, t) = tree_exists (tree_linkage k) n f (omega arith) in
      let (B, m, full) = last_block n (link (tree_linkage k) n f) (singles n) ms (partition_singles n) t in
      at_tree (omega arith) k f h ms t B m full

-- at most 2n − 2 strong groups, n − 2 clean ones and 2n − 3 splits
pub groups_bound : (k : Kind) (n : ℕ) (s : Similarity) → Symmetric s → length (groups k n s) ≤ most_groups k n
unfolding groups groups_by group_sets
groups_bound k n s symm = omega (arith, length-map {B = Group} (group_sets k n s) (λ A. record { set = A; index = index k n s A }), bound n s symm k (dec_lt n 2))

-- of any kind at most 2n − 2
pub groups_most : (k : Kind) (n : ℕ) (s : Similarity) → Symmetric s → length (groups k n s) ≤ 2 * n - 2
unfolding most_groups
groups_most strong n s symm = groups_bound strong n s symm
groups_most clean n s symm = omega (arith, groups_bound clean n s symm)
groups_most splits n s symm = omega (arith, groups_bound splits n s symm)
