-- What holds of the strong groups of scores with unscored pairs, for any number of entries (document 02, 2.2).
use mathlib.Core.Path.{◌≡◌, refl, sym, ap, ◌∙◌, subst, subst₂}
use mathlib.Core.Bool.{◌&&◌}
use mathlib.Core.Logic.{◌↔◌}
use mathlib.Core.List.{List}
use Prim.Native.Nat.{ℕ, ◌^◌, ◌<◌}
use lib.IntN.{ℤ, pos}
use lib.Signed.{◌≤ℤ◌, le_z, le_z_yes}
use native.Mathlib.Decide.{ℕ_discrete}
use native.Mathlib.Omega.{arith}
use lib.Dec.{T}
use lib.ListN.{length, get_or, set}
use lib.Seq.{get_or-set_same, get_or-set_other}
use Rattle.lists.specs.Lists.{◌∈◌}
use Rattle.lists.proofs.Tests.{and_T, T_and}
use Rattle.lists.proofs.Lists.{in_map, of_map}
use Rattle.integers.specs.Range.{Within}
use Rattle.integers.proofs.Linear.{zarith}
use Rattle.sets.specs.Sets.{◌∋◌}
use Rattle.pairs.specs.declared.Carried.{Carried}
use Rattle.pairs.specs.declared.Carried.TheVariants.{Scored, Unscored}
use Rattle.pairs.specs.Pairs.{carried, is_scored}
use Rattle.clusters.specs.PairList.{Similarity, Symmetric, row_start, place, score, score_limit, is_allowed_pair}
use Rattle.clusters.specs.Indices.{strong_index}
use Rattle.clusters.specs.Fillings.{Fills, AllScored, Scoring, ScoredMore, filled_index}
use Rattle.clusters.specs.Touched.{untouched}
use Rattle.clusters.specs.Linkage.{single, link, Tree, blocks}
use Rattle.clusters.specs.Groups.{
  Kind,
  HasLine,
  sets_of,
  strong,
  clean,
  splits,
  index,
  speaks_of,
  positive,
  listed,
  group_sets,
  groups,
  plain_groups,
  tree_linkage,
  lent_scores,
}
use Rattle.clusters.specs.declared.Group.{Group}
use Rattle.clusters.proofs.Groups.{
  of_listed,
  is_listed,
  listed_index,
  listed_some,
  listed_proper,
  in_group_sets,
  in_groups_by,
  groups_by_same,
  line_of,
}
use Rattle.clusters.proofs.PairList.{place_lt}
use Rattle.clusters.proofs.Scored.{AllAllowed, within_allowed}
use Rattle.clusters.proofs.Fillings.{lowest, lowest_fills, filled_positive, scoring_raises}
use Rattle.clusters.proofs.Untouched.{of_untouched, untouched_index, scored_index, positive_untouched}
use Rattle.clusters.proofs.Trees.{repels_in_tree}
use Rattle.clusters.proofs.Links.{link_symm}
use Rattle.clusters.proofs.Single.{strong_repels}
use Rattle.clusters.proofs.Theorems.{group_in_tree}

pub in_plain_groups : (n : ℕ) (s : Similarity) (A : ℕ) → (A ∈ sets_of (plain_groups n s)) ↔ ((A < 2 ^ n) × T (speaks_of strong n A) × (pos 1 ≤ℤ strong_index n s A))
unfolding plain_groups positive
in_plain_groups n s A = (
  λ m.
      let (g, k, e) = of_map (λ (g : Group). g.set) (plain_groups n s) m in
      let (h, t, _) = (in_groups_by (positive strong n (strong_index n s)) (strong_index n s) n g).0 k in
      let (p, i) = and_T (speaks_of strong n g.set) (le_z (pos 1) (strong_index n s g.set)) t in
      subst (λ (A : ℕ). (A < 2 ^ n) × T (speaks_of strong n A) × (pos 1 ≤ℤ strong_index n s A)) (sym e) (h, p, le_z_yes i),
  λ (h, p, i). in_map (λ (g : Group). g.set) ((in_groups_by (positive strong n (strong_index n s)) (strong_index n s) n (record { set = A; index = strong_index n s A })).1
      (h, T_and (speaks_of strong n A) (le_z (pos 1) (strong_index n s A)) p i.le, refl)),
)

-- "a set is listed exactly if every filling would list it"
pub group_every_filling : (n : ℕ) (s : Similarity) → Symmetric s → (A : ℕ)
    → (A ∈ group_sets strong n s) ↔ ((f : Similarity) → Fills score_limit n s f → A ∈ sets_of (plain_groups n f))
unfolding index
group_every_filling n s symm A = (
  λ m f fills.
      let (h, t) = (in_group_sets strong n s A).0 m in
      (in_plain_groups n f A).1 (h, (of_listed strong n s A t).0, (filled_positive score_limit n s symm A).0 (listed_index strong n s A t) f fills),
  λ g.
      let (h, p, _) = (in_plain_groups n (lowest score_limit s) A).0 (g (lowest score_limit s) (lowest_fills score_limit n s symm)) in
      (in_group_sets strong n s A).1
      (h, is_listed strong n s A p ((filled_positive score_limit n s symm A).1 (λ f fills. ((in_plain_groups n f A).0 (g f fills)).2))),
)

-- "Scoring one more pair never removes a listed group", nor does scoring several; and its index does not fall
pub scoring_keeps : (n : ℕ) (s later : Similarity) → Symmetric later → ScoredMore score_limit n s later → (A : ℕ) (z : ℤ)
    → HasLine (groups strong n s) A z → (y : ℤ) × HasLine (groups strong n later) A y × (z ≤ℤ y)
unfolding index
scoring_keeps n s later symm more A z m =
    let (h, t, e) = (line_of strong n s A z).0 m in
    let i = listed_index strong n s A t in
    let k = scoring_raises score_limit n s later symm more A in
    let y = index strong n later A in (
      y,
      (line_of strong n later A y).1 (h, is_listed strong n later A (of_listed strong n s A t).0 (omega zarith), refl),
      omega zarith,
    )

-- one more pair of a list: its slot gets a score
scoring_same : (limit : ℕ) (p : Carried) → Scoring limit p p
unfolding is_allowed_pair
scoring_same limit (Scored z) = refl
scoring_same limit Unscored = tt

pub scoring_one : (n : ℕ) (l : List ℤ) (a b : ℕ) (z : ℤ) → length l ≡ row_start n → a < n → b < n → carried (score l a b) ≡ Unscored → Within score_limit z
    → ScoredMore score_limit n (score l) (score (set l (place a b) z))
unfolding score
scoring_one n l a b z long ha hb e h = record { pairs = λ i j _ _. at (place i j) (ℕ_discrete (place i j) (place a b)) }
  where
    here : ℤ
    here = get_or (set l (place a b) z) (place a b) (pos 0)

    stored : z ≡ here
    stored = sym (get_or-set_same l (place a b) z (pos 0) (omega (arith, place_lt n a b ha hb)))

    at : (k : ℕ) → Dec (k ≡ place a b) → Scoring score_limit (carried (get_or l k (pos 0))) (carried (get_or (set l (place a b) z) k (pos 0)))
    at k (yes q) = subst₂ (Scoring score_limit) (sym (ap (λ (k : ℕ). carried (get_or l k (pos 0))) q ∙ e))
        (sym (ap (λ (k : ℕ). carried (get_or (set l (place a b) z) k (pos 0))) q)) (subst (λ y. T (is_allowed_pair score_limit (carried y))) stored (within_allowed h))
    at k (no d) = subst (λ y. Scoring score_limit (carried (get_or l k (pos 0))) (carried y)) (sym (get_or-set_other l (place a b) k z (pos 0) d))
        (scoring_same score_limit (carried (get_or l k (pos 0))))

-- with every pair scored the groups are those of document 01
pub scored_groups : (n : ℕ) (s : Similarity) → AllScored n s → groups strong n s ≡ plain_groups n s
unfolding groups listed plain_groups positive index
scored_groups n s scored = groups_by_same _ _ _ _ n (λ A. ap (λ z. speaks_of strong n A && le_z (pos 1) z) (same A)) (λ A _. same A)
  where
    same : (A : ℕ) → filled_index score_limit n s A ≡ strong_index n s A
    same = scored_index score_limit n s scored

-- of scores that are all allowed
module _ (n : ℕ) (s : Similarity) (allowed : AllAllowed score_limit n s) (A : ℕ) where
  pub listed_untouched : T (listed strong n s A) → T (untouched n s A)
  unfolding index
  listed_untouched t = positive_untouched score_limit n s A allowed (listed_proper strong n s A t) (listed_index strong n s A t)

  -- a set that an unscored pair touches, of a member a and any entry y, is never listed
  pub touched_unlisted : A ∈ group_sets strong n s → (a y : ℕ) → a < n → y < n → A ∋ a → T (is_scored (carried (s a y)))
  touched_unlisted m a y ha hy ka = of_untouched n s A (listed_untouched ((in_group_sets strong n s A).0 m).1) a y ha hy ka

  -- so a group is strong in the numbers as lent, whatever number the mark is
  lent_strong : T (listed strong n s A) → pos 1 ≤ℤ strong_index n s A
  unfolding index
  lent_strong t = subst (λ z. pos 1 ≤ℤ z) (untouched_index score_limit n s A (listed_untouched t)) (listed_index strong n s A t)

  -- and a block of every tree of these
  pub group_in_lent_tree : Symmetric s → (k : Kind) → A ∈ group_sets k n s
      → (ms : List (ℕ × ℕ)) → Tree (tree_linkage k) n (lent_scores k s) ms → A ∈ blocks n ms
  unfolding tree_linkage lent_scores
  group_in_lent_tree symm strong m =
      let (low, t) = (in_group_sets strong n s A).0 m in
      repels_in_tree (link single n s) (link_symm n s symm single) n A
      (strong_repels n s A low (listed_some strong n s A t) (listed_proper strong n s A t) (lent_strong t))
  group_in_lent_tree symm clean m = group_in_tree clean n s symm A m s refl
  group_in_lent_tree symm splits m = group_in_tree splits n s symm A m (lent_scores splits s) refl
