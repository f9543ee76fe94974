-- Request 2.2, pairs that were never compared, said of what the calls write. That the mark is "exempt from 11", and
-- that "Kinds 2 and 3, the linkage calls and the anchored scores get 16 .., placed right after 11", is in the tables of
-- these calls (demands/specs/Tables); that "the tree claim holds in every filling" is in demand 3.
use Rattle.std.specs.Prelude.{◌≡◌, ◌≢◌, ◌↔◌, List, ℕ, ◌<◌, ℤ, pos, ◌≤ℤ◌, T, set}
use Rattle.lists.specs.Lists.{◌∈◌}
use Rattle.integers.specs.Range.{Within}
use Rattle.sets.specs.Sets.{◌∋◌}
use Rattle.pairs.specs.Pairs.{mark, carried, is_scored}
use Rattle.clusters.specs.PairList.{Similarity, place, score, score_limit, has_length}
use Rattle.clusters.specs.Fillings.{Fills, AllScored, ScoredMore}
use Rattle.clusters.specs.Groups.{sets_of, HasLine, plain_groups}
use Rattle.clusters.specs.declared.Group.{Group}
use Rattle.demands.specs.Demands.{Wrote}

-- no group of the first is lost in the second, nor does its index fall
abbrev pub Kept : (found found' : List Group) → Type 0
Kept found found' = (A : ℕ) (z : ℤ) → HasLine found A z → (y : ℤ) × HasLine found' A y × (z ≤ℤ y)

pub record Request2_2 : Type 0 where
  -- "a set is listed exactly if every filling would list it"
  pub every_filling : {n : ℕ} {l : List ℤ} {found : List Group} → Wrote (pos 1) n l found → (A : ℕ)
      → (A ∈ sets_of found) ↔ ((f : Similarity) → Fills score_limit n (score l) f → A ∈ sets_of (plain_groups n f))
  -- "Scoring one more pair never removes a listed group", nor does scoring several. One more pair of a list is a score
  -- in the slot where the mark was.
  pub scoring : {n : ℕ} {l later : List ℤ} {found found' : List Group} → Wrote (pos 1) n l found
      → Wrote (pos 1) n later found' → ScoredMore score_limit n (score l) (score later) → Kept found found'
  pub one_more : {n : ℕ} (l : List ℤ) (a b : ℕ) (new : ℤ) {found found' : List Group}
      → Wrote (pos 1) n l found → Wrote (pos 1) n (set l (place a b) new) found'
      → T (has_length n l) → a < n → b < n → score l a b ≡ mark → Within score_limit new → Kept found found'
  -- no set that an unscored pair touches is listed
  pub touched : {n : ℕ} {l : List ℤ} {found : List Group} → Wrote (pos 1) n l found → (g : Group) → g ∈ found
      → (a b : ℕ) → a < n → b < n → g.set ∋ a → T (is_scored (carried (score l a b)))
  -- with every pair scored all is as document 01 has it
  pub all_scored : {n : ℕ} {l : List ℤ} {found : List Group} → Wrote (pos 1) n l found → AllScored n (score l)
      → found ≡ plain_groups n (score l)
  -- what a call wrote for another kind is of scores only
  pub only_scored : {kind : ℤ} → kind ≢ pos 1 → {n : ℕ} {l : List ℤ} {found : List Group} → Wrote kind n l found
      → AllScored n (score l)
