-- Request 2.2, from the outcomes of the calls and the theorems about fillings.
use mathlib.Core.Path.{◌≡◌, sym, ap, ◌∙◌, subst}
use mathlib.Core.List.{List}
use Prim.Native.Nat.{ℕ}
use lib.Dec.{T, eqb→eq}
use lib.IntN.{ℤ, pos}
use lib.ListN.{length}
use Rattle.lists.specs.Lists.{◌∈◌}
use Rattle.integers.specs.Integers.{eq_z}
use Rattle.pairs.proofs.Pairs.{marked}
use Rattle.clusters.specs.PairList.{row_start, score, score_limit, has_length}
use Rattle.clusters.specs.Fillings.{ScoredMore}
use Rattle.clusters.specs.Groups.{HasLine, sets_of, strong, kind_of, groups}
use Rattle.clusters.specs.declared.Group.{Group}
use Rattle.clusters.proofs.Groups.{group_set, groups_sets}
use Rattle.clusters.proofs.PairList.{score_symm}
use Rattle.clusters.proofs.Unscored.{group_every_filling, scoring_keeps, scoring_one, scored_groups, touched_unlisted}
use Rattle.demands.specs.Demands.{Wrote}
use Rattle.requests.specs.Unscored.{Kept, Request2_2}
use Rattle.demands.proofs.Demands.{wrote, wrote_allowed, wrote_scored}

-- what was written for kind 1 is the strong groups
pub strong_wrote : {n : ℕ} {l : List ℤ} {found : List Group} → Wrote (pos 1) n l found → found ≡ groups strong n (score l)
unfolding kind_of eq_z
strong_wrote w = wrote w

more_scored : {n : ℕ} {l later : List ℤ} {found found' : List Group} → Wrote (pos 1) n l found → Wrote (pos 1) n later found'
    → ScoredMore score_limit n (score l) (score later) → Kept found found'
more_scored {n} {l} {later} w w' more A z m =
    let (y, k, h) = scoring_keeps n (score l) (score later) (score_symm later) more A z (subst (λ (g : List Group). HasLine g A z) (strong_wrote w) m) in
    (y, subst (λ (g : List Group). HasLine g A y) (sym (strong_wrote w')) k, h)

long : (n : ℕ) (l : List ℤ) → T (has_length n l) → length l ≡ row_start n
unfolding has_length
long n l t = eqb→eq (length l) (row_start n) t

pub request_2_2 : Request2_2
request_2_2 = record {
  every_filling = λ {n} {l} w A.
      let f = group_every_filling n (score l) (score_symm l) A in
      let e = ap sets_of (strong_wrote w) ∙ groups_sets strong n (score l) in
      (λ m. f.0 (subst (λ (sets : List ℕ). A ∈ sets) e m), λ g. subst (λ (sets : List ℕ). A ∈ sets) (sym e) (f.1 g));
  scoring = λ w w'. more_scored w w';
  one_more = λ {n} l a b new w w' t ha hb e h. more_scored w w' (scoring_one n l a b new (long n l t) ha hb (marked e) h);
  touched = λ {n} {l} w g m.
      touched_unlisted n (score l) (wrote_allowed w) g.set (group_set strong n (score l) (subst (λ (found : List Group). g ∈ found) (strong_wrote w) m));
  all_scored = λ {n} {l} w scored. strong_wrote w ∙ scored_groups n (score l) scored;
  only_scored = λ d w. wrote_scored d w;
}
