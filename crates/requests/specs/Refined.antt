-- Request 2.5, refined weight of a split, said of what the call answers.
use Rattle.std.specs.Prelude.{◌≡◌, ◌⊎◌, ◌≢◌, List, [], ◌∷◌, ◌++◌, ℕ, ◌+◌, ◌-◌, ◌^◌, ◌<◌, ◌≤◌, ℤ, pos, ◌+ℤ◌, ◌*ℤ◌, ◌≤ℤ◌}
use Rattle.integers.specs.Integers.{sum_of}
use Rattle.sets.specs.Sets.{◌∋◌, ◌∌◌, size, complement}
use Rattle.clusters.specs.PairList.{Similarity, score}
use Rattle.clusters.specs.Groups.{splits, HasLine, written_set}
use Rattle.clusters.specs.declared.Group.{Group}
use Rattle.clusters.specs.Reordering.{Permutation, Reordered, image}
use Rattle.clusters.specs.Refined.{Quartet, doubled_score, Across, Chosen, Compatible}
use Rattle.answers.specs.Answers.{number_of}
use Rattle.answers.specs.Refined.{Refined, answered_weight}
use Rattle.interface.specs.Calls.{RefinedCall, RefinedInC}
use Rattle.demands.specs.Sentences.{Distances}
use Rattle.demands.specs.Tables.{Table, Judged, distance_table}
use Rattle.demands.specs.Taken.{FitsList}
use Rattle.demands.specs.Least.{SamePair}
use Rattle.demands.specs.Demands.{Wrote}

-- "a, a' different on one side and b, b' different on the other"
pub record OnSides (n A a a' b b' : ℕ) : Type 0 where
  pub one_side : (a < n) × (a' < n) × (A ∋ a) × (A ∋ a') × (a ≢ a')
  pub other_side : (b < n) × (b' < n) × (A ∌ b) × (A ∌ b') × (b ≢ b')

-- 19: "a side with fewer than two, or a member numbered n or more": not that both sides have two entries and no member
-- is numbered n or more
pub record TwoSides (n A : ℕ) : Type 0 where
  pub members : (i : ℕ) → A ∋ i → i < n
  pub a : ℕ
  pub a' : ℕ
  pub b : ℕ
  pub b' : ℕ
  pub entries : OnSides n A a a' b b'

-- "after 6, 10, 11, 16 and 12, judged as kind 3, a side with fewer than two, or a member numbered n or more, gives 19"
abbrev pub refined_table : (n : ℕ) → List ℤ → (side : ℕ) → Table
refined_table n l A = distance_table n l ++ ((19, TwoSides n A → ⊥) ∷ [])

-- a quartet of which only the order of its pairs is not told
pub record Unordered (n A : ℕ) (q : Quartet) (a a' b b' : ℕ) : Type 0 where
  pub across : Across n A q
  pub one_pair : SamePair q.a q.a' a a'
  pub other_pair : SamePair q.b q.b' b b'

-- the weight that a call answers for one side, if it did not refuse
pub data Weighs (n : ℕ) (l : List ℤ) (A : ℕ) : (weight : ℤ) → Type 0 where
  by_refined_call : {r : Refined} → RefinedCall n l A r → number_of r ≡ 0 → Weighs n l A (answered_weight r)

pub record Request2_5 : Type 0 where
  -- each number is given if and only if its line holds and none before it does; "Refused, the weight is 0."
  pub judged : {n : ℕ} {l : List ℤ} {A : ℕ} {r : Refined} → RefinedCall n l A r
      → Judged (refined_table n l A) (number_of r) (answered_weight r ≡ pos 0)
  -- in C, where a weight may be negative, the number itself is answered, 0 for none
  pub in_C : {n : ℕ} {l : List ℤ} {A : ℕ} {r w : ℤ} → RefinedInC n l A r w
      → (a : Refined) × RefinedCall n l A a × (r ≡ pos (number_of a)) × (w ≡ answered_weight a)
  -- whatever fits is taken
  pub fits : {n : ℕ} {l : List ℤ} → FitsList n l → Distances n l → {A : ℕ} {r : Refined} → RefinedCall n l A r
      → (TwoSides n A → number_of r ≡ 0) × ((TwoSides n A → ⊥) → number_of r ≡ 19)
  -- "all quartets aa'|bb' with a, a' different on one side and b, b' different on the other, pairs unordered": each
  -- is one, and there is no other
  pub unordered : (n A a a' b b' : ℕ) → OnSides n A a a' b b'
      → (q : Quartet) × Unordered n A q a a' b b' × ((r : Quartet) → Unordered n A r a a' b b' → r ≡ q)
  pub of_sides : (n A : ℕ) (q : Quartet) → Across n A q → OnSides n A q.a q.a' q.b q.b'
  -- "A quartet's doubled score is the smaller of d(a,b) + d(a',b') and d(a,b') + d(a',b), less the sum d(a,a') +
  -- d(b,b')": together with that sum it is above neither of the two, and is one of them
  pub doubled : (d : Similarity) (q : Quartet) → let s = doubled_score d q +ℤ (d q.a q.a' +ℤ d q.b q.b') in
      (s ≤ℤ (d q.a q.b +ℤ d q.a' q.b')) × (s ≤ℤ (d q.a q.b' +ℤ d q.a' q.b))
      × ((s ≡ d q.a q.b +ℤ d q.a' q.b') ⊎ (s ≡ d q.a q.b' +ℤ d q.a' q.b))
  -- "The weight is the sum of the n − 3 smallest": no n − 3 different quartets have a smaller sum, and some have this
  pub smallest : {n : ℕ} {l : List ℤ} {A : ℕ} {w : ℤ} → Weighs n l A w
      → (qs : List Quartet) → Chosen n A qs → w ≤ℤ sum_of qs (doubled_score (score l))
  pub attained : {n : ℕ} {l : List ℤ} {A : ℕ} {w : ℤ} → Weighs n l A w
      → (qs : List Quartet) × Chosen n A qs × (w ≡ sum_of qs (doubled_score (score l)))
  -- either side may be handed in
  pub either_side : {n : ℕ} {l : List ℤ} {A : ℕ} {r r' : Refined} → A < 2 ^ n
      → RefinedCall n l A r → RefinedCall n l (complement n A) r' → r' ≡ r
  -- a reordering keeps the weight
  pub reordered : {n : ℕ} {l l' : List ℤ} {A : ℕ} {w w' : ℤ} (p : Permutation n)
      → Weighs n l A w → Weighs n l' (image n p A) w' → Reordered n p (score l) (score l') → w' ≡ w
  -- "Two splits of positive weight never cross: some side of one lies within a side of the other." So each side of one
  -- has no entry in common with some side of the other.
  pub never_cross : {n : ℕ} {l : List ℤ} {A C : ℕ} {w w' : ℤ} → Weighs n l A w → Weighs n l C w'
      → pos 1 ≤ℤ w → pos 1 ≤ℤ w' → Compatible n A C
  pub not_all_four : {n : ℕ} {l : List ℤ} {A C : ℕ} {w w' : ℤ} → Weighs n l A w → Weighs n l C w'
      → pos 1 ≤ℤ w → pos 1 ≤ℤ w' → (i j k m : ℕ) → i < n → j < n → k < n → m < n
      → (A ∋ i) × (C ∋ i) → (A ∋ j) × (C ∌ j) → (A ∌ k) × (C ∋ k) → (A ∌ m) × (C ∌ m) → ⊥
  -- what a call took for kind 3 has a weight for each split with two entries or more on each side
  pub taken : {n : ℕ} {l : List ℤ} {A : ℕ} {r : Refined} → RefinedCall n l A r
      → {found : List Group} → Wrote (pos 3) n l found → A < 2 ^ n → 2 ≤ size n A → size n A + 2 ≤ n
      → number_of r ≡ 0
  -- "And a kind 3 line with two or more on each side has positive weight": n − 3 times its index or more
  pub of_line : {n : ℕ} {l : List ℤ} {A : ℕ} {w : ℤ} → Weighs n l A w
      → {found : List Group} → Wrote (pos 3) n l found → 2 ≤ size n A → size n A + 2 ≤ n
      → (z : ℤ) → HasLine found (written_set splits n A) z → ((pos (n - 3) *ℤ z) ≤ℤ w) × (pos 1 ≤ℤ w)
