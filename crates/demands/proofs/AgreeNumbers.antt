-- Of kinds, pair lists, slices and anchors: 1, 10 to 13, 15 and 16 beside their sentences.
use mathlib.Core.Path.{◌≡◌, sym, ◌∙◌, subst}
use mathlib.Core.Bool.{Bool, not, ◌||◌}
use mathlib.Core.Logic.{◌⊎◌, inl, inr, ⊎_elim, ◌≢◌, ◌↔◌}
use mathlib.Core.List.{List}
use Prim.Native.Nat.{ℕ, ◌*◌, ◌<◌, ◌≤◌}
use native.Mathlib.Omega.{arith}
use lib.Dec.{T, T_not, not_T}
use lib.IntN.{ℤ, pos}
use lib.Signed.{◌≤ℤ◌, le_z}
use lib.ListN.{length}
use Rattle.lists.specs.Lists.{◌∈◌, below, all}
use Rattle.lists.proofs.Lists.{below_lt, lt_below}
use Rattle.lists.proofs.Tests.{or_T, T_or_left, T_or_right}
use Rattle.integers.specs.Integers.{eq_z}
use Rattle.integers.specs.Range.{Within}
use Rattle.pairs.specs.Pairs.{mark, carried}
use Rattle.clusters.specs.PairList.{row_start, score, one_point, point_limit, score_limit, has_length, in_range, is_allowed_pair, scores_in_range, has_unscored, are_distances}
use Rattle.clusters.specs.Farris.{is_anchored}
use Rattle.clusters.proofs.Farris.{anchored_iff}
use Rattle.clusters.proofs.PairList.{score_row}
use Rattle.clusters.proofs.Scored.{range_within, within_range, allowed_cases, within_allowed, unscored_there}
use Rattle.interface.specs.Refusals.{
  wrong_kind,
  wrong_unscored,
  wrong_distances,
  few_slots,
  wrong_anchor,
  short_slice,
  not_anchored,
  wrong_entries,
}
use Rattle.interface.proofs.Accepted.{mark_allowed}
use Rattle.interface.proofs.Anchored.{judged}
use Rattle.demands.specs.Sentences.{
  NoKind,
  OtherLength,
  BeyondMillion,
  HasMark,
  lower,
  NoDistances,
  FewerThan2n,
  AnchorOrShort,
  DistanceList,
  OfNoDistances,
  NoEntries,
}
use Rattle.demands.proofs.Agree.{Says, says, or_says, and_says, not_says, decided, like, eq_says, le_says, lt_says, eq_z_says, le_z_says, all_says, some_says}

-- 1
pub one_says : (kind : ℤ) → Says (wrong_kind kind) (NoKind kind)
unfolding wrong_kind
one_says kind = like (not_says (or_says (or_says (eq_z_says kind (pos 1)) (eq_z_says kind (pos 2))) (eq_z_says kind (pos 3))))
    (λ f. (λ e. f (inl (inl e)), λ e. f (inl (inr e)), λ e. f (inr e)))
    (λ (a, b, c). ⊎_elim (⊎_elim a b) c)

pub third_kind : {kind : ℤ} → kind ≡ pos 3 → (kind ≢ pos 1) × (kind ≢ pos 2)
third_kind e = (
  λ f. let z : ◌≡◌ {A = ℕ} 3 1 = cc in absurd (omega arith),
  λ f. let z : ◌≡◌ {A = ℕ} 3 2 = cc in absurd (omega arith),
)

-- 10
pub ten_says : (n : ℕ) (l : List ℤ) → Says (not (has_length n l)) (OtherLength n l)
unfolding has_length row_start
ten_says n l = not_says (eq_says (length l) (row_start n))

-- 11
pub eleven_says : (l : List ℤ) → Says (not (scores_in_range l)) (BeyondMillion l)
unfolding scores_in_range score_limit one_point point_limit mark
eleven_says l = like (some_says at l)
    (λ (z, m, f). record { number = z; there = m; no_mark = λ e. f (inl e); out = λ h. f (inr h) })
    (λ b. (b.number, b.there, ⊎_elim b.no_mark b.out))
  where
    at : (z : ℤ) → Says (is_allowed_pair score_limit (carried z)) ((z ≡ mark) ⊎ Within score_limit z)
    at z = record { to = allowed_cases; from = ⊎_elim mark_allowed within_allowed }

-- 16
pub marked_says : (l : List ℤ) → Says (has_unscored l) (HasMark l)
unfolding mark
marked_says l = says (unscored_there l)

pub sixteen_list_says : (kind : ℤ) (l : List ℤ) → Says (wrong_unscored kind l) ((kind ≢ pos 1) × HasMark l)
unfolding wrong_unscored
sixteen_list_says kind l = and_says (not_says (eq_z_says kind (pos 1))) (marked_says l)

-- 12
natural_says : (l : List ℤ) → Says (all (le_z (pos 0)) l) ((z : ℤ) → z ∈ l → pos 0 ≤ℤ z)
natural_says l = all_says (le_z_says (pos 0)) l

own_at : (l : List ℤ) (i : ℕ) → Says (eq_z (score l i i) (pos 0)) (lower l i i ≡ pos 0)
unfolding row_start
own_at l i =
    let e = score_row l i i (omega arith) in
    like (eq_z_says (score l i i) (pos 0)) (λ q. sym e ∙ q) (λ q. e ∙ q)

distances_say : (n : ℕ) (l : List ℤ) → Says (are_distances n l) (((z : ℤ) → z ∈ l → pos 0 ≤ℤ z) × ((i : ℕ) → i ∈ below n → lower l i i ≡ pos 0))
unfolding are_distances
distances_say n l = and_says (natural_says l) (all_says (own_at l) (below n))

pub no_distances_say : (n : ℕ) (l : List ℤ) → Says (not (are_distances n l)) (NoDistances n l)
no_distances_say n l = like (not_says (distances_say n l)) (λ f. fore f (decided (natural_says l))) (λ x (a, b). rear x a b)
  where
    fore : (((z : ℤ) → z ∈ l → pos 0 ≤ℤ z) × ((i : ℕ) → i ∈ below n → lower l i i ≡ pos 0) → ⊥)
        → ((z : ℤ) → z ∈ l → pos 0 ≤ℤ z) ⊎ (((z : ℤ) → z ∈ l → pos 0 ≤ℤ z) → ⊥) → NoDistances n l
    fore f (inl a) =
        let (i, m, g) = (some_says (own_at l) (below n)).to ((not_says (all_says (own_at l) (below n))).from (λ b. f (a, b))) in
        inr (i, below_lt n m, g)
    fore f (inr g) = inl ((some_says (le_z_says (pos 0)) l).to ((not_says (natural_says l)).from g))

    rear : NoDistances n l → ((z : ℤ) → z ∈ l → pos 0 ≤ℤ z) → ((i : ℕ) → i ∈ below n → lower l i i ≡ pos 0) → ⊥
    rear (inl (z, m, f)) a b = f (a z m)
    rear (inr (i, h, f)) a b = f (b i (lt_below n i h))

pub twelve_list_says : (kind : ℤ) (n : ℕ) (l : List ℤ) → Says (wrong_distances kind n l) ((kind ≡ pos 3) × NoDistances n l)
unfolding wrong_distances
twelve_list_says kind n l = and_says (eq_z_says kind (pos 3)) (no_distances_say n l)

pub twelve_always_says : (n : ℕ) (l : List ℤ) → Says (wrong_distances (pos 3) n l) (NoDistances n l)
twelve_always_says n l = subst (λ b. Says b (NoDistances n l)) (sym (judged n l)) (no_distances_say n l)

-- 13
pub thirteen_says : (n sets indices : ℕ) → Says (few_slots n sets indices) (FewerThan2n n sets indices)
unfolding few_slots
thirteen_says n sets indices = or_says (lt_says sets (2 * n)) (lt_says indices (2 * n))

-- 15
pub short_says : (slots result : ℕ) → Says (short_slice slots result) (slots < result)
unfolding short_slice
short_says slots result = lt_says slots result

pub anchor_says : (n x slots : ℕ) → Says (wrong_anchor n x || short_slice slots (row_start n)) (AnchorOrShort n x slots)
unfolding wrong_anchor row_start
anchor_says n x slots = or_says (le_says n x) (short_says slots (row_start n))

pub entries_say : (n i j : ℕ) → Says (wrong_entries n i j) (NoEntries n i j)
unfolding wrong_entries wrong_anchor
entries_say n i j = or_says (le_says n i) (le_says n j)

pub in_range_says : (l : List ℤ) → Says (in_range l) ((z : ℤ) → z ∈ l → Within (2 * 1000000) z)
unfolding in_range score_limit one_point point_limit
in_range_says l = all_says (λ z. record { to = range_within; from = within_range }) l

distances_list : (n : ℕ) (d : List ℤ) → DistanceList n d ↔ ((length d ≡ row_start n) × T (in_range d) × T (are_distances n d))
unfolding row_start
distances_list n d = (
  λ x. (x.long, (in_range_says d).from x.range, (distances_say n d).from (x.distances.natural, λ i m. x.distances.own i (below_lt n m))),
  λ (long, range, distances).
      let (a, b) = (distances_say n d).to distances in
      record { long = long; range = (in_range_says d).to range; distances = record { natural = a; own = λ i h. b i (lt_below n i h) } },
)

-- of a list of the right length
pub back_says : (n x : ℕ) (l : List ℤ) (slots : ℕ) → length l ≡ row_start n
    → Says (wrong_anchor n x || short_slice slots (row_start n) || not_anchored n x l) (AnchorOrShort n x slots ⊎ OfNoDistances n x l)
unfolding not_anchored
back_says n x l slots long = record { to = λ t. fore (or_T front (not_anchored n x l) t) (decided (anchor_says n x slots)); from = λ y. rear y (decided (anchor_says n x slots)) }
  where
    front : Bool
    front = wrong_anchor n x || short_slice slots (row_start n)

    fore : T front ⊎ T (not (is_anchored n x l)) → AnchorOrShort n x slots ⊎ (AnchorOrShort n x slots → ⊥) → AnchorOrShort n x slots ⊎ OfNoDistances n x l
    fore _ (inl y) = inl y
    fore (inl t) (inr f) = inl ((anchor_says n x slots).to t)
    fore (inr t) (inr f) = inr (λ d p e.
        let (size, range, distances) = (distances_list n d).0 p in
        T_not (is_anchored n x l) t ((anchored_iff n x l (below_anchor f) long).1 (d, size, range, distances, sym e)))
      where
        below_anchor : (AnchorOrShort n x slots → ⊥) → x < n
        below_anchor f = let g : n ≤ x → ⊥ = λ h. f (inl h) in omega arith

    rear : AnchorOrShort n x slots ⊎ OfNoDistances n x l → AnchorOrShort n x slots ⊎ (AnchorOrShort n x slots → ⊥) → T (front || not (is_anchored n x l))
    rear _ (inl y) = T_or_left front (not (is_anchored n x l)) ((anchor_says n x slots).from y)
    rear (inl y) (inr f) = absurd (f y)
    rear (inr g) (inr f) = T_or_right front (not (is_anchored n x l)) (not_T (is_anchored n x l) (λ t.
        let under : n ≤ x → ⊥ = λ h. f (inl h) in
        let (d, size, range, distances, e) = (anchored_iff n x l (omega arith) long).0 t in
        g d ((distances_list n d).1 (size, range, distances)) (sym e)))
