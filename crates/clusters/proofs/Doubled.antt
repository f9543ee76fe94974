-- "A sheet of whole points gives the listing it gave before" (document 02, 2.6): with all scores doubled every index is twice what it was,
-- and the same sets are listed.
use mathlib.Core.Path.{◌≡◌, refl, sym, ap, ap₂, ◌∙◌, subst}
use mathlib.Core.Bool.{Bool, true, false, not, xor, cond, ◌&&◌}
use mathlib.Core.Logic.{inl, inr, ◌≢◌}
use mathlib.Core.List.Memᴰ
use mathlib.Core.List.{List, [], ◌∷◌, map, map-map, map-append, ◌++◌}
use Prim.Native.Nat.{ℕ, ◌-◌, ◌*◌, ◌<◌, max, min}
use native.Mathlib.Omega.{arith}
use lib.IntN.{ℤ, pos, neg_ℤ, ◌+ℤ◌, ◌-ℤ◌}
use lib.Signed.{◌≤ℤ◌, le_z, le_z_yes}
use lib.Dec.{T}
use lib.ListN.{take}
use Rattle.lists.specs.Lists.{◌∈◌, below, each, all}
use Rattle.lists.proofs.Tests.{and_T, T_same}
use Rattle.lists.proofs.Lists.{below_lt, map_cong, all_in, in_all, all_cong, map_take}
use Rattle.integers.specs.Integers.{min_z, max_z, eq_z, least, sum_of, sum, insert, sort, sum_of_smallest}
use Rattle.integers.proofs.Linear.{up, dn, zarith, +at, neg_up, neg_dn, four, four_sub, eq_z_yes, yes_eq_z}
use Rattle.sets.specs.Sets.{has, members, others, size}
use Rattle.sets.proofs.Sets.{of_members, of_others, size_less}
use Rattle.pairs.specs.declared.Carried.{Carried}
use Rattle.pairs.specs.declared.Carried.TheVariants.{Scored, Unscored}
use Rattle.pairs.specs.Pairs.{mark, number_for, carried, is_scored}
use Rattle.pairs.proofs.Pairs.{Cases, carried_cases, number_carried, scored_is}
use Rattle.clusters.specs.PairList.{
  Similarity,
  place,
  score,
  pair_list,
  score_limit,
  is_in_range,
  is_allowed_pair,
  has_unscored,
  are_distances,
}
use Rattle.clusters.specs.Indices.{strong_values, strong_index, weight, pairs_of, weights, clean_index, separation_values, separation_index}
use Rattle.clusters.specs.Fillings.{AllScored, low, high, worst, filled_index}
use Rattle.clusters.specs.Groups.{
  Kind,
  strong,
  clean,
  splits,
  index,
  speaks_of,
  positive,
  listed,
  sets_by,
  groups_by,
  groups,
}
use Rattle.clusters.specs.declared.Group.{Group}
use Rattle.clusters.specs.Refined.{Quartet, quartets, doubled_score, refined_weight}
use Rattle.clusters.specs.Doubled.{twice, doubled_pair, Doubles, doubled_group}
use Rattle.clusters.proofs.PairList.{in_pair_list, of_pair_list, pair_list_at}
use Rattle.clusters.proofs.Pairs.{of_pairs}
use Rattle.clusters.proofs.Quartets.{in_quartets}
use Rattle.clusters.proofs.Groups.{speaks_size, groups_by_same}
use Rattle.clusters.proofs.Scored.{AllAllowed}
use Rattle.clusters.proofs.Untouched.{untouched_index, positive_untouched}

-- twice a sum, a difference, the order, the smaller and the larger
twice_sum : (a b : ℤ) → twice (a +ℤ b) ≡ twice a +ℤ twice b
unfolding twice
twice_sum a b = four a b a b

twice_difference : (a b : ℤ) → twice (a -ℤ b) ≡ twice a -ℤ twice b
unfolding twice
twice_difference a b = four_sub a b a b

twice_le : (a b : ℤ) → le_z (twice a) (twice b) ≡ le_z a b
unfolding twice
twice_le a b = T_same (le_z (a +ℤ a) (b +ℤ b)) (le_z a b)
    (λ t. let h : (a +ℤ a) ≤ℤ (b +ℤ b) = le_z_yes t in let r : a ≤ℤ b = omega (zarith, +at a a, +at b b) in r.le)
    (λ t. let h : a ≤ℤ b = le_z_yes t in let r : (a +ℤ a) ≤ℤ (b +ℤ b) = omega (zarith, +at a a, +at b b) in r.le)

-- twice a number is 1 or more exactly if the number is
twice_positive : (z : ℤ) → le_z (pos 1) (twice z) ≡ le_z (pos 1) z
unfolding twice up dn
twice_positive z = T_same (le_z (pos 1) (z +ℤ z)) (le_z (pos 1) z)
    (λ t. let h : pos 1 ≤ℤ (z +ℤ z) = le_z_yes t in let r : pos 1 ≤ℤ z = omega (zarith, +at z z) in r.le)
    (λ t. let h : pos 1 ≤ℤ z = le_z_yes t in let r : pos 1 ≤ℤ (z +ℤ z) = omega (zarith, +at z z) in r.le)

pub twice_same : {a b : ℤ} → twice a ≡ twice b → a ≡ b
unfolding twice
twice_same {a} {b} e = omega (zarith, +at a a, +at b b)

pub twice_pos : (k : ℕ) → pos (2 * k) ≡ twice (pos k)
unfolding twice up dn
twice_pos k = omega (zarith, +at (pos k) (pos k))

pub twice_neg : (k : ℕ) → neg_ℤ (pos (2 * k)) ≡ twice (neg_ℤ (pos k))
unfolding twice up dn
twice_neg k = omega (
  zarith,
  neg_up (pos (2 * k)),
  neg_dn (pos (2 * k)),
  neg_up (pos k),
  neg_dn (pos k),
  +at (neg_ℤ (pos k)) (neg_ℤ (pos k)),
)

cond_map : (f : ℤ → ℤ) (c : Bool) (x y : ℤ) → cond c (f x) (f y) ≡ f (cond c x y)
cond_map f true x y = refl
cond_map f false x y = refl

twice_max : (a b : ℤ) → max_z (twice a) (twice b) ≡ twice (max_z a b)
unfolding max_z
twice_max a b = ap (λ c. cond c (twice b) (twice a)) (twice_le a b) ∙ cond_map twice (le_z a b) b a

twice_min : (a b : ℤ) → min_z (twice a) (twice b) ≡ twice (min_z a b)
unfolding min_z
twice_min a b = ap (λ c. cond c (twice a) (twice b)) (twice_le a b) ∙ cond_map twice (le_z a b) a b

-- the least, the sum and the numbers in rising order of doubled numbers
least_twice : (l : List ℤ) → least (map twice l) ≡ twice (least l)
unfolding least twice
least_twice [] = refl
least_twice (x ∷ []) = refl
least_twice (x ∷ y ∷ l) = ap (min_z (twice x)) (least_twice (y ∷ l)) ∙ twice_min x (least (y ∷ l))

sum_twice : (l : List ℤ) → sum (map twice l) ≡ twice (sum l)
unfolding sum sum_of twice
sum_twice [] = refl
sum_twice (x ∷ l) = ap (λ z. twice x +ℤ z) (sum_twice l) ∙ sym (twice_sum x (sum l))

insert_twice : (x : ℤ) (l : List ℤ) → insert (twice x) (map twice l) ≡ map twice (insert x l)
unfolding insert
insert_twice x [] = refl
insert_twice x (y ∷ l) =
    ap (λ c. cond c (twice x ∷ twice y ∷ map twice l) (twice y ∷ insert (twice x) (map twice l))) (twice_le x y) ∙ go (le_z x y) (insert_twice x l)
  where
    go : (c : Bool) → insert (twice x) (map twice l) ≡ map twice (insert x l)
        → cond c (twice x ∷ twice y ∷ map twice l) (twice y ∷ insert (twice x) (map twice l)) ≡ map twice (cond c (x ∷ y ∷ l) (y ∷ insert x l))
    go true e = refl
    go false e = ap (λ r. twice y ∷ r) e

sort_twice : (l : List ℤ) → sort (map twice l) ≡ map twice (sort l)
unfolding sort
sort_twice [] = refl
sort_twice (x ∷ l) = ap (insert (twice x)) (sort_twice l) ∙ insert_twice x (sort l)

smallest_twice : (k : ℕ) (l : List ℤ) → sum_of_smallest k (map twice l) ≡ twice (sum_of_smallest k l)
unfolding sum_of_smallest
smallest_twice k l = ap (λ m. sum (take k m)) (sort_twice l) ∙ ap sum (sym (map_take twice k (sort l))) ∙ sum_twice (take k (sort l))

-- lists by enumeration whose numbers are doubled one by one
row_twice : {X : Type 0} (l : List X) (f g : X → ℤ) → ((x : X) → x ∈ l → f x ≡ twice (g x)) → map f l ≡ map twice (map g l)
row_twice l f g h = map_cong f (λ x. twice (g x)) l h ∙ sym (map-map twice g l)

rows_twice : {X : Type 0} (l : List X) (f g : X → List ℤ) → ((x : X) → x ∈ l → f x ≡ map twice (g x)) → each l f ≡ map twice (each l g)
unfolding each
rows_twice [] f g h = refl
rows_twice (x ∷ l) f g h =
    ap₂ ◌++◌ (h x (Memᴰ.head refl)) (rows_twice l f g (λ y m. h y (Memᴰ.tail m))) ∙ sym (map-append twice (g x) (each l g))

-- the pairs: what the checks say of one stays as it was
pub allowed_doubled : (limit : ℕ) (c : Carried) → is_allowed_pair (2 * limit) (doubled_pair c) ≡ is_allowed_pair limit c
unfolding is_allowed_pair is_in_range doubled_pair
allowed_doubled limit (Scored z) = ap₂ ◌&&◌
    (ap (λ y. le_z y (twice z)) (twice_neg limit) ∙ twice_le (neg_ℤ (pos limit)) z)
    (ap (le_z (twice z)) (twice_pos limit) ∙ twice_le z (pos limit))
allowed_doubled limit Unscored = refl

pub scored_doubled : (c : Carried) → is_scored (doubled_pair c) ≡ is_scored c
unfolding is_scored doubled_pair
scored_doubled (Scored z) = refl
scored_doubled Unscored = refl

doubled_same : (c c' : Carried) → doubled_pair c ≡ doubled_pair c' → c ≡ c'
unfolding doubled_pair is_scored number_for
doubled_same (Scored z) (Scored z') e = ap Scored (twice_same (ap number_for e))
doubled_same (Scored z) Unscored e = absurd (subst (λ p. T (is_scored p)) e tt)
doubled_same Unscored (Scored z') e = absurd (subst (λ p. T (is_scored p)) (sym e) tt)
doubled_same Unscored Unscored e = refl

-- the numbers y and z of two pairs, of which the second is the first doubled: z is twice y, or both are the mark
pair_same : (y z : ℤ) → carried y ≡ carried z → y ≡ z
pair_same y z e = sym (number_carried y) ∙ ap number_for e ∙ number_carried z

pub number_doubled : (y z : ℤ) → carried z ≡ doubled_pair (carried y) → carried y ≡ Scored y → z ≡ twice y
unfolding number_for doubled_pair
number_doubled y z d e = sym (number_carried z) ∙ ap number_for (d ∙ ap doubled_pair e)

pub natural_doubled : (y z : ℤ) → carried z ≡ doubled_pair (carried y) → le_z (pos 0) z ≡ le_z (pos 0) y
unfolding twice doubled_pair
natural_doubled y z d = go (carried_cases y)
  where
    go : Cases y → le_z (pos 0) z ≡ le_z (pos 0) y
    go (inl e) = ap (le_z (pos 0)) (number_doubled y z d e) ∙ twice_le (pos 0) y
    go (inr (_, e)) = ap (le_z (pos 0)) (pair_same z y (d ∙ ap doubled_pair e ∙ sym e))

pub equal_doubled : (y z y' z' : ℤ) → carried z ≡ doubled_pair (carried y) → carried z' ≡ doubled_pair (carried y') → eq_z z z' ≡ eq_z y y'
equal_doubled y z y' z' d d' = T_same (eq_z z z') (eq_z y y')
    (λ t. yes_eq_z y y' (pair_same y y' (doubled_same (carried y) (carried y') (sym d ∙ ap carried (eq_z_yes z z' t) ∙ d'))))
    (λ t. yes_eq_z z z' (pair_same z z' (d ∙ ap (λ x. doubled_pair (carried x)) (eq_z_yes y y' t) ∙ sym d')))

pub zero_doubled : (y z : ℤ) → carried z ≡ doubled_pair (carried y) → eq_z z (pos 0) ≡ eq_z y (pos 0)
unfolding carried eq_z mark doubled_pair twice
zero_doubled y z d = equal_doubled y z (pos 0) (pos 0) d refl

-- a score that is not the mark when doubled
pub carried_doubled : (z : ℤ) → twice z ≢ mark → z ≢ mark → carried (twice z) ≡ doubled_pair (carried z)
unfolding doubled_pair
carried_doubled z d e = go (carried_cases (twice z)) (carried_cases z)
  where
    go : Cases (twice z) → Cases z → carried (twice z) ≡ doubled_pair (carried z)
    go (inr (m, _)) _ = absurd (d m)
    go (inl _) (inr (m, _)) = absurd (e m)
    go (inl p) (inl q) = p ∙ sym (ap doubled_pair q)

-- a test of every number of a pair list
list_tests : (n : ℕ) (s t : Similarity) (p q : ℤ → Bool) → ((a b : ℕ) → a < n → b < n → p (s a b) ≡ q (t a b)) → all p (pair_list n s) ≡ all q (pair_list n t)
list_tests n s t p q e = T_same (all p (pair_list n s)) (all q (pair_list n t))
    (one s t p q (λ a b ha hb. subst T (e a b ha hb))) (one t s q p (λ a b ha hb. subst T (sym (e a b ha hb))))
  where
    one : (s t : Similarity) (p q : ℤ → Bool) → ((a b : ℕ) → a < n → b < n → T (p (s a b)) → T (q (t a b))) → T (all p (pair_list n s)) → T (all q (pair_list n t))
    one s t p q f u = in_all q (pair_list n t) (λ z m.
        let (a, b, ha, hb, i) = of_pair_list n t m in
        subst (λ y. T (q y)) (sym i) (f a b ha (omega arith) (all_in p (pair_list n s) u (in_pair_list n s ha hb))))

-- the score of a and b in a pair list is that of the larger and the smaller of the two
score_lower : (n : ℕ) (s : Similarity) (a b : ℕ) → a < n → b < n → score (pair_list n s) a b ≡ s (max a b) (min a b)
unfolding score place
score_lower n s a b h k = pair_list_at n s (max a b) (min a b) (omega arith) (omega arith)

-- pair lists: what checks 11, 16 and 12 say of them stays as it was
module _ (n : ℕ) (v w : Similarity) (d : Doubles n v w) where
  pub range_doubled : (limit : ℕ)
      → all (λ z. is_allowed_pair (2 * limit) (carried z)) (pair_list n w) ≡ all (λ z. is_allowed_pair limit (carried z)) (pair_list n v)
  range_doubled limit = list_tests n w v _ _ (λ a b ha hb. ap (is_allowed_pair (2 * limit)) (d.pairs a b ha hb) ∙ allowed_doubled limit (carried (v a b)))

  pub unscored_doubled : has_unscored (pair_list n w) ≡ has_unscored (pair_list n v)
  unfolding has_unscored
  unscored_doubled = ap not (list_tests n w v _ _ (λ a b ha hb. ap is_scored (d.pairs a b ha hb) ∙ scored_doubled (carried (v a b))))

  pub score_doubled : Doubles n (score (pair_list n v)) (score (pair_list n w))
  score_doubled = record {
    pairs = λ a b ha hb.
        ap carried (score_lower n w a b ha hb) ∙ d.pairs (max a b) (min a b) (omega arith) (omega arith)
        ∙ ap (λ z. doubled_pair (carried z)) (sym (score_lower n v a b ha hb));
  }

  pub distances_doubled : are_distances n (pair_list n w) ≡ are_distances n (pair_list n v)
  unfolding are_distances
  distances_doubled = ap₂ ◌&&◌
      (list_tests n w v _ _ (λ a b ha hb. natural_doubled (v a b) (w a b) (d.pairs a b ha hb)))
      (all_cong _ _ (below n) (λ a m. let h = below_lt n m in zero_doubled (score (pair_list n v) a a) (score (pair_list n w) a a) (score_doubled.pairs a a h h)))

-- the indices of numbers that are doubled one by one
abbrev pub Twice : ℕ → Similarity → Similarity → Type 0
Twice n s t = (a b : ℕ) → a < n → b < n → t a b ≡ twice (s a b)

module _ (n : ℕ) (s t : Similarity) (d : Twice n s t) (A : ℕ) where
  two_twice : (a b c e : ℕ) → a < n → b < n → c < n → e < n → t a b +ℤ t c e ≡ twice (s a b +ℤ s c e)
  two_twice a b c e ha hb hc he = ap₂ ◌+ℤ◌ (d a b ha hb) (d c e hc he) ∙ sym (twice_sum (s a b) (s c e))

  strong_values_lem : strong_values n t A ≡ map twice (strong_values n s A)
  unfolding strong_values
  strong_values_lem =
      rows_twice (members n A) _ _ λ a ma. rows_twice (members n A) _ _ λ a' ma'. row_twice (others n A) _ _ λ x mx.
      let ha = (of_members n A ma).0 in
      ap₂ ◌-ℤ◌ (d a a' ha (of_members n A ma').0) (d a x ha (of_others n A mx).0) ∙ sym (twice_difference (s a a') (s a x))

  strong_twice : strong_index n t A ≡ twice (strong_index n s A)
  unfolding strong_index
  strong_twice = ap least strong_values_lem ∙ least_twice (strong_values n s A)

  weight_twice : (a b c : ℕ) → a < n → b < n → c < n → weight t a b c ≡ twice (weight s a b c)
  unfolding weight
  weight_twice a b c ha hb hc =
      ap₂ ◌-ℤ◌ (d a b ha hb) (ap₂ max_z (d a c ha hc) (d b c hb hc) ∙ twice_max (s a c) (s b c)) ∙ sym (twice_difference (s a b) (max_z (s a c) (s b c)))

  clean_weights : weights n t A ≡ map twice (weights n s A)
  unfolding weights
  clean_weights = rows_twice (pairs_of n A) _ _ λ ab m. row_twice (others n A) _ _ λ c mc.
      let (ha, hb, _, _) = of_pairs n A m in
      weight_twice ab.0 ab.1 c ha (omega arith) (of_others n A mc).0

  clean_twice : clean_index n t A ≡ twice (clean_index n s A)
  unfolding clean_index
  clean_twice = ap (sum_of_smallest (size n A - 1)) clean_weights ∙ smallest_twice (size n A - 1) (weights n s A)

  separation_values_lem : separation_values n t A ≡ map twice (separation_values n s A)
  unfolding separation_values
  separation_values_lem =
      rows_twice (members n A) _ _ λ a ma. rows_twice (members n A) _ _ λ a' ma'. rows_twice (others n A) _ _ λ b mb. row_twice (others n A) _ _ λ b' mb'.
      let ha = (of_members n A ma).0 in
      let ha' = (of_members n A ma').0 in
      let hb = (of_others n A mb).0 in
      let hb' = (of_others n A mb').0 in
      ap₂ ◌-ℤ◌ (ap₂ ◌-ℤ◌ (two_twice a b a' b' ha hb ha' hb') (d a a' ha ha') ∙ sym (twice_difference (s a b +ℤ s a' b') (s a a'))) (d b b' hb hb')
      ∙ sym (twice_difference (s a b +ℤ s a' b' -ℤ s a a') (s b b'))

  separation_twice : separation_index n t A ≡ twice (separation_index n s A)
  unfolding separation_index
  separation_twice = ap least separation_values_lem ∙ least_twice (separation_values n s A)

  quartet_twice : (q : Quartet) → q ∈ quartets n A → doubled_score t q ≡ twice (doubled_score s q)
  unfolding doubled_score
  quartet_twice q m =
      let (ha, la, _, _) = ((in_quartets n A q).0 m).one_side in
      let (hb, lb, _, _) = ((in_quartets n A q).0 m).other_side in
      go q.a q.a' q.b q.b' ha (omega arith) hb (omega arith)
    where
      go : (a a' b b' : ℕ) → a < n → a' < n → b < n → b' < n
          → min_z (t a b +ℤ t a' b') (t a b' +ℤ t a' b) -ℤ (t a a' +ℤ t b b') ≡ twice (min_z (s a b +ℤ s a' b') (s a b' +ℤ s a' b) -ℤ (s a a' +ℤ s b b'))
      go a a' b b' ha ha' hb hb' =
          ap₂ ◌-ℤ◌
          (ap₂ min_z (two_twice a b a' b' ha hb ha' hb') (two_twice a b' a' b ha hb' ha' hb) ∙ twice_min (s a b +ℤ s a' b') (s a b' +ℤ s a' b))
          (two_twice a a' b b' ha ha' hb hb')
          ∙ sym (twice_difference (min_z (s a b +ℤ s a' b') (s a b' +ℤ s a' b)) (s a a' +ℤ s b b'))

  refined_twice : refined_weight n t A ≡ twice (refined_weight n s A)
  unfolding refined_weight
  refined_twice = ap (sum_of_smallest (n - 3)) (row_twice (quartets n A) (doubled_score t) (doubled_score s) quartet_twice)
      ∙ smallest_twice (n - 3) (map (doubled_score s) (quartets n A))

-- the least and the greatest score of a filling are doubled with the limit, and so is the worst filling
low_doubled : (limit : ℕ) (c : Carried) → low (2 * limit) (doubled_pair c) ≡ twice (low limit c)
unfolding low doubled_pair
low_doubled limit (Scored z) = refl
low_doubled limit Unscored = twice_neg limit

high_doubled : (limit : ℕ) (c : Carried) → high (2 * limit) (doubled_pair c) ≡ twice (high limit c)
unfolding high doubled_pair
high_doubled limit (Scored z) = refl
high_doubled limit Unscored = twice_pos limit

module _ {n : ℕ} {s t : Similarity} (d : Doubles n s t) where
  worst_doubled : (limit A : ℕ) → Twice n (worst limit A s) (worst (2 * limit) A t)
  unfolding worst
  worst_doubled limit A a b ha hb =
      let c = xor (has A a) (has A b) in
      let p = carried (s a b) in
      ap (λ q. cond c (high (2 * limit) q) (low (2 * limit) q)) (d.pairs a b ha hb)
      ∙ ap₂ (cond c) (high_doubled limit p) (low_doubled limit p) ∙ cond_map twice c (high limit p) (low limit p)

  -- with every pair scored the numbers themselves are doubled
  pub numbers_doubled : AllScored n s → Twice n s t
  numbers_doubled scored a b ha hb = number_doubled (s a b) (t a b) (d.pairs a b ha hb) (scored_is (scored a b ha hb))

  -- scores that are allowed are, when doubled, allowed within twice the limit
  pub allowed_doubles : (limit : ℕ) → AllAllowed limit n s → AllAllowed (2 * limit) n t
  allowed_doubles limit h a b ha hb =
      subst T (sym (ap (is_allowed_pair (2 * limit)) (d.pairs a b ha hb) ∙ allowed_doubled limit (carried (s a b)))) (h a b ha hb)

-- a kind that is not strong
abbrev Other : Kind → Type 0
Other strong = ⊥
Other clean = Unit {0}
Other splits = Unit {0}

other : (k : Kind) → Other k → k ≢ strong
other k o e = subst Other e o

-- the index of each kind, where the allowed range of a score is from −limit to limit; `index` has it from −score_limit to score_limit
unfoldable pub index_within : (limit : ℕ) → Kind → ℕ → Similarity → ℕ → ℤ
index_within limit strong n s A = filled_index limit n s A
index_within limit clean n s A = clean_index n s A
index_within limit splits n d A = separation_index n d A

-- every index is twice what it was; unscored pairs are for strong groups only
pub index_doubled : (limit : ℕ) (k : Kind) (n : ℕ) (s t : Similarity) → Doubles n s t → (k ≢ strong → AllScored n s) → (A : ℕ)
    → index_within (2 * limit) k n t A ≡ twice (index_within limit k n s A)
unfolding index_within filled_index
index_doubled limit strong n s t d scored A = strong_twice n (worst limit A s) (worst (2 * limit) A t) (worst_doubled d limit A) A
index_doubled limit clean n s t d scored A = clean_twice n s t (numbers_doubled d (scored (other clean tt))) A
index_doubled limit splits n s t d scored A = separation_twice n s t (numbers_doubled d (scored (other splits tt))) A

pub weight_doubled : (n : ℕ) (s t : Similarity) → Doubles n s t → AllScored n s → (A : ℕ) → refined_weight n t A ≡ twice (refined_weight n s A)
weight_doubled n s t d scored A = refined_twice n s t (numbers_doubled d scored) A

-- the groups of each kind, where the allowed range of a score is from −limit to limit; `groups` has it from −score_limit to score_limit
unfoldable pub positive_within : (limit : ℕ) → Kind → ℕ → Similarity → ℕ → Bool
positive_within limit k n s = positive k n (index_within limit k n s)

unfoldable pub groups_within : (limit : ℕ) → Kind → ℕ → Similarity → List Group
groups_within limit k n s = groups_by (positive_within limit k n s) (index_within limit k n s) n

-- the same sets are listed, each with twice the index
groups_by_doubled : (test : ℕ → Bool) (index : ℕ → ℤ) (n : ℕ) → groups_by test (λ A. twice (index A)) n ≡ map doubled_group (groups_by test index n)
unfolding groups_by doubled_group
groups_by_doubled test index n = sym (map-map _ _ (sets_by test n))

pub groups_doubled : (limit : ℕ) (k : Kind) (n : ℕ) (s t : Similarity) → Doubles n s t → (k ≢ strong → AllScored n s)
    → groups_within (2 * limit) k n t ≡ map doubled_group (groups_within limit k n s)
unfolding groups_within positive_within positive
groups_doubled limit k n s t d scored =
    groups_by_same _ (positive_within limit k n s) _ (λ A. twice (index_within limit k n s A)) n
    (λ A. ap (λ b. speaks_of k n A && b) (ap (le_z (pos 1)) (twofold A) ∙ twice_positive (index_within limit k n s A)))
    (λ A _. twofold A)
    ∙ groups_by_doubled (positive_within limit k n s) (index_within limit k n s) n
  where
    twofold : (A : ℕ) → index_within (2 * limit) k n t A ≡ twice (index_within limit k n s A)
    twofold = index_doubled limit k n s t d scored

-- a set that is listed is touched by no unscored pair, so its index does not depend on the limit
listed_limit : (limit limit' : ℕ) (k : Kind) (n : ℕ) (s : Similarity) → AllAllowed limit n s → (A : ℕ)
    → T (positive_within limit k n s A) → index_within limit k n s A ≡ index_within limit' k n s A
unfolding index_within positive_within positive
listed_limit limit limit' strong n s h A t =
    let (p, i) = and_T (speaks_of strong n A) (le_z (pos 1) (filled_index limit n s A)) t in
    let u = positive_untouched limit n s A h (size_less n A (speaks_size strong n A p).1) (le_z_yes i) in
    untouched_index limit n s A u ∙ sym (untouched_index limit' n s A u)
listed_limit limit limit' clean n s h A t = refl
listed_limit limit limit' splits n s h A t = refl

pub groups_limit : (limit limit' : ℕ) (k : Kind) (n : ℕ) (s : Similarity) → AllAllowed limit n s → AllAllowed limit' n s
    → groups_within limit k n s ≡ groups_within limit' k n s
unfolding groups_within positive_within positive
groups_limit limit limit' k n s h h' = groups_by_same (positive_within limit k n s) (positive_within limit' k n s) _ _ n
    (λ A. T_same (positive_within limit k n s A) (positive_within limit' k n s A) (moved limit limit' h A) (moved limit' limit h' A))
    (λ A t. sym (listed_limit limit' limit k n s h' A t))
  where
    moved : (limit limit' : ℕ) → AllAllowed limit n s → (A : ℕ) → T (positive_within limit k n s A) → T (positive_within limit' k n s A)
    moved limit limit' h A t = subst (λ z. T (speaks_of k n A && le_z (pos 1) z)) (listed_limit limit limit' k n s h A t) t

-- the groups as they are listed are those within the range of check 11
pub groups_within_lem : (k : Kind) (n : ℕ) (s : Similarity) → groups k n s ≡ groups_within score_limit k n s
unfolding groups listed index groups_within positive_within index_within
groups_within_lem strong n s = refl
groups_within_lem clean n s = refl
groups_within_lem splits n s = refl

-- within one and the same range, as the calls have it
pub same_range_doubled : (k : Kind) (n : ℕ) (s t : Similarity) → Doubles n s t → (k ≢ strong → AllScored n s) → AllAllowed score_limit n s
    → AllAllowed score_limit n t → groups k n t ≡ map doubled_group (groups k n s)
same_range_doubled k n s t d scored hs ht =
    groups_within_lem k n t ∙ groups_limit score_limit (2 * score_limit) k n t ht (allowed_doubles d score_limit hs) ∙ groups_doubled score_limit k n s t d scored
    ∙ ap (map doubled_group) (sym (groups_within_lem k n s))
