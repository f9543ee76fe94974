-- The listings: what stands in them, and that they rise in the written order.
use mathlib.Core.Path.{◌≡◌, refl, sym, ap, ap₂, ◌∙◌, subst}
use mathlib.Core.Bool.{Bool, not, ◌&&◌}
use mathlib.Core.Logic.{◌⊎◌, inl, inr, ◌≢◌, ◌↔◌}
use mathlib.Core.List.Memᴰ
use mathlib.Core.List.{
  List,
  [],
  ◌∷◌,
  ◌++◌,
  map,
  map-map,
  map-id,
}
use Prim.Native.Nat.{ℕ, zero, suc, ◌^◌, ◌≤◌, ◌<◌}
use native.Mathlib.Omega.{arith}
use lib.IntN.{ℤ, pos}
use lib.Signed.{◌≤ℤ◌, le_z, le_z_yes}
use lib.Dec.{T, eqb, leb, ltb, leb→le, le→leb, ltb→lt, lt→ltb, eqb→eq, eqb_refl}
use Rattle.lists.specs.Lists.{◌∈◌, below, each, keep, Distinct}
use Rattle.lists.proofs.Tests.{and_T, T_and, cond_elim}
use Rattle.lists.proofs.Lists.{below_lt, lt_below, in_each, of_each, each_below, in_keep, of_keep, keep_append, keep_cong, in_map, of_map, map_cong}
use Rattle.sets.specs.Sets.{has, ◌∋◌, ◌∌◌, size}
use Rattle.sets.proofs.Sets.{has_no, size_le, size_member, size_less}
use Rattle.clusters.specs.PairList.{Similarity}
use Rattle.clusters.specs.Groups.{
  Kind,
  HasLine,
  strong,
  clean,
  splits,
  index,
  proper,
  speaks_of,
  positive,
  listed,
  sets,
  sets_by,
  groups_by,
  group_sets,
  groups,
  sets_of,
  indices_of,
  Before,
  Rising,
}
use Rattle.clusters.specs.declared.Group.{Group}

-- the least size of the sets that a kind speaks of
unfoldable pub least_size : Kind → ℕ
least_size strong = 1
least_size clean = 2
least_size splits = 1

pub between : (c m n : ℕ) → T (leb c m && ltb m n) ↔ ((c ≤ m) × (m < n))
between c m n = (
  λ t. let (l, u) = and_T (leb c m) (ltb m n) t in (leb→le c m l, ltb→lt m n u),
  λ (l, u). T_and (leb c m) (ltb m n) (le→leb c m l) (lt→ltb m n u),
)

pub speaks_size : (k : Kind) (n A : ℕ) → T (speaks_of k n A) → (least_size k ≤ size n A) × (size n A < n)
unfolding speaks_of proper least_size
speaks_size strong n A t = (between 1 (size n A) n).0 t
speaks_size clean n A t = (between 2 (size n A) n).0 t
speaks_size splits n A t = (between 1 (size n A) n).0 (and_T (leb 1 (size n A) && proper n A) (not (has A 0)) t).0

least_size_some : (k : Kind) → 1 ≤ least_size k
unfolding least_size
least_size_some strong = omega arith
least_size_some clean = omega arith
least_size_some splits = omega arith

module _ (k : Kind) (n : ℕ) (s : Similarity) (A : ℕ) where
  pub of_listed : T (listed k n s A) → T (speaks_of k n A) × T (le_z (pos 1) (index k n s A))
  unfolding listed positive
  of_listed t = and_T (speaks_of k n A) (le_z (pos 1) (index k n s A)) t

  pub is_listed : T (speaks_of k n A) → pos 1 ≤ℤ index k n s A → T (listed k n s A)
  unfolding listed positive
  is_listed t h = T_and (speaks_of k n A) (le_z (pos 1) (index k n s A)) t h.le

  pub listed_index : T (listed k n s A) → pos 1 ≤ℤ index k n s A
  listed_index t = le_z_yes (of_listed t).1

  pub listed_some : T (listed k n s A) → (a : ℕ) × (a < n) × (A ∋ a)
  listed_some t = size_member n A (omega (arith, least_size_some k, (speaks_size k n A (of_listed t).0).0))

  pub listed_proper : T (listed k n s A) → (x : ℕ) × (x < n) × (A ∌ x)
  listed_proper t = size_less n A (speaks_size k n A (of_listed t).0).1

pub listed_clean_two : (n : ℕ) (s : Similarity) (A : ℕ) → T (listed clean n s A) → 2 ≤ size n A
unfolding least_size
listed_clean_two n s A t = (speaks_size clean n A (of_listed clean n s A t).0).0

pub listed_split_first : (n : ℕ) (d : Similarity) (A : ℕ) → T (listed splits n d A) → A ∌ 0
unfolding speaks_of
listed_split_first n d A t = has_no A 0 (and_T (leb 1 (size n A) && proper n A) (not (has A 0)) (of_listed splits n d A t).0).1

-- the sets below m of k entries, in rising order
row : ℕ → ℕ → ℕ → List ℕ
row n m k = keep (λ A. eqb (size n A) k) (below m)

of_row : (n m k : ℕ) {A : ℕ} → A ∈ row n m k → (A < m) × (size n A ≡ k)
unfolding row
of_row n m k {A} a = let (l, t) = of_keep (λ A. eqb (size n A) k) (below m) a in (below_lt m l, eqb→eq (size n A) k t)

pub in_sets : (n A : ℕ) → (A ∈ sets n) ↔ (A < 2 ^ n)
unfolding sets row
in_sets n A = (
  λ m. let (k, _, a) = of_each (below (suc n)) (row n (2 ^ n)) m in (of_row n (2 ^ n) k a).0,
  λ h. in_each (row n (2 ^ n)) (lt_below (suc n) (size n A) (omega (arith, size_le n A)))
      (in_keep (λ B. eqb (size n B) (size n A)) (lt_below (2 ^ n) A h) (eqb_refl (size n A))),
)

-- what passes a test, and what is listed
pub in_sets_by : (test : ℕ → Bool) (n A : ℕ) → (A ∈ sets_by test n) ↔ ((A < 2 ^ n) × T (test A))
unfolding sets_by
in_sets_by test n A = (λ m. let (h, t) = of_keep test (sets n) m in ((in_sets n A).0 h, t), λ p. in_keep test ((in_sets n A).1 p.0) p.1)

pub in_groups_by : (test : ℕ → Bool) (index : ℕ → ℤ) (n : ℕ) (g : Group)
    → (g ∈ groups_by test index n) ↔ ((g.set < 2 ^ n) × T (test g.set) × (g.index ≡ index g.set))
unfolding groups_by
in_groups_by test index n g = (
  λ m.
      let (B, b, e) = of_map with_index (sets_by test n) m in
      let a : g.set ≡ B = ap (λ (h : Group). h.set) e in
      let (h, t) = (in_sets_by test n g.set).0 (Memᴰ.cast a b) in
      (h, t, ap (λ (h : Group). h.index) e ∙ ap index (sym a)),
  λ (h, t, e). Memᴰ.cast (ap {B = Group} (λ y. record { set = g.set; index = y }) e) (in_map with_index ((in_sets_by test n g.set).1 (h, t))),
)
  where
    with_index : ℕ → Group
    with_index A = record { set = A; index = index A }

pub line_by : (test : ℕ → Bool) (index : ℕ → ℤ) (n A : ℕ) (z : ℤ) → HasLine (groups_by test index n) A z ↔ ((A < 2 ^ n) × T (test A) × (z ≡ index A))
line_by test index n A z = (
  λ (g, m, a, e). subst (λ (B : ℕ). (B < 2 ^ n) × T (test B) × (z ≡ index B)) a
      (let (h, t, i) = (in_groups_by test index n g).0 m in (h, t, sym e ∙ i)),
  λ (h, t, e). let g : Group = record { set = A; index = z } in (g, (in_groups_by test index n g).1 (h, t, e), refl, refl),
)

-- tests and indices that agree list the same
pub groups_by_same : (test test' : ℕ → Bool) (index index' : ℕ → ℤ) (n : ℕ) → ((A : ℕ) → test A ≡ test' A) → ((A : ℕ) → T (test' A) → index A ≡ index' A)
    → groups_by test index n ≡ groups_by test' index' n
unfolding groups_by sets_by
groups_by_same test test' index index' n same h =
    ap (map {B = Group} (λ A. record { set = A; index = index A })) (keep_cong test test' (sets n) (λ A _. same A))
    ∙ map_cong _ _ (keep test' (sets n)) (λ A m. ap {B = Group} (λ z. record { set = A; index = z }) (h A (of_keep test' (sets n) m).1))

module _ (k : Kind) (n : ℕ) (s : Similarity) where
  pub in_group_sets : (A : ℕ) → (A ∈ group_sets k n s) ↔ ((A < 2 ^ n) × T (listed k n s A))
  unfolding group_sets
  in_group_sets A = in_sets_by (listed k n s) n A

  pub in_groups : (g : Group) → (g ∈ groups k n s) ↔ ((g.set < 2 ^ n) × T (listed k n s g.set) × (g.index ≡ index k n s g.set))
  unfolding groups
  in_groups g = in_groups_by (listed k n s) (index k n s) n g

  -- a group is one of the sets, and each of the sets has a line with its index
  pub group_set : {g : Group} → g ∈ groups k n s → g.set ∈ group_sets k n s
  group_set {g} m = let (h, t, _) = (in_groups g).0 m in (in_group_sets g.set).1 (h, t)

  pub set_line : {A : ℕ} → A ∈ group_sets k n s → HasLine (groups k n s) A (index k n s A)
  set_line {A} m =
      let (h, t) = (in_group_sets A).0 m in
      let g : Group = record { set = A; index = index k n s A } in
      (g, (in_groups g).1 (h, t, refl), refl, refl)

  pub line_of : (A : ℕ) (z : ℤ) → HasLine (groups k n s) A z ↔ ((A < 2 ^ n) × T (listed k n s A) × (z ≡ index k n s A))
  unfolding groups
  line_of A z = line_by (listed k n s) (index k n s) n A z

-- the written order
pub before_apart : (n : ℕ) {A B : ℕ} → Before n A B → A ≢ B
before_apart n (inl h) e = omega (arith, ap (size n) e)
before_apart n (inr h) e = omega arith

pub before_size : (n : ℕ) {A B : ℕ} → Before n A B → size n A ≤ size n B
before_size n (inl h) = omega arith
before_size n (inr h) = omega arith

before_asym : (n : ℕ) {A B : ℕ} → Before n A B → Before n B A → ⊥
before_asym n (inl h) (inl k) = omega arith
before_asym n (inl h) (inr k) = omega arith
before_asym n (inr h) (inl k) = omega arith
before_asym n (inr h) (inr k) = omega arith

append_rise : (n : ℕ) (l m : List ℕ) → Rising n l → Rising n m → ((A B : ℕ) → A ∈ l → B ∈ m → Before n A B) → Rising n (l ++ m)
append_rise n [] m rl rm f = rm
append_rise n (A ∷ l) m rl rm f = (λ B b. go B (Memᴰ.append_cases l b), append_rise n l m rl.1 rm (λ C B c b. f C B (Memᴰ.tail c) b))
  where
    go : (B : ℕ) → (B ∈ l) ⊎ (B ∈ m) → Before n A B
    go B (inl b) = rl.0 B b
    go B (inr b) = f A B (Memᴰ.head refl) b

pub rising_append : (n : ℕ) (l m : List ℕ) → Rising n (l ++ m) → Rising n m × ((A B : ℕ) → A ∈ l → B ∈ m → Before n A B)
rising_append n [] m r = (r, λ A B a. absurd (Memᴰ.not-nil a))
rising_append n (C ∷ l) m r = let (s, f) = rising_append n l m r.1 in (s, λ A B a b. go f A B b (Memᴰ.cases_cons a))
  where
    go : ((A B : ℕ) → A ∈ l → B ∈ m → Before n A B) → (A B : ℕ) → B ∈ m → (A ≡ C) ⊎ (A ∈ l) → Before n A B
    go f A B b (inl e) = subst (λ (D : ℕ). Before n D B) (sym e) (r.0 B (Memᴰ.append_right l b))
    go f A B b (inr a) = f A B a b

pub keep_rise : (n : ℕ) (p : ℕ → Bool) (l : List ℕ) → Rising n l → Rising n (keep p l)
unfolding keep
keep_rise n p [] r = tt
keep_rise n p (A ∷ l) r = cond_elim (p A) (A ∷ keep p l) (keep p l) (Rising n)
    (λ _. (λ B b. r.0 B (of_keep p l b).0, keep_rise n p l r.1)) (λ _. keep_rise n p l r.1)

row_rise : (n m k : ℕ) → Rising n (row n m k)
unfolding row below keep
row_rise n zero k = tt
row_rise n (suc m) k = subst (Rising n) (sym (keep_append p (below m) (m ∷ [])))
    (append_rise n (keep p (below m)) (keep p (m ∷ [])) (row_rise n m k) (keep_rise n p (m ∷ []) (λ B b. absurd (Memᴰ.not-nil b), tt)) last)
  where
    p : ℕ → Bool
    p A = eqb (size n A) k

    last : (A B : ℕ) → A ∈ keep p (below m) → B ∈ keep p (m ∷ []) → Before n A B
    last A B a b =
        let (h, e) = of_row n m k a in
        let (q, t) = of_keep p (m ∷ []) b in
        inr (omega (arith, eqb→eq (size n B) k t), omega (arith, Memᴰ.eq_of_singleton q))

rows_rise : (n m j : ℕ) → Rising n (each (below j) (row n m))
unfolding below each
rows_rise n m zero = tt
rows_rise n m (suc j) =
    subst (Rising n) (sym (each_below j (row n m))) (append_rise n (each (below j) (row n m)) (row n m j) (rows_rise n m j) (row_rise n m j) last)
  where
    last : (A B : ℕ) → A ∈ each (below j) (row n m) → B ∈ row n m j → Before n A B
    last A B a b = let (k, h, c) = of_each (below j) (row n m) a in inl (omega (arith, below_lt j h, (of_row n m k c).1, (of_row n m j b).1))

pub sets_rise : (n : ℕ) → Rising n (sets n)
unfolding sets row
sets_rise n = rows_rise n (2 ^ n) (suc n)

pub groups_rise : (k : Kind) (n : ℕ) (s : Similarity) → Rising n (group_sets k n s)
unfolding group_sets sets_by
groups_rise k n s = keep_rise n (listed k n s) (sets n) (sets_rise n)

pub rising_distinct : (n : ℕ) (l : List ℕ) → Rising n l → Distinct l
rising_distinct n [] r = tt
rising_distinct n (A ∷ l) r = (λ m. before_apart n (r.0 A m) refl, rising_distinct n l r.1)

-- two rising lists of the same sets are one
pub rising_equal : (n : ℕ) (l m : List ℕ) → Rising n l → Rising n m → ((A : ℕ) → (A ∈ l) ↔ (A ∈ m)) → l ≡ m
rising_equal n [] [] rl rm f = refl
rising_equal n [] (B ∷ m) rl rm f = absurd (Memᴰ.not-nil ((f B).1 (Memᴰ.head refl)))
rising_equal n (A ∷ l) [] rl rm f = absurd (Memᴰ.not-nil ((f A).0 (Memᴰ.head refl)))
rising_equal n (A ∷ l) (B ∷ m) rl rm f = ap₂ ◌∷◌ same (rising_equal n l m rl.1 rm.1 (λ C. (tail l m rl (f C).0 same, tail m l rm (f C).1 (sym same))))
  where
    first : (A ≡ B) ⊎ (A ∈ m) → (B ≡ A) ⊎ (B ∈ l) → A ≡ B
    first (inl e) _ = e
    first (inr a) (inl e) = sym e
    first (inr a) (inr b) = absurd (before_asym n (rm.0 A a) (rl.0 B b))

    same : A ≡ B
    same = first (Memᴰ.cases_cons ((f A).0 (Memᴰ.head refl))) (Memᴰ.cases_cons ((f B).1 (Memᴰ.head refl)))

    tail : {A B C : ℕ} (l m : List ℕ) → Rising n (A ∷ l) → (C ∈ A ∷ l → C ∈ B ∷ m) → A ≡ B → C ∈ l → C ∈ m
    tail {A} {B} {C} l m r g e c = go (Memᴰ.cases_cons (g (Memᴰ.tail c)))
      where
        go : (C ≡ B) ⊎ (C ∈ m) → C ∈ m
        go (inl q) = absurd (before_apart n (r.0 C c) (e ∙ sym q))
        go (inr d) = d

-- the sets and the indices of the groups
pub groups_sets : (k : Kind) (n : ℕ) (s : Similarity) → sets_of (groups k n s) ≡ group_sets k n s
unfolding groups groups_by group_sets
groups_sets k n s = map-map _ _ (group_sets k n s) ∙ map-id (group_sets k n s)

pub groups_indices : (k : Kind) (n : ℕ) (s : Similarity) → indices_of (groups k n s) ≡ map (index k n s) (group_sets k n s)
unfolding groups groups_by group_sets
groups_indices k n s = map-map _ _ (group_sets k n s)
