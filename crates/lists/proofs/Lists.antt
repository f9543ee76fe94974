-- Laws of the lists: what is in them.
use mathlib.Core.Path.{◌≡◌, refl, sym, ap, ap₂, ◌∙◌, subst}
use mathlib.Core.Bool.{Bool, true, false, not, cond, ◌&&◌}
use mathlib.Core.Logic.{◌⊎◌, inl, inr, ◌≢◌}
use mathlib.Core.List.Memᴰ
use mathlib.Core.List.{
  List,
  [],
  ◌∷◌,
  ◌++◌,
  map,
  head-eq_of_cons-eq,
  tail-eq_of_cons-eq,
  append-nil,
  append_assoc,
  map-append,
  map-id,
}
use Prim.Native.Nat.{ℕ, zero, suc, ◌+◌, ◌<◌, ◌*◌}
use native.Mathlib.Numerals.{add-one}
use native.Mathlib.Omega.{arith}
use native.Mathlib.Decide.{ℕ_discrete, dec_lt}
use lib.Dec.{T, eqb, eqb→eq, not_T}
use lib.ListN.{length, length-append, length-map, take, drop, get_or, length-drop, get_or-append}
use lib.Seq.{drop-cons, get_or_at, take-append_seam, take-append-le}
use Rattle.lists.specs.Lists.{◌∈◌, below, each, keep, all}
use Rattle.lists.proofs.Tests.{T_or_not, and_T, T_and, eqb_yes}

pub below_lt : (n : ℕ) {i : ℕ} → i ∈ below n → i < n
unfolding below
below_lt zero m = absurd (Memᴰ.not-nil m)
below_lt (suc n) {i} m = go (below_lt n) (Memᴰ.append_cases (below n) m)
  where
    go : (i ∈ below n → i < n) → (i ∈ below n) ⊎ (i ∈ n ∷ []) → i < suc n
    go ih (inl h) = omega (arith, ih h)
    go ih (inr (Memᴰ.head e)) = omega arith
    go ih (inr (Memᴰ.tail h)) = absurd (Memᴰ.not-nil h)

pub lt_below : (n i : ℕ) → i < n → i ∈ below n
unfolding below
lt_below zero i h = absurd (omega arith)
lt_below (suc n) i h = go (lt_below n i) (ℕ_discrete i n)
  where
    go : (i < n → i ∈ below n) → Dec (i ≡ n) → i ∈ (below n ++ (n ∷ []))
    go ih (yes e) = Memᴰ.append_right (below n) (Memᴰ.head e)
    go ih (no f) = Memᴰ.append_left (n ∷ []) (ih (omega arith))

module _ {ℓ κ} {A : Type ℓ} {B : Type κ} where
  pub in_each : (f : A → List B) {x : A} {l : List A} {y : B} → x ∈ l → y ∈ f x → y ∈ each l f
  unfolding each
  in_each f {x = x} {l = []} {y = y} x6 m = elim x6 [ ]
  in_each f {x} {l = z ∷ l} {y} (Memᴰ.head e) m = Memᴰ.append_left (each l f) (subst (λ (w : A). y ∈ f w) e m)
  in_each f {l = z ∷ l} (Memᴰ.tail h) m = Memᴰ.append_right (f z) (in_each f h m)

  pub of_each : (l : List A) (f : A → List B) {y : B} → y ∈ each l f → (x : A) × (x ∈ l) × (y ∈ f x)
  unfolding each
  of_each [] f m = absurd (Memᴰ.not-nil m)
  of_each (z ∷ l) f {y} m = go (of_each l f) (Memᴰ.append_cases (f z) m)
    where
      go : (y ∈ each l f → (x : A) × (x ∈ l) × (y ∈ f x)) → (y ∈ f z) ⊎ (y ∈ each l f) → (x : A) × (x ∈ z ∷ l) × (y ∈ f x)
      go ih (inl h) = (z, Memᴰ.head refl, h)
      go ih (inr h) = let r = ih h in (r.0, Memᴰ.tail r.1, r.2)

  pub in_map : (f : A → B) {x : A} {l : List A} → x ∈ l → f x ∈ map f l
  in_map f (Memᴰ.head e) = Memᴰ.head (ap f e)
  in_map f (Memᴰ.tail h) = Memᴰ.tail (in_map f h)

  pub of_map : (f : A → B) (l : List A) {y : B} → y ∈ map f l → (x : A) × (x ∈ l) × (y ≡ f x)
  of_map f [] {y = y} x' = elim x' [ ]
  of_map f (z ∷ l) (Memᴰ.head e) = (z, Memᴰ.head refl, e)
  of_map f (z ∷ l) (Memᴰ.tail h) = let r = of_map f l h in (r.0, Memᴰ.tail r.1, r.2)

module _ {ℓ} {A : Type ℓ} (p : A → Bool) where
  pub in_keep : {x : A} {l : List A} → x ∈ l → T (p x) → x ∈ keep p l
  unfolding keep
  in_keep {x = x} {l = []} x6 t = elim x6 [ ]
  in_keep {x} {l = z ∷ l} (Memᴰ.head e) t = go (p z) (subst (λ (w : A). T (p w)) e t)
    where
      go : (b : Bool) → T b → x ∈ cond b (z ∷ keep p l) (keep p l)
      go true t = Memᴰ.head e
      go false t = absurd t
  in_keep {x} {l = z ∷ l} (Memᴰ.tail h) t = go (p z) (in_keep h t)
    where
      go : (b : Bool) → x ∈ keep p l → x ∈ cond b (z ∷ keep p l) (keep p l)
      go true m = Memᴰ.tail m
      go false m = m

  pub of_keep : (l : List A) {x : A} → x ∈ keep p l → (x ∈ l) × T (p x)
  unfolding keep
  of_keep [] m = absurd (Memᴰ.not-nil m)
  of_keep (z ∷ l) {x} m = go (p z) refl (of_keep l) m
    where
      cons : x ∈ keep p l → (x ∈ keep p l → (x ∈ l) × T (p x)) → (x ∈ z ∷ l) × T (p x)
      cons h ih = (Memᴰ.tail (ih h).0, (ih h).1)

      hit : p z ≡ true → (x ≡ z) ⊎ (x ∈ keep p l) → (x ∈ keep p l → (x ∈ l) × T (p x)) → (x ∈ z ∷ l) × T (p x)
      hit q (inl e) ih = (Memᴰ.head e, subst (λ (b : Bool). T b) (sym (ap p e ∙ q)) tt)
      hit q (inr h) ih = cons h ih

      go : (b : Bool) → p z ≡ b → (x ∈ keep p l → (x ∈ l) × T (p x)) → x ∈ cond b (z ∷ keep p l) (keep p l) → (x ∈ z ∷ l) × T (p x)
      go true q ih m = hit q (Memᴰ.cases_cons m) ih
      go false q ih m = cons m ih

  pub keep_yes : (x : A) (l : List A) → T (p x) → keep p (x ∷ l) ≡ x ∷ keep p l
  unfolding keep
  keep_yes x l t = go (p x) t
    where
      go : (b : Bool) → T b → cond b (x ∷ keep p l) (keep p l) ≡ x ∷ keep p l
      go true t = refl
      go false t = absurd t

  pub keep_no : (x : A) (l : List A) → T (not (p x)) → keep p (x ∷ l) ≡ keep p l
  unfolding keep
  keep_no x l t = go (p x) t
    where
      go : (b : Bool) → T (not b) → cond b (x ∷ keep p l) (keep p l) ≡ keep p l
      go true t = absurd t
      go false t = refl

  pub keep_append : (l m : List A) → keep p (l ++ m) ≡ keep p l ++ keep p m
  unfolding keep
  keep_append [] m = refl
  keep_append (x ∷ l) m = go (p x) (keep_append l m)
    where
      go : (b : Bool) → keep p (l ++ m) ≡ keep p l ++ keep p m → cond b (x ∷ keep p (l ++ m)) (keep p (l ++ m)) ≡ cond b (x ∷ keep p l) (keep p l) ++ keep p m
      go true e = ap (λ r. x ∷ r) e
      go false e = e

pub keep_cong : {A : Type 0} (p q : A → Bool) (l : List A) → ((x : A) → x ∈ l → p x ≡ q x) → keep p l ≡ keep q l
unfolding keep
keep_cong p q [] e = refl
keep_cong p q (x ∷ l) e = rw (e x (Memᴰ.head refl), keep_cong p q l (λ y m. e y (Memᴰ.tail m)))

pub count_below : (n : ℕ) → length (below n) ≡ n
unfolding below
count_below zero = refl
count_below (suc n) = length-append (below n) (n ∷ []) ∙ omega (arith, count_below n)

-- a list with an element has a length of 1 or more, and the other way round
pub some_length {ℓ} : {A : Type ℓ} (l : List A) {x : A} → x ∈ l → 0 < length l
some_length [] m = absurd (Memᴰ.not-nil m)
some_length (y ∷ l) m = omega arith

pub length_some {ℓ} : {A : Type ℓ} (l : List A) → 0 < length l → (x : A) × (x ∈ l)
length_some [] h = absurd (omega arith)
length_some (x ∷ l) h = (x, Memᴰ.head refl)

pub no_length {ℓ} : {A : Type ℓ} (l : List A) → length l ≡ 0 → l ≡ []
no_length [] e = refl
no_length (x ∷ l) e = absurd (omega arith)

pub no_element {ℓ} : {A : Type ℓ} (l : List A) → ((x : A) → x ∈ l → ⊥) → l ≡ []
no_element [] f = refl
no_element (x ∷ l) f = absurd (f x (Memᴰ.head refl))

-- two maps that agree on the list, and two maps that are equal lists
pub map_cong {ℓ κ} : {A : Type ℓ} {B : Type κ} (f g : A → B) (l : List A) → ((x : A) → x ∈ l → f x ≡ g x) → map f l ≡ map g l
map_cong f g [] h = refl
map_cong f g (x ∷ l) h = ap₂ ◌∷◌ (h x (Memᴰ.head refl)) (map_cong f g l (λ y m. h y (Memᴰ.tail m)))

module _ {ℓ} {A : Type ℓ} (p : A → Bool) where
  pub all_in : (l : List A) → T (all p l) → {x : A} → x ∈ l → T (p x)
  unfolding all
  all_in [] t x4 = elim x4 [ ]
  all_in (y ∷ l) t (Memᴰ.head e) = subst (λ z. T (p z)) (sym e) (and_T (p y) (all p l) t).0
  all_in (y ∷ l) t (Memᴰ.tail m) = all_in l (and_T (p y) (all p l) t).1 m

  pub in_all : (l : List A) → ((x : A) → x ∈ l → T (p x)) → T (all p l)
  unfolding all
  in_all [] f = tt
  in_all (y ∷ l) f = T_and (p y) (all p l) (f y (Memᴰ.head refl)) (in_all l (λ x m. f x (Memᴰ.tail m)))

pub all_cong {ℓ} : {A : Type ℓ} (p q : A → Bool) (l : List A) → ((x : A) → x ∈ l → p x ≡ q x) → all p l ≡ all q l
unfolding all
all_cong p q [] f = refl
all_cong p q (x ∷ l) f = ap₂ ◌&&◌ (f x (Memᴰ.head refl)) (all_cong p q l (λ y m. f y (Memᴰ.tail m)))

-- of tests that do not all pass, one fails
pub some_fails {ℓ} : {A : Type ℓ} (p : A → Bool) (l : List A) → T (not (all p l)) → (x : A) × (x ∈ l) × T (not (p x))
unfolding all
some_fails p [] t = absurd t
some_fails {A = A} p (x ∷ l) t = go (p x) refl (some_fails p l)
  where
    go : (b : Bool) → p x ≡ b → (T (not (all p l)) → (y : A) × (y ∈ l) × T (not (p y))) → (y : A) × (y ∈ x ∷ l) × T (not (p y))
    go true e ih = let (y, m, k) = ih (subst (λ b. T (not (b && all p l))) e t) in (y, Memᴰ.tail m, k)
    go false e ih = (x, Memᴰ.head refl, subst (λ b. T (not b)) (sym e) tt)

pub of_map_cong {ℓ κ} : {A : Type ℓ} {B : Type κ} (f g : A → B) (l : List A) → map f l ≡ map g l → {x : A} → x ∈ l → f x ≡ g x
of_map_cong {A = A} {B = B} f g [] e x4 = elim x4 [ ]
of_map_cong f g (y ∷ l) e (Memᴰ.head q) = ap f q ∙ head-eq_of_cons-eq e ∙ sym (ap g q)
of_map_cong f g (y ∷ l) e (Memᴰ.tail m) = of_map_cong f g l (tail-eq_of_cons-eq e) m

-- x is in the list, or no element equals it
pub in_or_none : (x : ℕ) (l : List ℕ) → (x ∈ l) ⊎ ((y : ℕ) → y ∈ l → y ≢ x)
in_or_none x [] = inr (λ y m. absurd (Memᴰ.not-nil m))
in_or_none x (z ∷ l) = go (ℕ_discrete x z) (in_or_none x l)
  where
    rest : x ≢ z → ((y : ℕ) → y ∈ l → y ≢ x) → (y : ℕ) → (y ≡ z) ⊎ (y ∈ l) → y ≢ x
    rest f g y (inl e) q = f (sym q ∙ e)
    rest f g y (inr m) q = g y m q

    go : Dec (x ≡ z) → (x ∈ l) ⊎ ((y : ℕ) → y ∈ l → y ≢ x) → (x ∈ z ∷ l) ⊎ ((y : ℕ) → y ∈ z ∷ l → y ≢ x)
    go (yes e) _ = inl (Memᴰ.head e)
    go (no f) (inl m) = inl (Memᴰ.tail m)
    go (no f) (inr g) = inr (λ y m. rest f g y (Memᴰ.cases_cons m))

pub each_append {ℓ κ} : {A : Type ℓ} {B : Type κ} (l m : List A) (f : A → List B) → each (l ++ m) f ≡ each l f ++ each m f
unfolding each
each_append [] m f = refl
each_append (x ∷ l) m f = ap (λ r. f x ++ r) (each_append l m f) ∙ sym (append_assoc (f x) (each l f) (each m f))

pub each_map {ℓ κ ι} : {A : Type ℓ} {B : Type κ} {C : Type ι} (l : List A) (f : A → B) (g : B → List C) → each (map f l) g ≡ each l (λ x. g (f x))
unfolding each
each_map [] f g = refl
each_map (x ∷ l) f g = ap (λ (t : List _). g (f x) ++ t) (each_map l f g)

pub map_each {ℓ κ ι} : {A : Type ℓ} {B : Type κ} {C : Type ι} (g : B → C) (l : List A) (f : A → List B) → map g (each l f) ≡ each l (λ x. map g (f x))
unfolding each
map_each g [] f = refl
map_each g (x ∷ l) f = map-append g (f x) (each l f) ∙ ap (λ (t : List _). map g (f x) ++ t) (map_each g l f)

pub each_below {ℓ} : {B : Type ℓ} (n : ℕ) (f : ℕ → List B) → each (below (suc n)) f ≡ each (below n) f ++ f n
unfolding below each
each_below n f = each_append (below n) (n ∷ []) f ∙ ap (λ r. each (below n) f ++ r) (append-nil (f n))

pub each_cong {ℓ κ} : {A : Type ℓ} {B : Type κ} (l : List A) (f g : A → List B) → ((x : A) → x ∈ l → f x ≡ g x) → each l f ≡ each l g
unfolding each
each_cong [] f g h = refl
each_cong (x ∷ l) f g h = ap₂ ◌++◌ (h x (Memᴰ.head refl)) (each_cong l f g (λ y m. h y (Memᴰ.tail m)))

-- an element by its place
pub get_d_in {ℓ} : {A : Type ℓ} (l : List A) (i : ℕ) (d : A) → i < length l → get_or l i d ∈ l
get_d_in [] i d h = absurd (omega arith)
get_d_in (x ∷ l) zero d h = Memᴰ.head refl
get_d_in (x ∷ l) (suc i) d h = Memᴰ.tail (get_d_in l i d (omega arith))

pub place_of {ℓ} : {A : Type ℓ} (l : List A) (d : A) {x : A} → x ∈ l → (i : ℕ) × (i < length l) × (x ≡ get_or l i d)
place_of {A = A} [] d x3 = elim x3 [ ]
place_of (y ∷ l) d (Memᴰ.head e) = (0, omega arith, e)
place_of (y ∷ l) d (Memᴰ.tail m) = let (i, h, e) = place_of l d m in (suc i, omega arith, e)

pub get_d_below {ℓ} : {B : Type ℓ} (f : ℕ → B) (n i : ℕ) (d : B) → i < n → get_or (map f (below n)) i d ≡ f i
unfolding below
get_d_below f zero i d h = absurd (omega arith)
get_d_below f (suc n) i d h = ap (λ l. get_or l i d) (map-append f (below n) (n ∷ [])) ∙ go (ℕ_discrete i n) (get_d_below f n i d)
  where
    long : length (map f (below n)) ≡ n
    long = length-map (below n) f ∙ count_below n

    go : Dec (i ≡ n) → (i < n → get_or (map f (below n)) i d ≡ f i) → get_or (map f (below n) ++ (f n ∷ [])) i d ≡ f i
    go (yes e) ih = rw e (get_or_at (map f (below n)) (f n) [] d n long)
    go (no g) ih = get_or-append (map f (below n)) (f n ∷ []) d i (omega (arith, long)) ∙ ih (omega arith)

pub below_at : (n i : ℕ) → i < n → get_or (below n) i 0 ≡ i
below_at n i h = rw (map-id (below n)) at (get_d_below (λ i. i) n i 0 h)

pub all_places {ℓ} : {A : Type ℓ} (p : A → Bool) (l : List A) (d : A) → ((i : ℕ) → i < length l → T (p (get_or l i d))) → T (all p l)
unfolding all
all_places p [] d f = tt
all_places p (x ∷ l) d f = T_and (p x) (all p l) (f 0 (omega arith)) (all_places p l d (λ i h. f (suc i) (omega arith)))

-- a list that is an element and others from place j on
module _ {A : Type 0} (l : List A) (j : ℕ) (d : A) {x : A} {t : List A} (e : drop j l ≡ x ∷ t) where
  drop_inside : j < length l
  drop_inside = omega (arith, ap length e, length-drop j l)

  pub drop_first : get_or l j d ≡ x
  drop_first = ap (λ (v : List A). get_or v 0 d) (sym (drop-cons l j d drop_inside) ∙ e)

  pub drop_others : drop (j + 1) l ≡ t
  drop_others = rw (add-one j) (ap (drop 1) (sym (drop-cons l j d drop_inside) ∙ e))

-- what holds of each number below j and of j
pub below_more : {P : ℕ → Type 0} {j : ℕ} → ((i : ℕ) → i < j → P i) → P j → (i : ℕ) → i < j + 1 → P i
below_more {P} {j} f x i h = go (ℕ_discrete i j)
  where
    go : Dec (i ≡ j) → P i
    go (yes e) = subst P (sym e) x
    go (no q) = f i (omega arith)

-- the first k elements, and what is made of them
pub of_take {ℓ} : {A : Type ℓ} (k : ℕ) (l : List A) {x : A} → x ∈ take k l → x ∈ l
of_take zero l m = absurd (Memᴰ.not-nil m)
of_take (suc k) [] m = m
of_take (suc k) (y ∷ l) (Memᴰ.head e) = Memᴰ.head e
of_take (suc k) (y ∷ l) (Memᴰ.tail m) = Memᴰ.tail (of_take k l m)

pub map_take {ℓ κ} : {A : Type ℓ} {B : Type κ} (f : A → B) (k : ℕ) (l : List A) → map f (take k l) ≡ take k (map f l)
map_take f zero l = refl
map_take f (suc k) [] = refl
map_take f (suc k) (x ∷ l) = ap (λ (m : List _). f x ∷ m) (map_take f k l)

-- a list of the same length for each element
pub length_each {ℓ κ} : {A : Type ℓ} {B : Type κ} (l : List A) (f : A → List B) (c : ℕ) → ((x : A) → length (f x) ≡ c) → length (each l f) ≡ length l * c
unfolding each
length_each [] f c h = omega arith
length_each (x ∷ l) f c h = length-append (f x) (each l f) ∙ omega (arith, h x, length_each l f c h)

-- of the numbers below n, one equals c
pub keep_one : (n c : ℕ) → c < n → keep (λ j. eqb j c) (below n) ≡ c ∷ []
unfolding below keep
keep_one zero c h = absurd (omega arith)
keep_one (suc n) c h = keep_append is (below n) (n ∷ []) ∙ go (keep_one n c) (ℕ_discrete n c)
  where
    is : ℕ → Bool
    is j = eqb j c

    none : n ≡ c → keep is (below n) ≡ []
    none e = no_element (keep is (below n)) (λ j m. let (k, t) = of_keep is (below n) m in omega (arith, below_lt n k, eqb→eq j c t))

    go : (c < n → keep is (below n) ≡ c ∷ []) → Dec (n ≡ c) → keep is (below n) ++ keep is (n ∷ []) ≡ c ∷ []
    go ih (yes e) = ap₂ ◌++◌ (none e) (keep_yes is n [] (eqb_yes n c e)) ∙ ap (λ (x : ℕ). x ∷ []) e
    go ih (no d) = ap₂ ◌++◌ (ih (omega arith)) (keep_no is n [] (not_T (eqb n c) (λ t. d (eqb→eq n c t))))

-- the numbers below n that pass a test, one by one
module _ (p : ℕ → Bool) (n : ℕ) where
  pub keep_more : T (p n) → keep p (below (suc n)) ≡ keep p (below n) ++ (n ∷ [])
  unfolding below keep
  keep_more t = keep_append p (below n) (n ∷ []) ∙ ap (λ (l : List ℕ). keep p (below n) ++ l) (keep_yes p n [] t)

  pub keep_same : T (not (p n)) → keep p (below (suc n)) ≡ keep p (below n)
  unfolding below keep
  keep_same t = keep_append p (below n) (n ∷ []) ∙ ap (λ (l : List ℕ). keep p (below n) ++ l) (keep_no p n [] t) ∙ append-nil (keep p (below n))

pub keep_true : (l : List ℕ) → keep (λ _. true) l ≡ l
unfolding keep
keep_true [] = refl
keep_true (x ∷ l) = ap (λ (m : List ℕ). x ∷ m) (keep_true l)

-- those before the i-th of them are the first i
pub keep_at : (p : ℕ → Bool) (n i : ℕ) → i < length (keep p (below n)) → keep p (below (get_or (keep p (below n)) i 0)) ≡ take i (keep p (below n))
unfolding below keep
keep_at p zero i h = absurd (omega arith)
keep_at p (suc n) i h = go (T_or_not (p n)) (keep_at p n i)
  where
    l : List ℕ
    l = keep p (below n)

    at_end : length l ≡ i → keep p (below (get_or (l ++ (n ∷ [])) i 0)) ≡ take i (l ++ (n ∷ []))
    at_end e = rw (get_or_at l n [] 0 i e) (sym (ap (λ (j : ℕ). take j (l ++ (n ∷ []))) (sym e) ∙ take-append_seam l (n ∷ [])))

    inner : Dec (i < length l) → i < length (l ++ (n ∷ [])) → (i < length l → keep p (below (get_or l i 0)) ≡ take i l)
        → keep p (below (get_or (l ++ (n ∷ [])) i 0)) ≡ take i (l ++ (n ∷ []))
    inner (yes k) _ ih = rw (get_or-append l (n ∷ []) 0 i k) (ih k ∙ sym (take-append-le i l (n ∷ []) (omega arith)))
    inner (no k) m _ = at_end (omega (arith, length-append l (n ∷ [])))

    go : T (p n) ⊎ T (not (p n)) → (i < length l → keep p (below (get_or l i 0)) ≡ take i l)
        → keep p (below (get_or (keep p (below (suc n))) i 0)) ≡ take i (keep p (below (suc n)))
    go (inl t) ih = rw (keep_more p n t) (inner (dec_lt i (length l)) (rw (← keep_more p n t) h) ih)
    go (inr t) ih = rw (keep_same p n t) (ih (rw (← keep_same p n t) h))
