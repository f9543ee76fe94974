-- Lists in which no element stands twice: which these are, and how many elements there can be.
use mathlib.Core.Path.{◌≡◌, refl, sym, ap, ◌∙◌, subst}
use mathlib.Core.Bool.{Bool, true, false, cond}
use mathlib.Core.Logic.{◌≢◌, ◌⊎◌, inl, inr}
use mathlib.Core.List.Memᴰ
use mathlib.Core.List.{
  List,
  [],
  ◌∷◌,
  ◌++◌,
  map,
}
use Prim.Native.Nat.{ℕ, zero, suc, ◌≤◌}
use native.Mathlib.Omega.{arith}
use lib.Dec.{eqb, eqb→eq}
use lib.ListN.{length, length-append, take}
use Rattle.lists.specs.Lists.{◌∈◌, below, each, keep, erase, Distinct}
use Rattle.lists.proofs.Tests.{true_T, false_T, eqb_no}
use Rattle.lists.proofs.Lists.{below_lt, of_each, of_map, of_keep, of_take}

pub of_erase : (x : ℕ) (l : List ℕ) {y : ℕ} → y ∈ erase x l → y ∈ l
unfolding erase
of_erase x [] m = m
of_erase x (z ∷ l) {y} m = go (eqb z x) (of_erase x l) m
  where
    at : (y ∈ erase x l → y ∈ l) → (y ≡ z) ⊎ (y ∈ erase x l) → y ∈ z ∷ l
    at ih (inl e) = Memᴰ.head e
    at ih (inr m) = Memᴰ.tail (ih m)

    go : (b : Bool) → (y ∈ erase x l → y ∈ l) → y ∈ cond b l (z ∷ erase x l) → y ∈ z ∷ l
    go true ih m = Memᴰ.tail m
    go false ih m = at ih (Memᴰ.cases_cons m)

pub in_erase : (x : ℕ) (l : List ℕ) {y : ℕ} → y ≢ x → y ∈ l → y ∈ erase x l
unfolding erase
in_erase x [] {y = y} ne m = elim m [ ]
in_erase x (z ∷ l) {y} ne m = go (eqb z x) refl (in_erase x l ne) (Memᴰ.cases_cons m)
  where
    go : (b : Bool) → eqb z x ≡ b → (y ∈ l → y ∈ erase x l) → (y ≡ z) ⊎ (y ∈ l) → y ∈ cond b l (z ∷ erase x l)
    go true e ih (inl q) = absurd (ne (q ∙ eqb→eq z x (true_T e)))
    go true e ih (inr m) = m
    go false e ih (inl q) = Memᴰ.head q
    go false e ih (inr m) = Memᴰ.tail (ih m)

pub length_erase : (x : ℕ) (l : List ℕ) → x ∈ l → suc (length (erase x l)) ≡ length l
unfolding erase
length_erase x [] m = elim m [ ]
length_erase x (z ∷ l) m = go (eqb z x) refl (length_erase x l) (Memᴰ.cases_cons m)
  where
    go : (b : Bool) → eqb z x ≡ b → (x ∈ l → suc (length (erase x l)) ≡ length l) → (x ≡ z) ⊎ (x ∈ l) → suc (length (cond b l (z ∷ erase x l))) ≡ suc (length l)
    go true e ih _ = refl
    go false e ih (inl q) = absurd (eqb_no z x (false_T e) (sym q))
    go false e ih (inr m) = ap suc (ih m)

-- where x stands in l, an element of any type: between these two parts, which are the list with one x less
pub record Place {ℓ} {A : Type ℓ} (x : A) (l : List A) : Type ℓ where
  pub front : List A
  pub back : List A
  pub split : l ≡ front ++ (x ∷ back)

module _ {ℓ} {A : Type ℓ} where
  abbrev pub rest : {x : A} {l : List A} → Place x l → List A
  rest p = p.front ++ p.back

  pub placed : {x : A} (l : List A) → x ∈ l → Place x l
  placed [] x'' = elim x'' [ ]
  placed (z ∷ l) (Memᴰ.head e) = record { front = []; back = l; split = ap (λ (w : A). w ∷ l) (sym e) }
  placed (z ∷ l) (Memᴰ.tail h) = let p = placed l h in record { front = z ∷ p.front; back = p.back; split = ap (λ (m : List A). z ∷ m) p.split }

  length_rest : {x : A} {l : List A} (p : Place x l) → suc (length (rest p)) ≡ length l
  length_rest {x} p = omega (arith, length-append p.front p.back, length-append p.front (x ∷ p.back), ap length p.split)

  in_rest : {x : A} {l : List A} (p : Place x l) {y : A} → y ∈ l → (y ≡ x) ⊎ (y ∈ rest p)
  in_rest {x} p {y} m = go (Memᴰ.append_cases p.front (subst (λ (k : List A). y ∈ k) p.split m))
    where
      behind : (y ≡ x) ⊎ (y ∈ p.back) → (y ≡ x) ⊎ (y ∈ rest p)
      behind (inl e) = inl e
      behind (inr h) = inr (Memᴰ.append_right p.front h)

      go : (y ∈ p.front) ⊎ (y ∈ x ∷ p.back) → (y ≡ x) ⊎ (y ∈ rest p)
      go (inl h) = inr (Memᴰ.append_left p.back h)
      go (inr h) = behind (Memᴰ.cases_cons h)

  -- distinct elements that are all in m, without the first of them: all in m with one x less
  pub inside_rest : {x : A} {l m : List A} → Distinct (x ∷ l) → ((y : A) → y ∈ x ∷ l → y ∈ m) → (p : Place x m) → (y : A) → y ∈ l → y ∈ rest p
  inside_rest {x} d f p y h = go (in_rest p (f y (Memᴰ.tail h)))
    where
      go : (y ≡ x) ⊎ (y ∈ rest p) → y ∈ rest p
      go (inl e) = absurd (d.0 (Memᴰ.cast (sym e) h))
      go (inr n) = n

  -- distinct elements of l that are all in m are no more than m has
  pub pigeonhole : (l m : List A) → Distinct l → ((x : A) → x ∈ l → x ∈ m) → length l ≤ length m
  pigeonhole [] m d f = omega arith
  pigeonhole (x ∷ l) m d f =
      let p = placed m (f x (Memᴰ.head refl)) in
      omega (arith, length_rest p, pigeonhole l (rest p) d.1 (inside_rest d f p))

  -- lists of which no element stands twice: of two that share none, what a test keeps, the first ones
  distinct_append : (l m : List A) → Distinct l → Distinct m → ((x : A) → x ∈ l → x ∈ m → ⊥) → Distinct (l ++ m)
  distinct_append [] m d e f = e
  distinct_append (x ∷ l) m d e f = (λ h. go (Memᴰ.append_cases l h), distinct_append l m d.1 e (λ y h k. f y (Memᴰ.tail h) k))
    where
      go : (x ∈ l) ⊎ (x ∈ m) → ⊥
      go (inl h) = d.0 h
      go (inr h) = f x (Memᴰ.head refl) h

  pub distinct_keep : (p : A → Bool) (l : List A) → Distinct l → Distinct (keep p l)
  unfolding keep
  distinct_keep p [] d = tt
  distinct_keep p (x ∷ l) d = go (p x) (distinct_keep p l d.1)
    where
      go : (b : Bool) → Distinct (keep p l) → Distinct (cond b (x ∷ keep p l) (keep p l))
      go true ih = (λ h. d.0 (of_keep p l h).0, ih)
      go false ih = ih

  pub distinct_take : (k : ℕ) (l : List A) → Distinct l → Distinct (take k l)
  distinct_take zero l d = tt
  distinct_take (suc k) [] d = tt
  distinct_take (suc k) (x ∷ l) d = (λ h. d.0 (of_take k l h), distinct_take k l d.1)

pub distinct_below : (n : ℕ) → Distinct (below n)
unfolding below
distinct_below zero = tt
distinct_below (suc n) =
    distinct_append (below n) (n ∷ []) (distinct_below n) (λ h. Memᴰ.not-nil h, tt) (λ x h k. omega (arith, below_lt n h, Memᴰ.eq_of_singleton k))

-- what a function makes of distinct elements, if it makes different ones of different ones; and lists one after the other, if no two share an
-- element
module _ {ℓ κ} {A : Type ℓ} {B : Type κ} where
  pub distinct_map : (f : A → B) → ((x y : A) → f x ≡ f y → x ≡ y) → (l : List A) → Distinct l → Distinct (map f l)
  distinct_map f inj [] d = tt
  distinct_map f inj (x ∷ l) d = (λ h. let (y, m, e) = of_map f l h in d.0 (Memᴰ.cast (inj x y e) m), distinct_map f inj l d.1)

  pub distinct_each : (f : A → List B) → ((x : A) → Distinct (f x)) → ((x y : A) (z : B) → z ∈ f x → z ∈ f y → x ≡ y)
      → (l : List A) → Distinct l → Distinct (each l f)
  unfolding each
  distinct_each f each-one apart [] d = tt
  distinct_each f each-one apart (x ∷ l) d =
      distinct_append (f x) (each l f) (each-one x) (distinct_each f each-one apart l d.1) (λ z h k.
      let (y, m, n) = of_each l f k in d.0 (Memᴰ.cast (apart x y z h n) m))

-- what a function makes of x and y, x in a list and y in one for each x, if both can be told from it
pub distinct_pairs {ℓ κ ι} : {A : Type ℓ} {B : Type κ} {C : Type ι} (f : A → B → C) (left : C → A) (right : C → B)
    → ((x : A) (y : B) → left (f x y) ≡ x) → ((x : A) (y : B) → right (f x y) ≡ y)
    → (l : List A) → Distinct l → (m : A → List B) → ((x : A) → Distinct (m x)) → Distinct (each l λ x. map (f x) (m x))
distinct_pairs {A = A} {C = C} f left right is_left is_right l d m e = distinct_each (λ x. map (f x) (m x))
    (λ x. distinct_map (f x) (λ y z q. sym (is_right x y) ∙ ap right q ∙ is_right x z) (m x) (e x))
    (λ x y z h k. sym (told x z h) ∙ told y z k) l d
  where
    told : (x : A) (z : C) → z ∈ map (f x) (m x) → left z ≡ x
    told x z h = let (y, _, q) = of_map (f x) (m x) h in ap left q ∙ is_left x y
