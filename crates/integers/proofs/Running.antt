-- A loop over the numbers below n that pass a test, as a fold; the running least and greatest.
use mathlib.Core.Path.{◌≡◌, refl, sym, ap, ◌∙◌}
use mathlib.Core.Bool.{Bool, true, false}
use mathlib.Core.List.Memᴰ
use mathlib.Core.List.{List, [], ◌∷◌, map, foldl, foldl-append, foldl-map}
use Prim.Native.Nat.{ℕ, zero, suc, ◌+◌, ◌^◌, ◌≤◌, ◌<◌}
use native.Mathlib.Omega.{arith}
use native.Mathlib.Numerals.{add-one}
use lib.IntN.{ℤ}
use lib.Signed.{◌≤ℤ◌, le_z, mag}
use lib.ListN.{length, take, get_or}
use lib.Seq.{take-suc}
use mir.Syntax.{w64}
use mir.Val.{of_z, to_z, hbits}
use Rattle.lists.specs.Lists.{◌∈◌, below, each, keep}
use Rattle.lists.proofs.Tests.{true_T, false_T, cond_elim}
use Rattle.lists.proofs.Lists.{in_map, keep_append, keep_yes, keep_no}
use Rattle.integers.specs.Integers.{min_z, max_z, least, greatest}
use Rattle.integers.proofs.Linear.{zarith}
use Rattle.integers.proofs.Held.{Held, held_value, held_result, held_equal}
use Rattle.integers.proofs.Least.{min_left, min_right, max_left, max_right, least_le, greatest_ge}

-- one turn: x passes, or x is passed over; or there is no test
pub turn_all {ℓ} : {S : Type ℓ} (op : S → ℕ → S) (z : S) (x : ℕ) → foldl op z (below (x + 1)) ≡ op (foldl op z (below x)) x
unfolding below
turn_all op z x = rw (add-one x) (foldl-append op z (below x) (x ∷ []))

module _ {ℓ} {S : Type ℓ} (op : S → ℕ → S) (z : S) (p : ℕ → Bool) (x : ℕ) where
  turn : {l : List ℕ} → keep p (x ∷ []) ≡ l → foldl op z (keep p (below (x + 1))) ≡ foldl op (foldl op z (keep p (below x))) l
  unfolding below
  turn e = rw (add-one x, keep_append p (below x) (x ∷ []), e) (foldl-append op z (keep p (below x)) _)

  pub turn_yes : p x ≡ true → foldl op z (keep p (below (x + 1))) ≡ op (foldl op z (keep p (below x))) x
  unfolding keep
  turn_yes e = turn (keep_yes p x [] (true_T e))

  pub turn_no : p x ≡ false → foldl op z (keep p (below (x + 1))) ≡ foldl op z (keep p (below x))
  unfolding keep
  turn_no e = turn (keep_no p x [] (false_T e))

-- a fold over lists one after the other
pub foldl_each {ℓ κ μ} : {S : Type ℓ} {A : Type κ} {B : Type μ} (op : S → B → S) (f : A → List B) (z : S) (l : List A)
    → foldl op z (each l f) ≡ foldl (λ z x. foldl op z (f x)) z l
unfolding each
foldl_each op f z [] = refl
foldl_each op f z (x ∷ l) = foldl-append op z (f x) (each l f) ∙ foldl_each op f (foldl op z (f x)) l

-- two folds that take the same steps, on the list or on every element
pub foldl_same : {S X : Type 0} (f g : S → X → S) (l : List X) → ((s : S) (x : X) → x ∈ l → f s x ≡ g s x) → (s : S) → foldl f s l ≡ foldl g s l
foldl_same f g [] h s = refl
foldl_same {S} f g (x ∷ l) h s = ap (λ (s : S). foldl f s l) (h s x (Memᴰ.head refl)) ∙ foldl_same f g l (λ s y m. h s y (Memᴰ.tail m)) (g s x)

pub foldl_cong : {S X : Type 0} (f g : S → X → S) → ((s : S) (x : X) → f s x ≡ g s x) → (s : S) (l : List X) → foldl f s l ≡ foldl g s l
foldl_cong f g h s l = foldl_same f g l (λ s x _. h s x) s

-- a fold by places
pub foldl_at : {S : Type 0} (f : S → ℕ → S) (l : List ℕ) (z : S) (i : ℕ) → i ≤ length l → foldl (λ z j. f z (get_or l j 0)) z (below i) ≡ foldl f z (take i l)
unfolding below
foldl_at f l z zero h = refl
foldl_at {S} f l z (suc i) h =
    foldl-append (λ z j. f z (get_or l j 0)) z (below i) (i ∷ [])
    ∙ ap (λ (s : S). f s (get_or l i 0)) (foldl_at f l z i (omega arith))
    ∙ sym (ap (foldl f z) (take-suc l i 0 h) ∙ foldl-append f z (take i l) (get_or l i 0 ∷ []))

pub min_above : {a b c : ℤ} → c ≤ℤ a → c ≤ℤ b → c ≤ℤ min_z a b
unfolding min_z
min_above {a} {b} {c} h k = cond_elim (le_z a b) a b (λ z. c ≤ℤ z) (λ _. h) (λ _. k)

pub max_below : {a b c : ℤ} → a ≤ℤ c → b ≤ℤ c → max_z a b ≤ℤ c
unfolding max_z
max_below {a} {b} {c} h k = cond_elim (le_z a b) b a (λ z. z ≤ℤ c) (λ _. k) (λ _. h)

-- a choice between two numbers, and that of a list: a fold makes it from the front
module _ (op : ℤ → ℤ → ℤ) (assoc : (a b c : ℤ) → op (op a b) c ≡ op a (op b c)) (top : List ℤ → ℤ)
    (one : (x : ℤ) → top (x ∷ []) ≡ x) (more : (x y : ℤ) (l : List ℤ) → top (x ∷ y ∷ l) ≡ op x (top (y ∷ l))) where
  first_two : (x y : ℤ) (l : List ℤ) → top (op x y ∷ l) ≡ op x (top (y ∷ l))
  first_two x y [] = one (op x y) ∙ ap (op x) (sym (one y))
  first_two x y (w ∷ l) = more (op x y) w l ∙ assoc x y (top (w ∷ l)) ∙ ap (op x) (sym (more y w l))

  running : (z : ℤ) (l : List ℤ) → foldl op z l ≡ top (z ∷ l)
  running z [] = sym (one z)
  running z (x ∷ l) = running (op z x) l ∙ first_two z x l ∙ sym (more z x l)

min_assoc : (a b c : ℤ) → min_z (min_z a b) c ≡ min_z a (min_z b c)
min_assoc a b c = let l = min_left (min_z a b) c in
    let r = min_right a (min_z b c) in
    let h = min_left a (min_z b c) in
    let k = min_right (min_z a b) c in
    let fore : min_z (min_z a b) c ≤ℤ min_z a (min_z b c) = min_above (omega (zarith, min_left a b)) (min_above (omega (zarith, min_right a b)) k) in
    let rear : min_z a (min_z b c) ≤ℤ min_z (min_z a b) c = min_above (min_above h (omega (zarith, min_left b c))) (omega (zarith, min_right b c)) in
    omega zarith

max_assoc : (a b c : ℤ) → max_z (max_z a b) c ≡ max_z a (max_z b c)
max_assoc a b c = let l = max_left (max_z a b) c in
    let r = max_right a (max_z b c) in
    let h = max_left a (max_z b c) in
    let k = max_right (max_z a b) c in
    let fore : max_z (max_z a b) c ≤ℤ max_z a (max_z b c) = max_below (max_below h (omega (zarith, max_left b c))) (omega (zarith, max_right b c)) in
    let rear : max_z a (max_z b c) ≤ℤ max_z (max_z a b) c = max_below (omega (zarith, max_left a b)) (max_below (omega (zarith, max_right a b)) k) in
    omega zarith

-- from a start that one of the numbers reaches, a running least is their least, and a running greatest their greatest
module _ (f : ℕ → ℤ) (z : ℤ) where
  pub running_least : (l : List ℕ) {x : ℕ} → x ∈ l → f x ≤ℤ z → foldl (λ m x. min_z m (f x)) z l ≡ least (map f l)
  unfolding least
  running_least [] m h = elim m [ ]
  running_least (y ∷ l) m h =
      let k = least_le (map f (y ∷ l)) (in_map f m) in
      let b : least (map f (y ∷ l)) ≤ℤ min_z z (least (map f (y ∷ l))) = min_above (omega zarith) (omega zarith) in
      sym (foldl-map f min_z (y ∷ l) z) ∙ running min_z min_assoc least (λ x. refl) (λ x y l. refl) z (map f (y ∷ l))
      ∙ omega (zarith, min_right z (least (map f (y ∷ l))))

  pub running_greatest : (l : List ℕ) {x : ℕ} → x ∈ l → z ≤ℤ f x → foldl (λ m x. max_z m (f x)) z l ≡ greatest (map f l)
  unfolding greatest
  running_greatest [] m h = elim m [ ]
  running_greatest (y ∷ l) m h =
      let k = greatest_ge (map f (y ∷ l)) (in_map f m) in
      let b : max_z z (greatest (map f (y ∷ l))) ≤ℤ greatest (map f (y ∷ l)) = max_below (omega zarith) (omega zarith) in
      sym (foldl-map f max_z (y ∷ l) z) ∙ running max_z max_assoc greatest (λ x. refl) (λ x y l. refl) z (map f (y ∷ l))
      ∙ omega (zarith, max_right z (greatest (map f (y ∷ l))))

-- A loop's local with what a choice between two numbers, from a start, has made of f y for the y below x that pass p.
pub record Run (op : ℤ → ℤ → ℤ) (start : ℤ) (p : ℕ → Bool) (f : ℕ → ℤ) (x b : ℕ) : Type 0 where
  pub held : Held w64 b (foldl (λ m y. op m (f y)) start (keep p (below x)))

module _ {op : ℤ → ℤ → ℤ} {start : ℤ} {p : ℕ → Bool} {f : ℕ → ℤ} where
  pub run_start : {b : ℕ} → Held w64 b start → Run op start p f 0 b
  unfolding below keep
  run_start h = record { held = h }

  module _ {x b b' : ℕ} (r : Run op start p f x b) where
    pub run_yes : p x ≡ true → {z : ℤ} → b' ≡ of_z w64 z → mag z < 2 ^ hbits w64 → z ≡ op (to_z w64 b) (f x) → Run op start p f (x + 1) b'
    run_yes t q ok e = record { held = held_result q ok (e ∙ ap (λ m. op m (f x)) (held_value r.held) ∙ sym (turn_yes (λ m y. op m (f y)) start p x t)) }

    pub run_no : p x ≡ false → b' ≡ b → Run op start p f (x + 1) b'
    run_no t q = record { held = held_equal r.held q (sym (turn_no (λ m y. op m (f y)) start p x t)) }

module _ {start : ℤ} {p : ℕ → Bool} {f : ℕ → ℤ} {n b y : ℕ} (m : y ∈ keep p (below n)) where
  pub run_least : Run min_z start p f n b → f y ≤ℤ start → to_z w64 b ≡ least (map f (keep p (below n)))
  run_least r h = held_value r.held ∙ running_least f start (keep p (below n)) m h

  pub run_greatest : Run max_z start p f n b → start ≤ℤ f y → to_z w64 b ≡ greatest (map f (keep p (below n)))
  run_greatest r h = held_value r.held ∙ running_greatest f start (keep p (below n)) m h
