-- Laws of finite sums.
use mathlib.Core.Path.{◌≡◌, refl, sym, ap, ap₂, ◌∙◌, subst, subst₂}
use mathlib.Core.Bool.{Bool, true, false, cond}
use mathlib.Core.Logic.{◌⊎◌, inl, inr, ◌≢◌}
use mathlib.Core.List.Memᴰ
use mathlib.Core.List.{List, [], ◌∷◌, ◌++◌, map}
use Prim.Native.Nat.{ℕ, ◌<◌}
use lib.IntN.{ℤ, pos, ◌+ℤ◌, ◌-ℤ◌, ◌*ℤ◌, +ℤ_idl, +ℤ_idr, +ℤ_assoc, +ℤ_comm, suc_ℤ-*ℤ, zero-*ℤ, *ℤ-zero}
use lib.Signed.{◌≤ℤ◌, ◌<ℤ◌, ≤ℤ_refl, le_z, le_z_yes}
use lib.Dec.{T, eqb, eqb→eq}
use lib.ListN.{length}
use Rattle.lists.specs.Lists.{◌∈◌, below, each, keep, erase, Distinct}
use Rattle.lists.proofs.Tests.{true_T, false_T, eqb_no}
use Rattle.lists.proofs.Lists.{keep_one}
use Rattle.lists.proofs.Distinct.{in_erase, Place, rest, placed, inside_rest}
use Rattle.integers.specs.Integers.{sum_of}
use Rattle.integers.proofs.Linear.{up, dn, zarith, +at, four, four_sub, *_add, le_z_no}

module _ {ℓ} {A : Type ℓ} where
  pub sum_cong : (l : List A) (f g : A → ℤ) → ((x : A) → x ∈ l → f x ≡ g x) → sum_of l f ≡ sum_of l g
  unfolding sum_of
  sum_cong [] f g h = refl
  sum_cong (x ∷ l) f g h = ap₂ ◌+ℤ◌ (h x (Memᴰ.head refl)) (sum_cong l f g (λ y m. h y (Memᴰ.tail m)))

  pub sum_mono : (l : List A) (f g : A → ℤ) → ((x : A) → x ∈ l → f x ≤ℤ g x) → sum_of l f ≤ℤ sum_of l g
  unfolding sum_of
  sum_mono [] f g h = ≤ℤ_refl (pos 0)
  sum_mono (x ∷ l) f g h =
      omega (zarith, h x (Memᴰ.head refl), sum_mono l f g (λ y m. h y (Memᴰ.tail m)), +at (f x) (sum_of l f), +at (g x) (sum_of l g))

  pub sum_add : (l : List A) (f g : A → ℤ) → sum_of l (λ x. f x +ℤ g x) ≡ sum_of l f +ℤ sum_of l g
  unfolding sum_of
  sum_add [] f g = refl
  sum_add (x ∷ l) f g = ap (λ z. (f x +ℤ g x) +ℤ z) (sum_add l f g) ∙ four (f x) (g x) (sum_of l f) (sum_of l g)

  pub sum_sub : (l : List A) (f g : A → ℤ) → sum_of l (λ x. f x -ℤ g x) ≡ sum_of l f -ℤ sum_of l g
  unfolding sum_of
  sum_sub [] f g = refl
  sum_sub (x ∷ l) f g = ap (λ z. (f x -ℤ g x) +ℤ z) (sum_sub l f g) ∙ four_sub (f x) (g x) (sum_of l f) (sum_of l g)

  pub sum_zero : (l : List A) → sum_of l (λ x. pos 0) ≡ pos 0
  unfolding sum_of
  sum_zero [] = refl
  sum_zero (x ∷ l) = +ℤ_idl (sum_of l (λ x. pos 0)) ∙ sum_zero l

  pub sum_const : (l : List A) (z : ℤ) → sum_of l (λ x. z) ≡ pos (length l) *ℤ z
  unfolding sum_of
  sum_const [] z = sym (zero-*ℤ z)
  sum_const (x ∷ l) z = ap (λ y. z +ℤ y) (sum_const l z) ∙ +ℤ_comm z (pos (length l) *ℤ z) ∙ sym (suc_ℤ-*ℤ (pos (length l)) z)

  pub sum_scale : (l : List A) (c : ℤ) (f : A → ℤ) → sum_of l (λ x. c *ℤ f x) ≡ c *ℤ sum_of l f
  unfolding sum_of
  sum_scale [] c f = sym (*ℤ-zero c)
  sum_scale (x ∷ l) c f = ap (λ z. c *ℤ f x +ℤ z) (sum_scale l c f) ∙ sym (*_add c (f x) (sum_of l f))

  pub sum_append : (l m : List A) (f : A → ℤ) → sum_of (l ++ m) f ≡ sum_of l f +ℤ sum_of m f
  unfolding sum_of
  sum_append [] m f = sym (+ℤ_idl (sum_of m f))
  sum_append (x ∷ l) m f = ap (λ z. f x +ℤ z) (sum_append l m f) ∙ sym (+ℤ_assoc (f x) (sum_of l f) (sum_of m f))

  pub sum_keep : (p : A → Bool) (l : List A) (f : A → ℤ) → sum_of (keep p l) f ≡ sum_of l (λ x. cond (p x) (f x) (pos 0))
  unfolding sum_of keep
  sum_keep p [] f = refl
  sum_keep p (x ∷ l) f = go (p x) (sum_keep p l f)
    where
      go : (b : Bool) → sum_of (keep p l) f ≡ sum_of l (λ x. cond (p x) (f x) (pos 0))
          → sum_of (cond b (x ∷ keep p l) (keep p l)) f ≡ cond b (f x) (pos 0) +ℤ sum_of l (λ x. cond (p x) (f x) (pos 0))
      go true e = ap (λ z. f x +ℤ z) e
      go false e = e ∙ sym (+ℤ_idl (sum_of l (λ x. cond (p x) (f x) (pos 0))))

module _ {ℓ κ} {A : Type ℓ} {B : Type κ} where
  pub sum_swap : (l : List A) (m : List B) (f : A → B → ℤ) → sum_of l (λ x. sum_of m (f x)) ≡ sum_of m (λ y. sum_of l (λ x. f x y))
  unfolding sum_of
  sum_swap [] m f = sym (sum_zero m)
  sum_swap (x ∷ l) m f = ap (λ z. sum_of m (f x) +ℤ z) (sum_swap l m f) ∙ sym (sum_add m (f x) (λ y. sum_of l (λ x. f x y)))

  pub sum_each : (l : List A) (f : A → List B) (g : B → ℤ) → sum_of (each l f) g ≡ sum_of l (λ x. sum_of (f x) g)
  unfolding sum_of each
  sum_each [] f g = refl
  sum_each (x ∷ l) f g = sum_append (f x) (each l f) g ∙ ap (λ z. sum_of (f x) g +ℤ z) (sum_each l f g)

  pub sum_map : (h : A → B) (l : List A) (g : B → ℤ) → sum_of (map h l) g ≡ sum_of l (λ x. g (h x))
  unfolding sum_of
  sum_map h [] g = refl
  sum_map h (x ∷ l) g = ap (λ z. g (h x) +ℤ z) (sum_map h l g)

-- a sum above 0 has a summand above 0
pub some_pos {ℓ} : {X : Type ℓ} (l : List X) (f : X → ℤ) → pos 0 <ℤ sum_of l f → (x : X) × (x ∈ l) × (pos 0 <ℤ f x)
unfolding sum_of up dn
some_pos [] f h = absurd h.lt
some_pos {X} (x ∷ l) f h = go (le_z (f x) (pos 0)) refl (some_pos l f)
  where
    go : (b : Bool) → le_z (f x) (pos 0) ≡ b → (pos 0 <ℤ sum_of l f → (y : X) × (y ∈ l) × (pos 0 <ℤ f y)) → (y : X) × (y ∈ x ∷ l) × (pos 0 <ℤ f y)
    go true e ih =
        let k : f x ≤ℤ pos 0 = le_z_yes (true_T e) in
        let r = ih (omega (zarith, +at (f x) (sum_of l f))) in (r.0, Memᴰ.tail r.1, r.2)
    go false e ih = (x, Memᴰ.head refl, le_z_no (false_T e))

pub sum_nonneg {ℓ} : {X : Type ℓ} (l : List X) (f : X → ℤ) → ((x : X) → x ∈ l → pos 0 ≤ℤ f x) → pos 0 ≤ℤ sum_of l f
sum_nonneg l f h = subst (λ z. z ≤ℤ sum_of l f) (sum_zero l) (sum_mono l (λ x. pos 0) f h)

pub sum_erase : (U : ℕ) (bs : List ℕ) (f : ℕ → ℤ) → U ∈ bs → sum_of bs f ≡ f U +ℤ sum_of (erase U bs) f
unfolding erase sum_of
sum_erase U [] f m = elim m [ ]
sum_erase U (C ∷ bs) f m = go (eqb C U) refl (sum_erase U bs f) (Memᴰ.cases_cons m)
  where
    go : (b : Bool) → eqb C U ≡ b → (U ∈ bs → sum_of bs f ≡ f U +ℤ sum_of (erase U bs) f) → (U ≡ C) ⊎ (U ∈ bs)
        → f C +ℤ sum_of bs f ≡ f U +ℤ sum_of (cond b bs (C ∷ erase U bs)) f
    go true e ih _ = ap (λ (x : ℕ). f x +ℤ sum_of bs f) (eqb→eq C U (true_T e))
    go false e ih (inl q) = absurd (eqb_no C U (false_T e) (sym q))
    go false e ih (inr m) =
        omega (zarith, ih m, +at (f C) (sum_of bs f), +at (f U) (sum_of (erase U bs) f), +at (f C) (sum_of (erase U bs) f), +at (f U) (f C +ℤ sum_of (erase U bs) f))

-- of elements of any type: one summand taken out of its place; and distinct elements that are all in l, which have at most the sum of l, with no
-- summand below 0
module _ {ℓ} {X : Type ℓ} where
  sum_rest : {x : X} {l : List X} (p : Place x l) (f : X → ℤ) → sum_of l f ≡ f x +ℤ sum_of (rest p) f
  unfolding sum_of
  sum_rest {x} {l} p f = end (f x) (sum_of p.front f) (sum_of p.back f) (sum_of (rest p) f) (sum_of l f)
      (ap (λ (k : List X). sum_of k f) p.split ∙ sum_append p.front (x ∷ p.back) f) (sum_append p.front p.back f)
    where
      end : (a u w r s : ℤ) → s ≡ u +ℤ (a +ℤ w) → r ≡ u +ℤ w → s ≡ a +ℤ r
      end a u w r s d e = omega (zarith, +at a w, +at u (a +ℤ w), +at u w, +at a r)

  pub sum_inside : (m l : List X) → Distinct m → ((x : X) → x ∈ m → x ∈ l) → (f : X → ℤ) → ((x : X) → pos 0 ≤ℤ f x) → sum_of m f ≤ℤ sum_of l f
  unfolding sum_of
  sum_inside [] l d i f nn = sum_nonneg l f (λ x _. nn x)
  sum_inside (x ∷ m) l d i f nn =
      let p = placed l (i x (Memᴰ.head refl)) in
      omega (zarith, sum_rest p f, sum_inside m (rest p) d.1 (inside_rest d i p) f nn, +at (f x) (sum_of m f), +at (f x) (sum_of (rest p) f))

-- summands above 0, one or more of them, have a sum above 0
pub sum_pos {ℓ} : {X : Type ℓ} (l : List X) (f : X → ℤ) → ((x : X) → x ∈ l → pos 0 <ℤ f x) → {x : X} → x ∈ l → pos 0 <ℤ sum_of l f
unfolding sum_of up dn
sum_pos {X = X} [] f h m = elim m [ ]
sum_pos (y ∷ l) f h m =
    let k = h y (Memᴰ.head refl) in
    let r = sum_nonneg l f (λ x m. let p = h x (Memᴰ.tail m) in omega zarith) in
    omega (zarith, +at (f y) (sum_of l f))

-- fewer summands, each at most as great, and none left out below 0
pub sum_keep_le {ℓ} : {X : Type ℓ} (p q : X → Bool) (l : List X) (f g : X → ℤ) → ((x : X) → x ∈ l → T (p x) → T (q x)) → ((x : X) → f x ≤ℤ g x)
    → ((x : X) → pos 0 ≤ℤ g x)
    → sum_of (keep p l) f ≤ℤ sum_of (keep q l) g
sum_keep_le {X} p q l f g sub le nn =
    subst₂ ◌≤ℤ◌ (sym (sum_keep p l f)) (sym (sum_keep q l g))
    (sum_mono l (λ x. cond (p x) (f x) (pos 0)) (λ x. cond (q x) (g x) (pos 0)) (λ x m. at x (p x) (q x) (sub x m)))
  where
    at : (x : X) (b c : Bool) → (T b → T c) → cond b (f x) (pos 0) ≤ℤ cond c (g x) (pos 0)
    at x true true h = le x
    at x true false h = absurd (h tt)
    at x false true h = nn x
    at x false false h = ≤ℤ_refl (pos 0)

-- one summand more at the end
pub sum_snoc {ℓ} : {X : Type ℓ} (l : List X) (x : X) (f : X → ℤ) → sum_of (l ++ (x ∷ [])) f ≡ sum_of l f +ℤ f x
unfolding sum_of
sum_snoc l x f = sum_append l (x ∷ []) f ∙ ap (λ z. sum_of l f +ℤ z) (+ℤ_idr (f x))

-- of the numbers below n, that which equals c
pub sum_one : (n c : ℕ) → c < n → (f : ℕ → ℤ) → sum_of (below n) (λ j. cond (eqb j c) (f j) (pos 0)) ≡ f c
unfolding sum_of
sum_one n c h f = sym (sum_keep (λ j. eqb j c) (below n) f) ∙ ap (λ l. sum_of l f) (keep_one n c h) ∙ +ℤ_idr (f c)

-- two different elements taken out
pub sum_two : (U W : ℕ) (bs : List ℕ) (f : ℕ → ℤ) → U ∈ bs → W ∈ bs → U ≢ W → sum_of bs f ≡ (f U +ℤ f W) +ℤ sum_of (erase U (erase W bs)) f
sum_two U W bs f hu hw ne =
    end (f U) (f W) (sum_of (erase U (erase W bs)) f) (sum_of (erase W bs) f) (sum_of bs f) (sum_erase W bs f hw)
    (sum_erase U (erase W bs) f (in_erase W bs ne hu))
  where
    end : (u w r e b : ℤ) → b ≡ w +ℤ e → e ≡ u +ℤ r → b ≡ (u +ℤ w) +ℤ r
    end u w r e b p q = omega (zarith, +at w e, +at u r, +at u w, +at (u +ℤ w) r)

-- two sums of which no two terms at the same place add up to more than 0
pub sums_opposed : (l : List ℕ) (f g : ℕ → ℤ) → ((x : ℕ) → (f x +ℤ g x) ≤ℤ pos 0) → (sum_of l f +ℤ sum_of l g) ≤ℤ pos 0
sums_opposed l f g h = subst₂ ◌≤ℤ◌ (sum_add l f g) (sum_zero l) (sum_mono l (λ x. f x +ℤ g x) (λ x. pos 0) (λ x _. h x))
