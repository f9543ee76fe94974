-- Laws of the least and the greatest.
use mathlib.Core.Path.{◌≡◌, refl, sym, ap, ◌∙◌, subst}
use mathlib.Core.Logic.{◌⊎◌, inl, inr}
use mathlib.Core.List.Memᴰ
use mathlib.Core.List.{List, [], ◌∷◌, map}
use Prim.Native.Nat.{ℕ}
use lib.IntN.{ℤ, pos}
use lib.Signed.{◌≤ℤ◌, le_z, ≤ℤ_refl, le_z_yes}
use Rattle.lists.specs.Lists.{◌∈◌, each}
use Rattle.lists.proofs.Tests.{cond_elim}
use Rattle.lists.proofs.Lists.{in_each, of_each, in_map, of_map}
use Rattle.integers.specs.Integers.{min_z, max_z, least, greatest}
use Rattle.integers.proofs.Linear.{zarith, le_z_no}

pub min_left : (a b : ℤ) → min_z a b ≤ℤ a
unfolding min_z
min_left a b = cond_elim (le_z a b) a b (λ z. z ≤ℤ a) (λ t. ≤ℤ_refl a) (λ t. let k = le_z_no {a = a} {b = b} t in omega zarith)

pub min_right : (a b : ℤ) → min_z a b ≤ℤ b
unfolding min_z
min_right a b = cond_elim (le_z a b) a b (λ z. z ≤ℤ b) (λ t. le_z_yes t) (λ t. ≤ℤ_refl b)

pub max_left : (a b : ℤ) → a ≤ℤ max_z a b
unfolding max_z
max_left a b = cond_elim (le_z a b) b a (λ z. a ≤ℤ z) (λ t. le_z_yes t) (λ t. ≤ℤ_refl a)

pub max_right : (a b : ℤ) → b ≤ℤ max_z a b
unfolding max_z
max_right a b = cond_elim (le_z a b) b a (λ z. b ≤ℤ z) (λ t. ≤ℤ_refl b) (λ t. let k = le_z_no {a = a} {b = b} t in omega zarith)

pub min_is : (a b : ℤ) → (min_z a b ≡ a) ⊎ (min_z a b ≡ b)
unfolding min_z
min_is a b = cond_elim (le_z a b) a b (λ z. (z ≡ a) ⊎ (z ≡ b)) (λ t. inl refl) (λ t. inr refl)

pub max_is : (a b : ℤ) → (max_z a b ≡ a) ⊎ (max_z a b ≡ b)
unfolding max_z
max_is a b = cond_elim (le_z a b) b a (λ z. (z ≡ a) ⊎ (z ≡ b)) (λ t. inr refl) (λ t. inl refl)

-- What is taken from a list by a choice between two: one argument for the least and the greatest. R a b says that a is chosen before b,
-- or as well.
record Choice (m : ℤ → ℤ → ℤ) (R : ℤ → ℤ → Type 0) : Type 0 where
  itself : (a : ℤ) → R a a
  left : (a b : ℤ) → R (m a b) a
  right : (a b : ℤ) → R (m a b) b
  one : (a b : ℤ) → (m a b ≡ a) ⊎ (m a b ≡ b)
  trans : (a b c : ℤ) → R a b → R b c → R a c
  both : (a b : ℤ) → R a b → R b a → a ≡ b

chosen : (ℤ → ℤ → ℤ) → List ℤ → ℤ
chosen m [] = pos 0
chosen m (x ∷ []) = x
chosen m (x ∷ y ∷ l) = m x (chosen m (y ∷ l))

module _ (m : ℤ → ℤ → ℤ) (R : ℤ → ℤ → Type 0) (c : Choice m R) where
  chosen_first : (l : List ℤ) {z : ℤ} → z ∈ l → R (chosen m l) z
  unfolding chosen
  chosen_first [] {z = z} x' = elim x' [ ]
  chosen_first (x ∷ []) {z} (Memᴰ.head e) = subst (R x) (sym e) (c.itself x)
  chosen_first (x ∷ []) (Memᴰ.tail h) = absurd (Memᴰ.not-nil h)
  chosen_first (x ∷ y ∷ l) {z} (Memᴰ.head e) = subst (R (m x (chosen m (y ∷ l)))) (sym e) (c.left x (chosen m (y ∷ l)))
  chosen_first (x ∷ y ∷ l) {z} (Memᴰ.tail h) =
      c.trans (m x (chosen m (y ∷ l))) (chosen m (y ∷ l)) z (c.right x (chosen m (y ∷ l))) (chosen_first (y ∷ l) h)

  -- of a list with an element, it is an element
  chosen_in : (x : ℤ) (l : List ℤ) → chosen m (x ∷ l) ∈ (x ∷ l)
  unfolding chosen
  chosen_in x [] = Memᴰ.head refl
  chosen_in x (y ∷ l) = go (chosen_in y l) (c.one x (chosen m (y ∷ l)))
    where
      go : chosen m (y ∷ l) ∈ (y ∷ l) → (m x (chosen m (y ∷ l)) ≡ x) ⊎ (m x (chosen m (y ∷ l)) ≡ chosen m (y ∷ l)) → m x (chosen m (y ∷ l)) ∈ (x ∷ y ∷ l)
      go ih (inl e) = Memᴰ.head e
      go ih (inr e) = Memᴰ.tail (Memᴰ.cast e ih)

  chosen_same : (l k : List ℤ) → ((z : ℤ) → z ∈ l → z ∈ k) → ((z : ℤ) → z ∈ k → z ∈ l) → chosen m l ≡ chosen m k
  chosen_same [] [] f g = refl
  chosen_same [] (y ∷ k) f g = absurd (Memᴰ.not-nil (g y (Memᴰ.head refl)))
  chosen_same (x ∷ l) [] f g = absurd (Memᴰ.not-nil (f x (Memᴰ.head refl)))
  chosen_same (x ∷ l) (y ∷ k) f g = c.both (chosen m (x ∷ l)) (chosen m (y ∷ k))
      (chosen_first (x ∷ l) (g (chosen m (y ∷ k)) (chosen_in y k))) (chosen_first (y ∷ k) (f (chosen m (x ∷ l)) (chosen_in x l)))

  -- in either order
  chosen_before : (a b : ℤ) → R (m a b) (m b a)
  chosen_before a b = go (c.one b a)
    where
      go : (m b a ≡ b) ⊎ (m b a ≡ a) → R (m a b) (m b a)
      go (inl e) = subst (R (m a b)) (sym e) (c.right a b)
      go (inr e) = subst (R (m a b)) (sym e) (c.left a b)

  chosen_comm : (a b : ℤ) → m a b ≡ m b a
  chosen_comm a b = c.both (m a b) (m b a) (chosen_before a b) (chosen_before b a)

smaller : Choice min_z ◌≤ℤ◌
smaller = record { itself = ≤ℤ_refl; left = min_left; right = min_right; one = min_is; trans = λ a b c h k. omega zarith; both = λ a b h k. omega zarith }

larger : Choice max_z (λ a b. b ≤ℤ a)
larger = record { itself = ≤ℤ_refl; left = max_left; right = max_right; one = max_is; trans = λ a b c h k. omega zarith; both = λ a b h k. omega zarith }

pub min_comm : (a b : ℤ) → min_z a b ≡ min_z b a
min_comm = chosen_comm min_z ◌≤ℤ◌ smaller

pub max_comm : (a b : ℤ) → max_z a b ≡ max_z b a
max_comm = chosen_comm max_z (λ a b. b ≤ℤ a) larger

least_is : (l : List ℤ) → least l ≡ chosen min_z l
unfolding least chosen
least_is [] = refl
least_is (x ∷ []) = refl
least_is (x ∷ y ∷ l) = ap (min_z x) (least_is (y ∷ l))

greatest_is : (l : List ℤ) → greatest l ≡ chosen max_z l
unfolding greatest chosen
greatest_is [] = refl
greatest_is (x ∷ []) = refl
greatest_is (x ∷ y ∷ l) = ap (max_z x) (greatest_is (y ∷ l))

pub least_le : (l : List ℤ) {z : ℤ} → z ∈ l → least l ≤ℤ z
least_le l h = rw (least_is l) (chosen_first min_z ◌≤ℤ◌ smaller l h)

pub greatest_ge : (l : List ℤ) {z : ℤ} → z ∈ l → z ≤ℤ greatest l
greatest_ge l h = rw (greatest_is l) (chosen_first max_z (λ a b. b ≤ℤ a) larger l h)

-- of a list with an element, both are elements
pub least_of : (l : List ℤ) {z : ℤ} → z ∈ l → least l ∈ l
least_of [] {z = z} h = elim h [ ]
least_of (x ∷ l) h = Memᴰ.cast (least_is (x ∷ l)) (chosen_in min_z ◌≤ℤ◌ smaller x l)

pub greatest_of : (l : List ℤ) {z : ℤ} → z ∈ l → greatest l ∈ l
greatest_of [] {z = z} h = elim h [ ]
greatest_of (x ∷ l) h = Memᴰ.cast (greatest_is (x ∷ l)) (chosen_in max_z (λ a b. b ≤ℤ a) larger x l)

-- two lists with the same numbers have one least and one greatest
pub least_same : (l k : List ℤ) → ((z : ℤ) → z ∈ l → z ∈ k) → ((z : ℤ) → z ∈ k → z ∈ l) → least l ≡ least k
least_same l k f g = least_is l ∙ chosen_same min_z ◌≤ℤ◌ smaller l k f g ∙ sym (least_is k)

pub greatest_same : (l k : List ℤ) → ((z : ℤ) → z ∈ l → z ∈ k) → ((z : ℤ) → z ∈ k → z ∈ l) → greatest l ≡ greatest k
greatest_same l k f g = greatest_is l ∙ chosen_same max_z (λ a b. b ≤ℤ a) larger l k f g ∙ sym (greatest_is k)

-- the least of the leasts
pub least_each : (l : List ℕ) (f : ℕ → List ℤ) → ((x : ℕ) → x ∈ l → (z : ℤ) × (z ∈ f x)) → {x : ℕ} → x ∈ l → least (map (λ x. least (f x)) l) ≡ least (each l f)
least_each l f some {x} m =
    let up_to_lem = of_map (λ x. least (f x)) l (least_of (map (λ x. least (f x)) l) (in_map (λ x. least (f x)) m)) in
    let y = up_to_lem.0 in
    let a = least_le (each l f) (in_each f up_to_lem.1 (least_of (f y) (some y up_to_lem.1).1)) in
    let r = of_each l f (least_of (each l f) (in_each f m (some x m).1)) in
    let b = least_le (f r.0) r.2 in
    let c = least_le (map (λ x. least (f x)) l) (in_map (λ x. least (f x)) r.1) in
    omega (zarith, up_to_lem.2)

-- a least of 1 or more is the least of some number
pub least_some : (l : List ℤ) → pos 1 ≤ℤ least l → (z : ℤ) × (z ∈ l)
unfolding least
least_some [] h = absurd h.le
least_some (z ∷ l) h = (z, Memᴰ.head refl)
