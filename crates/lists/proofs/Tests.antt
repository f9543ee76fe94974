-- A test that computes, as a fact, and back.
use mathlib.Core.Path.{◌≡◌, refl, sym, subst}
use mathlib.Core.Bool.{Bool, true, false, not, cond, ◌&&◌, ◌||◌}
use mathlib.Core.Logic.{◌⊎◌, inl, inr, ◌≢◌}
use Prim.Native.Nat.{ℕ}
use lib.Dec.{T, eqb, eqb_refl, T_not}

pub T_true : {b : Bool} → T b → b ≡ true
T_true {b = true} t = refl
T_true {b = false} t = absurd t

pub true_T : {b : Bool} → b ≡ true → T b
true_T e = subst (λ (b : Bool). T b) (sym e) tt

pub T_false : {b : Bool} → T (not b) → b ≡ false
T_false {b = true} t = absurd t
T_false {b = false} t = refl

pub false_T : {b : Bool} → b ≡ false → T (not b)
false_T e = subst (λ (b : Bool). T (not b)) (sym e) tt

pub and_T : (a b : Bool) → T (a && b) → T a × T b
and_T true b t = (tt, t)
and_T false b t = absurd t

pub T_and : (a b : Bool) → T a → T b → T (a && b)
T_and true b s t = t
T_and false b s t = absurd s

pub or_first : {a : Bool} (b : Bool) → a ≡ true → a || b ≡ true
or_first b e = rw e

pub or_second : {a b t : Bool} → a ≡ false → b ≡ t → a || b ≡ t
or_second e q = rw e q

pub or_false : (b : Bool) → b || false ≡ b
or_false true = refl
or_false false = refl

pub or_T : (a b : Bool) → T (a || b) → T a ⊎ T b
or_T true b t = inl tt
or_T false b t = inr t

pub T_or_left : (a b : Bool) → T a → T (a || b)
T_or_left true b t = tt
T_or_left false b t = absurd t

pub T_or_right : (a b : Bool) → T b → T (a || b)
T_or_right true b t = tt
T_or_right false b t = t

pub or_none : (a b : Bool) → a || b ≡ false → (a ≡ false) × (b ≡ false)
or_none true b e = absurd (false_T {b = true} e)
or_none false b e = (refl, e)

pub T_or_not : (b : Bool) → T b ⊎ T (not b)
T_or_not true = inl tt
T_or_not false = inr tt

pub cond_elim {ℓ κ} : {A : Type ℓ} (c : Bool) (x y : A) (P : A → Type κ) → (T c → P x) → (T (not c) → P y) → P (cond c x y)
cond_elim true x y P f g = f tt
cond_elim false x y P f g = g tt

pub eqb_yes : (i j : ℕ) → i ≡ j → T (eqb i j)
eqb_yes i j e = subst (λ (x : ℕ). T (eqb i x)) e (eqb_refl i)

pub eqb_no : (i j : ℕ) → T (not (eqb i j)) → i ≢ j
eqb_no i j t e = T_not (eqb i j) t (eqb_yes i j e)

-- two tests that pass alike are equal
pub T_same : (a b : Bool) → (T a → T b) → (T b → T a) → a ≡ b
T_same true b f g = sym (T_true (f tt))
T_same false true f g = absurd (g tt)
T_same false false f g = refl
