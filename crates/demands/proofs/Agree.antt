-- A table of checks beside a table in words: the same numbers, and as long as no check before it holds, each check holds exactly if its
-- sentence does. And what is then answered.
use mathlib.Core.Path.{◌≡◌, refl, sym, ◌∙◌}
use mathlib.Core.Bool.{Bool, true, false, not, ◌&&◌, ◌||◌}
use mathlib.Core.Logic.{◌⊎◌, inl, inr, ◌≢◌, ◌↔◌}
use mathlib.Core.List.{List, [], ◌∷◌, ◌++◌}
use Prim.Native.Nat.{ℕ, suc, ◌<◌, ◌≤◌}
use native.Mathlib.Omega.{arith}
use lib.Dec.{T, T_not, not_T, eqb, eqb→eq, leb, ltb, leb→le, le→leb}
use lib.IntN.{ℤ}
use lib.Signed.{◌≤ℤ◌, le_z, le_z_yes}
use borrow.Author.Tests.{lt-ltb, ltb-true}
use Rattle.lists.specs.Lists.{◌∈◌, all}
use Rattle.lists.proofs.Tests.{and_T, T_and, or_T, T_or_left, T_or_right, T_true, true_T, eqb_yes, T_or_not}
use Rattle.lists.proofs.Lists.{all_in, in_all, some_fails}
use Rattle.integers.specs.Integers.{eq_z}
use Rattle.integers.proofs.Linear.{eq_z_yes, yes_eq_z}
use Rattle.answers.specs.Answers.{Answer, Answered, slots}
use Rattle.answers.proofs.Answers.{count_refused, slots_refused}
use Rattle.interface.specs.Refusals.{Check, first_of, none}
use Rattle.demands.specs.Tables.{Table, GivenFirst, NoneGiven, Judged}
use Rattle.demands.specs.TurnedAway.{JudgedBy}

-- a test and what it tests
pub record Says (b : Bool) (A : Type 0) : Type 0 where
  pub to : T b → A
  pub from : A → T b

pub says : {b : Bool} {A : Type 0} → T b ↔ A → Says b A
says (f, g) = record { to = f; from = g }

pub or_says : {a b : Bool} {A B : Type 0} → Says a A → Says b B → Says (a || b) (A ⊎ B)
or_says {a} {b} {A} {B} f g = record { to = λ t. go (or_T a b t); from = back }
  where
    go : T a ⊎ T b → A ⊎ B
    go (inl t) = inl (f.to t)
    go (inr t) = inr (g.to t)

    back : A ⊎ B → T (a || b)
    back (inl x) = T_or_left a b (f.from x)
    back (inr x) = T_or_right a b (g.from x)

pub and_says : {a b : Bool} {A B : Type 0} → Says a A → Says b B → Says (a && b) (A × B)
and_says {a} {b} f g = record {
  to = λ t. let (x, y) = and_T a b t in (f.to x, g.to y);
  from = λ (x, y). T_and a b (f.from x) (g.from y);
}

pub not_says : {a : Bool} {A : Type 0} → Says a A → Says (not a) (A → ⊥)
not_says {a} f = record { to = λ t x. T_not a t (f.from x); from = λ g. not_T a (λ t. g (f.to t)) }

-- of a test that passes exactly if A
pub denied : {b : Bool} {A : Type 0} → Says (not b) A → Says b (A → ⊥)
denied {b} {A} f = record { to = λ t x. T_not b (f.from x) t; from = λ g. go g (T_or_not b) }
  where
    go : (A → ⊥) → T b ⊎ T (not b) → T b
    go g (inl t) = t
    go g (inr t) = absurd (g (f.to t))

-- what is tested holds or not
pub decided : {a : Bool} {A : Type 0} → Says a A → A ⊎ (A → ⊥)
decided {a} {A} f = go (T_or_not a)
  where
    go : T a ⊎ T (not a) → A ⊎ (A → ⊥)
    go (inl t) = inl (f.to t)
    go (inr t) = inr ((not_says f).to t)

pub like : {a : Bool} {A B : Type 0} → Says a A → (A → B) → (B → A) → Says a B
like f g h = record { to = λ t. g (f.to t); from = λ x. f.from (h x) }

pub eq_says : (i j : ℕ) → Says (eqb i j) (i ≡ j)
eq_says i j = record { to = eqb→eq i j; from = eqb_yes i j }

pub le_says : (i j : ℕ) → Says (leb i j) (i ≤ j)
le_says i j = record { to = leb→le i j; from = le→leb i j }

pub lt_says : (i j : ℕ) → Says (ltb i j) (i < j)
lt_says i j = record { to = λ t. ltb-true i j (T_true t); from = λ h. true_T (lt-ltb i j h) }

pub eq_z_says : (a b : ℤ) → Says (eq_z a b) (a ≡ b)
eq_z_says a b = record { to = eq_z_yes a b; from = yes_eq_z a b }

pub le_z_says : (a b : ℤ) → Says (le_z a b) (a ≤ℤ b)
le_z_says a b = record { to = λ t. le_z_yes t; from = λ h. h.le }

-- of a list: every element, and one that fails
module _ {A : Type 0} {p : A → Bool} {P : A → Type 0} (f : (x : A) → Says (p x) (P x)) (l : List A) where
  pub all_says : Says (all p l) ((x : A) → x ∈ l → P x)
  all_says = record { to = λ t x m. (f x).to (all_in p l t m); from = λ g. in_all p l (λ x m. (f x).from (g x m)) }

  pub some_says : Says (not (all p l)) ((x : A) × (x ∈ l) × (P x → ⊥))
  some_says = record {
    to = λ t. let (x, m, n) = some_fails p l t in (x, m, (not_says (f x)).to n);
    from = λ (x, m, g). not_T (all p l) (λ t. g ((f x).to (all_in p l t m)));
  }

pub above : {k : ℕ} → k ≢ 0 → 0 < k
above f = omega arith

-- the two tables: the same numbers, none of which is 0
pub data Agree : List Check → Table → Type 1 where
  done : Agree [] []
  next : {k : ℕ} {b : Bool} {S : Type 0} {checks : List Check} {table : Table} → Says b S → (T (not b) → Agree checks table)
      → Agree ((suc k, b) ∷ checks) ((suc k, S) ∷ table)

pub agree_append : {l m : List Check} {t u : Table} → Agree l t → (T (none l) → Agree m u) → Agree (l ++ m) (t ++ u)
unfolding all
agree_append done g = g tt
agree_append {m = m} {u = u} (next {k} {b} {S} {checks} {table} s rest) g =
    next s (λ f. agree_append (rest f) (λ r. g (T_and (not b) (none checks) f r)))

pub agree_first : {l : List Check} {t : Table} → Agree l t → (k : ℕ) → 0 < k → (first_of l ≡ k) ↔ GivenFirst t k
unfolding first_of
agree_first done k h = (λ e. absurd (omega arith), λ x. absurd x)
agree_first (next {k = j} {b = true} {S} {checks} {table} s rest) k h = (λ e. inl (e, s.to tt), back)
  where
    back : ((suc j ≡ k) × S) ⊎ ((S → ⊥) × GivenFirst table k) → suc j ≡ k
    back (inl (e, _)) = e
    back (inr (f, _)) = absurd (f (s.to tt))
agree_first (next {k = j} {b = false} {S} {checks} {table} s rest) k h =
    let ih = agree_first (rest tt) k h in
    (λ e. inr (λ x. s.from x, ih.0 e), back ih)
  where
    back : (first_of checks ≡ k) ↔ GivenFirst table k → ((suc j ≡ k) × S) ⊎ ((S → ⊥) × GivenFirst table k) → first_of checks ≡ k
    back ih (inl (_, x)) = absurd (s.from x)
    back ih (inr (_, x)) = ih.1 x

pub agree_none : {l : List Check} {t : Table} → Agree l t → (first_of l ≡ 0) ↔ NoneGiven t
unfolding first_of
agree_none done = (λ e. tt, λ x. refl)
agree_none (next {b = true} s rest) = (λ e. absurd (omega arith), λ (f, _). absurd (f (s.to tt)))
agree_none (next {b = false} {S} {checks} {table} s rest) =
    let ih = agree_none (rest tt) in
    (λ e. (λ x. s.from x, ih.0 e), λ (_, x). ih.1 x)

-- no condition holds exactly if no sentence does
pub agree_tests : {l : List Check} {t : Table} → Agree l t → T (none l) ↔ NoneGiven t
unfolding all
agree_tests done = (λ _. tt, λ _. tt)
agree_tests (next {b = true} s rest) = (λ t. absurd t, λ (f, _). absurd (f (s.to tt)))
agree_tests (next {b = false} s rest) = let ih = agree_tests (rest tt) in (λ t. (λ x. s.from x, ih.0 t), λ (_, x). ih.1 x)

-- a number that a table of checks gives, and what a refusal leaves
pub judged : {l : List Check} {t : Table} {number : ℕ} {Nothing : Type 0} → Agree l t → number ≡ first_of l → (number ≢ 0 → Nothing) → Judged t number Nothing
judged a e nothing = record {
  refused = λ k h. let f = agree_first a k h in (λ q. f.0 (sym e ∙ q), λ x. e ∙ f.1 x);
  taken = let f = agree_none a in (λ q. f.0 (sym e ∙ q), λ x. e ∙ f.1 x);
  nothing = nothing;
}

-- a call whose checks give the number of its answer, and which writes a result to one slice
pub judged_by : {l : List Check} {t : Table} {A : Type 0} {r : Answer} {lent after : List A} → Agree l t → (c : ℕ) (result : List A)
    → Answered (first_of l) c r → after ≡ slots (first_of l) result lent → JudgedBy t r lent after
judged_by {l} {r = r} {lent = lent} a c result e w = judged a e.number λ f.
    let h : 0 < first_of l = above (λ z. f (e.number ∙ z)) in (w ∙ slots_refused (first_of l) result lent h, count_refused r f)

-- tables in words, one behind the other
pub none_both : (t u : Table) → NoneGiven t → NoneGiven u → NoneGiven (t ++ u)
none_both [] u x y = y
none_both ((k, S) ∷ t) u (f, x) y = (f, none_both t u x y)

pub given_behind : (t u : Table) (k : ℕ) → NoneGiven t → GivenFirst u k → GivenFirst (t ++ u) k
given_behind [] u k x y = y
given_behind ((j, S) ∷ t) u k (f, x) y = inr (f, given_behind t u k x y)

-- the sentence that stands under a number, the first of them; no number is given: it does not hold
abbrev pub Either : Bool → Type 0 → Type 0 → Type 0
Either true S R = S
Either false S R = R

unfoldable pub Under : ℕ → Table → Type 0
Under k [] = ⊥
Under k ((number, S) ∷ table) = Either (eqb number k) S (Under k table)

pub denied_under : (k : ℕ) (table : Table) → NoneGiven table → Under k table → ⊥
unfolding Under
denied_under k [] x s = s
denied_under k ((number, S) ∷ table) (f, x) s = go (eqb number k) s (denied_under k table x)
  where
    go : (b : Bool) → Either b S (Under k table) → (Under k table → ⊥) → ⊥
    go true s ih = f s
    go false s ih = ih s
