-- A table of checks. "Each number is given if and only if its line holds and none before it does."
use mathlib.Core.Path.{◌≡◌, refl, sym, ◌∙◌}
use mathlib.Core.Bool.{Bool, true, false, not, cond, ◌&&◌}
use mathlib.Core.Logic.{◌≢◌, ◌↔◌}
use mathlib.Core.List.{List, [], ◌∷◌, ◌++◌}
use Prim.Native.Nat.{ℕ, ◌≤◌, ◌<◌}
use native.Mathlib.Omega.{arith}
use borrow.Author.Tests.{eqb-true, eqb-false, leb-false, ltb-false, eq-eqb, ne_eqb, not-false}
use lib.Dec.{T, eqb, leb, ltb, leb→le}
use lib.IntN.{ℤ}
use lib.ListN.{length}
use Rattle.lists.specs.Lists.{all}
use Rattle.lists.proofs.Tests.{and_T, cond_elim, eqb_no, or_none}
use Rattle.clusters.specs.PairList.{row_start, has_length}
use Rattle.answers.specs.declared.Refusal.{Refusal}
use Rattle.answers.specs.Answers.{number}
use Rattle.answers.proofs.Answers.{number_above}
use Rattle.interface.specs.Refusals.{Check, first_of, none, most_entries, wrong_count, wrong_anchor, wrong_entries}

-- down the table l, which gives r
pub record Gives (l : List (ℕ × Bool)) (r : ℕ) : Type 0 where
  pub is : r ≡ first_of l

pub gives : {l : List (ℕ × Bool)} {r : ℕ} → Gives l r → r ≡ first_of l
gives g = g.is

pub first_yes : {k : ℕ} {b : Bool} {l : List (ℕ × Bool)} → b ≡ true → Gives ((k, b) ∷ l) k
unfolding first_of
first_yes e = record { is = rw e }

pub first_no : {k r : ℕ} {b : Bool} {l : List (ℕ × Bool)} → b ≡ false → Gives l r → Gives ((k, b) ∷ l) r
unfolding first_of
first_no e g = record { is = rw e g.is }

pub no_more : Gives [] 0
unfolding first_of
no_more = record { is = refl }

-- the number given is one of the table's, or 0
pub first_le : (k : ℕ) (checks : List (ℕ × Bool)) → T (all (λ c. leb c.0 k) checks) → first_of checks ≤ k
unfolding first_of all
first_le k [] t = omega arith
first_le k (c ∷ checks) t =
    let (h, r) = and_T (leb c.0 k) (all (λ c. leb c.0 k) checks) t in
    cond_elim c.1 c.0 (first_of checks) (λ (j : ℕ). j ≤ k) (λ _. leb→le c.0 k h) (λ _. first_le k checks r)

-- what checks 6 and 10 leave
pub some_count : (n : ℕ) → wrong_count n ≡ false → 1 ≤ n
unfolding wrong_count
some_count n e = let f = eqb-false n 0 (or_none (eqb n 0) (ltb most_entries n) e).0 in omega arith

pub few_count : (n : ℕ) → wrong_count n ≡ false → n ≤ most_entries
unfolding wrong_count
few_count n e = ltb-false most_entries n (or_none (eqb n 0) (ltb most_entries n) e).1

-- the number as the code knows it
pub right_count : (n : ℕ) → wrong_count n ≡ false → n ≤ 32
unfolding most_entries
right_count n e = few_count n e

pub right_length : (n : ℕ) (l : List ℤ) → not (has_length n l) ≡ false → length l ≡ row_start n
unfolding has_length
right_length n l e = eqb-true (length l) (row_start n) (not-false (has_length n l) e)

-- and what check 15 leaves of two entry numbers
pub right_entries : (n i j : ℕ) → wrong_entries n i j ≡ false → (i < n) × (j < n)
unfolding wrong_entries wrong_anchor
right_entries n i j e = let (p, q) = or_none (leb n i) (leb n j) e in (leb-false n i p, leb-false n j q)

-- no number of the table is 0
abbrev pub numbered : List (ℕ × Bool) → Bool
numbered checks = all (λ c. not (eqb c.0 0)) checks

-- no number is given exactly if none of the conditions holds
pub first_none : (checks : List (ℕ × Bool)) → T (numbered checks) → (first_of checks ≡ 0) ↔ T (none checks)
unfolding first_of all
first_none [] t = (λ e. tt, λ u. refl)
first_none (c ∷ checks) t = go c.0 c.1 t (first_none checks)
  where
    go : (m : ℕ) (b : Bool) → T (not (eqb m 0) && numbered checks)
        → (T (numbered checks) → (first_of checks ≡ 0) ↔ T (none checks)) → (cond b m (first_of checks) ≡ 0) ↔ T (not b && none checks)
    go m true t ih = (λ e. eqb_no m 0 (and_T (not (eqb m 0)) (numbered checks) t).0 e, λ u. absurd u)
    go m false t ih = ih (and_T (not (eqb m 0)) (numbered checks) t).1

-- the condition that stands under a number, the first of them
unfoldable pub under : ℕ → List (ℕ × Bool) → Bool
under k [] = false
under k ((number, holds) ∷ checks) = cond (eqb number k) holds (under k checks)

-- no number is given: no condition under a number holds
pub passes : (k : ℕ) (checks : List (ℕ × Bool)) → T (numbered checks) → first_of checks ≡ 0 → T (not (under k checks))
unfolding under all
passes k checks t e = none_under k checks ((first_none checks t).0 e)
  where
    go : (same holds other : Bool) → T (not holds) → T (not other) → T (not (cond same holds other))
    go true holds other t u = t
    go false holds other t u = u

    none_under : (k : ℕ) (checks : List (ℕ × Bool)) → T (none checks) → T (not (under k checks))
    none_under k [] t = tt
    none_under k (c ∷ checks) t =
        let (h, r) = and_T (not c.1) (none checks) t in
        go (eqb c.0 k) c.1 (under k checks) h (none_under k checks r)

-- two tables, one behind the other
pub none_append : (l m : List (ℕ × Bool)) → T (none (l ++ m)) ↔ (T (none l) × T (none m))
unfolding all
none_append [] m = (λ t. (tt, t), λ (_, u). u)
none_append (c ∷ l) m = go c.1 (none_append l m)
  where
    go : (b : Bool) → T (none (l ++ m)) ↔ (T (none l) × T (none m)) → T (not b && none (l ++ m)) ↔ (T (not b && none l) × T (none m))
    go true ih = (λ t. absurd t, λ (t, _). absurd t)
    go false ih = ih

pub first_append : (l m : List (ℕ × Bool)) → T (numbered l) → first_of (l ++ m) ≡ cond (eqb (first_of l) 0) (first_of m) (first_of l)
unfolding first_of all
first_append [] m t = refl
first_append (c ∷ l) m t = go c.0 c.1 (and_T (not (eqb c.0 0)) (numbered l) t) (first_append l m)
  where
    go : (k : ℕ) (b : Bool) → T (not (eqb k 0)) × T (numbered l) → (T (numbered l) → first_of (l ++ m) ≡ cond (eqb (first_of l) 0) (first_of m) (first_of l))
        → cond b k (first_of (l ++ m)) ≡ cond (eqb (cond b k (first_of l)) 0) (first_of m) (cond b k (first_of l))
    go k true (h, t) ih = rw (ne_eqb k 0 (eqb_no k 0 h))
    go k false (h, t) ih = ih t

-- down the first table, which gives k: k is given, or the second is gone down
module _ (l m : List (ℕ × Bool)) {k : ℕ} (t : T (numbered l)) (e : k ≡ first_of l) where
  pub first_front : (k ≡ 0 → ⊥) → Gives (l ++ m) k
  first_front f = record { is = sym (first_append l m t ∙ rw (sym e, ne_eqb k 0 f)) }

  pub first_back : {r : ℕ} → k ≡ 0 → Gives m r → Gives (l ++ m) r
  first_back z g = record { is = g.is ∙ sym (first_append l m t ∙ rw (sym e, eq-eqb k 0 z)) }

-- the same of a refusal that the checks of the first table gave, and of none
module _ (l m : List (ℕ × Bool)) (t : T (numbered l)) where
  pub refused_front : (e : Refusal) → number e ≡ first_of l → number e ≡ first_of (l ++ m)
  refused_front e h = gives (first_front l m t h (λ z. let a = number_above e in omega (arith, a, z)))

  pub passed_back : {r : ℕ} → 0 ≡ first_of l → Gives m r → r ≡ first_of (l ++ m)
  passed_back h g = gives (first_back l m t h refl g)

-- a number that does not stand in a table is not given
abbrev pub apart : ℕ → List Check → Bool
apart k checks = all (λ c. not (eqb c.0 k)) checks

pub never : (k : ℕ) (checks : List Check) → 0 < k → T (apart k checks) → first_of checks ≢ k
unfolding first_of all
never k [] h t e = absurd (omega arith)
never k (c ∷ checks) h t e = go c.0 c.1 t e (never k checks h)
  where
    go : (m : ℕ) (b : Bool) → T (not (eqb m k) && apart k checks) → cond b m (first_of checks) ≡ k → (T (apart k checks) → first_of checks ≡ k → ⊥) → ⊥
    go m true t e ih = eqb_no m k (and_T (not (eqb m k)) (apart k checks) t).0 e
    go m false t e ih = ih (and_T (not (eqb m k)) (apart k checks) t).1 e

-- one that stands once is given exactly if its condition holds and none before it does
pub first_at : (k : ℕ) → 0 < k → (before : List Check) (holds : Bool) (after : List Check) → T (apart k before) → T (apart k after)
    → (first_of (before ++ ((k, holds) ∷ after)) ≡ k) ↔ (T (none before) × T holds)
unfolding first_of all
first_at k h [] true after t u = (λ _. (tt, tt), λ _. refl)
first_at k h [] false after t u = (λ e. absurd (never k after h u e), λ (_, f). absurd f)
first_at k h (c ∷ before) holds after t u = go c.0 c.1 t (λ v. first_at k h before holds after v u)
  where
    rest : ℕ
    rest = first_of (before ++ ((k, holds) ∷ after))

    go : (m : ℕ) (b : Bool) → T (not (eqb m k) && apart k before) → (T (apart k before) → (rest ≡ k) ↔ (T (none before) × T holds))
        → (cond b m rest ≡ k) ↔ (T (not b && none before) × T holds)
    go m true t ih = (λ e. absurd (eqb_no m k (and_T (not (eqb m k)) (apart k before) t).0 e), λ (f, _). absurd f)
    go m false t ih = ih (and_T (not (eqb m k)) (apart k before) t).1
