-- The two searches in a result: what the first one finds, and that both find the same in a rising one.
use mathlib.Core.Path.{◌≡◌, refl, sym, ap, ap₂, ◌∙◌, subst}
use mathlib.Core.Bool.{Bool, true, false, not, cond, ◌&&◌}
use mathlib.Core.Logic.{◌⊎◌, inl, inr, ◌≢◌}
use mathlib.Core.List.Memᴰ
use mathlib.Core.List.{
  List,
  [],
  ◌∷◌,
  ◌++◌,
}
use Prim.Native.Nat.{ℕ, zero, suc, ◌+◌, ◌≤◌, ◌<◌}
use native.Mathlib.Decide.{ℕ_discrete}
use native.Mathlib.Numerals.{add-one}
use native.Mathlib.Omega.{arith}
use lib.Dec.{T, eqb, ltb, ltb→lt, eqb→eq, T_not}
use lib.ListN.{length, drop, get_or, length-append, drop_of_length-le}
use lib.Seq.{get_or_at, drop-cons}
use Rattle.lists.specs.Lists.{◌∈◌, all, Distinct}
use Rattle.lists.proofs.Tests.{and_T, T_and, or_T, true_T, false_T, cond_elim}
use Rattle.lists.proofs.Lists.{all_in, get_d_in}
use Rattle.sets.specs.Sets.{◌∋◌, size, Subset}
use Rattle.sets.proofs.Subsets.{subset_size}
use Rattle.clusters.specs.Groups.{Before, Rising}
use Rattle.clusters.specs.Nesting.{first_from, replaces, smallest_from, OnLine}
use Rattle.clusters.specs.declared.Hit.{Hit}
use Rattle.clusters.proofs.Groups.{before_size, rising_append}
use Rattle.clusters.proofs.Hierarchies.{Hierarchy, common_nested, chain}

-- no set of the list passes
abbrev pub none_passes : (ℕ → Bool) → List ℕ → Bool
none_passes test l = all (λ A. not (test A)) l

-- hit is the first set of l that passes, on its line
pub record First (test : ℕ → Bool) (line : ℕ) (l : List ℕ) (hit : Hit) : Type 0 where
  pub before : List ℕ
  pub after : List ℕ
  pub parts : l ≡ before ++ (hit.set ∷ after)
  pub place : hit.line ≡ line + length before
  pub passes : T (test hit.set)
  pub passed : T (none_passes test before)

-- what a search finds: that, or nothing
abbrev pub Outcome : (ℕ → Bool) → ℕ → ℕ → List ℕ → Hit → Type 0
Outcome test other line l hit = First test line l hit ⊎ ((hit ≡ record { set = other; line = 0 }) × T (none_passes test l))

pub first_cases : (test : ℕ → Bool) (other line : ℕ) (l : List ℕ) → Outcome test other line l (first_from test other line l)
unfolding first_from all
first_cases test other line [] = inr (refl, tt)
first_cases test other line (A ∷ l) = go (test A) refl (first_cases test other (suc line) l)
  where
    rest : Hit
    rest = first_from test other (suc line) l

    go : (b : Bool) → test A ≡ b → Outcome test other (suc line) l rest
        → First test line (A ∷ l) (cond b (record { set = A; line = line }) rest)
        ⊎ ((cond b (record { set = A; line = line }) rest ≡ record { set = other; line = 0 }) × T (not b && none_passes test l))
    go true e _ = inl (record { before = []; after = l; parts = refl; place = omega arith; passes = true_T e; passed = tt })
    go false e (inl r) = inl (record {
      before = A ∷ r.before;
      after = r.after;
      parts = ap (λ m. A ∷ m) r.parts;
      place = omega (arith, r.place);
      passes = r.passes;
      passed = T_and (not (test A)) (none_passes test r.before) (false_T e) r.passed;
    })
    go false e (inr r) = inr r

-- the hit is an element, and stands on its line
module _ {test : ℕ → Bool} {l : List ℕ} {hit : Hit} where
  pub first_in : {line : ℕ} → First test line l hit → hit.set ∈ l
  first_in r = subst (λ m. hit.set ∈ m) (sym r.parts) (Memᴰ.append_right r.before (Memᴰ.head refl))

  pub first_line_lem : First test 1 l hit → OnLine l hit.line hit.set
  first_line_lem r = subst (λ (k : ℕ). OnLine l k hit.set) (sym place) (
    omega (arith, ap length r.parts, length-append r.before (hit.set ∷ r.after)),
    ap (λ m. get_or m (length r.before) 0) r.parts ∙ get_or_at r.before hit.set r.after 0 (length r.before) refl,
  )
    where
      place : hit.line ≡ suc (length r.before)
      place = omega (arith, r.place)

-- a set stands on one line only
distinct_place : (l : List ℕ) → Distinct l → (i j : ℕ) → i < length l → j < length l → get_or l i 0 ≡ get_or l j 0 → i ≡ j
distinct_place [] d i j h k e = absurd (omega arith)
distinct_place (A ∷ l) d zero zero h k e = refl
distinct_place (A ∷ l) d zero (suc j) h k e = absurd (d.0 (Memᴰ.cast e (get_d_in l j 0 (omega arith))))
distinct_place (A ∷ l) d (suc i) zero h k e = absurd (d.0 (Memᴰ.cast (sym e) (get_d_in l i 0 (omega arith))))
distinct_place (A ∷ l) d (suc i) (suc j) h k e = ap suc (distinct_place l d.1 i j (omega arith) (omega arith) e)

pub line_unique : (l : List ℕ) → Distinct l → (i j A : ℕ) → OnLine l i A → OnLine l j A → i ≡ j
line_unique l d zero j A p q = absurd p
line_unique l d (suc i) zero A p q = absurd q
line_unique l d (suc i) (suc j) A p q = ap suc (distinct_place l d i j p.0 q.0 (p.1 ∙ sym q.1))

-- every other set that passes stands after the first
first_before : (n : ℕ) {test : ℕ → Bool} {line : ℕ} {l : List ℕ} {hit : Hit} → First test line l hit → Rising n l
    → (C : ℕ) → C ∈ l → T (test C) → (C ≡ hit.set) ⊎ Before n hit.set C
first_before n {test} {line} {l} {hit} r up C c t = go (Memᴰ.append_cases r.before (subst (λ m. C ∈ m) r.parts c))
  where
    later : (C ≡ hit.set) ⊎ (C ∈ r.after) → (C ≡ hit.set) ⊎ Before n hit.set C
    later (inl e) = inl e
    later (inr m) = inr ((rising_append n r.before (hit.set ∷ r.after) (subst (Rising n) r.parts up)).0.0 C m)

    go : (C ∈ r.before) ⊎ (C ∈ hit.set ∷ r.after) → (C ≡ hit.set) ⊎ Before n hit.set C
    go (inl m) = absurd (T_not (test C) (all_in (λ A. not (test A)) r.before r.passed m) t)
    go (inr m) = later (Memᴰ.cases_cons m)

-- both searches find the same
module _ (n : ℕ) (test : ℕ → Bool) where
  -- a hit that is no larger than what follows is kept
  kept : (hit : Hit) → hit.line ≢ 0 → (line : ℕ) (l : List ℕ) → ((C : ℕ) → C ∈ l → size n hit.set ≤ size n C) → smallest_from n test hit line l ≡ hit
  unfolding smallest_from replaces
  kept hit some line [] f = refl
  kept hit some line (A ∷ l) f =
      ap (λ h. smallest_from n test h (suc line) l) same
      ∙ kept hit some (suc line) l (λ C c. f C (Memᴰ.tail c))
    where
      neither : T (eqb hit.line 0) ⊎ T (ltb (size n A) (size n hit.set)) → ⊥
      neither (inl t) = some (eqb→eq hit.line 0 t)
      neither (inr t) = omega (arith, f A (Memᴰ.head refl), ltb→lt (size n A) (size n hit.set) t)

      same : cond (test A && replaces n hit A) (record { set = A; line = line }) hit ≡ hit
      same = cond_elim (test A && replaces n hit A) (record { set = A; line = line }) hit (λ h. h ≡ hit)
          (λ t. absurd (neither (or_T (eqb hit.line 0) (ltb (size n A) (size n hit.set)) (and_T (test A) (replaces n hit A) t).1))) (λ _. refl)

  pub searches_agree : (other line : ℕ) (l : List ℕ) → Rising n l
      → smallest_from n test (record { set = other; line = 0 }) (suc line) l ≡ first_from test other (suc line) l
  unfolding smallest_from first_from replaces
  searches_agree other line [] up = refl
  searches_agree other line (A ∷ l) up = go (test A) (searches_agree other (suc line) l up.1)
    where
      none : Hit
      none = record { set = other; line = 0 }

      go : (b : Bool) → smallest_from n test none (suc (suc line)) l ≡ first_from test other (suc (suc line)) l
          → smallest_from n test (cond (b && replaces n none A) (record { set = A; line = suc line }) none) (suc (suc line)) l
          ≡ cond b (record { set = A; line = suc line }) (first_from test other (suc (suc line)) l)
      go true ih = kept (record { set = A; line = suc line }) (λ e. omega arith) (suc (suc line)) l (λ C c. before_size n (up.0 C c))
      go false ih = ih

-- B is the smallest of the sets of l that pass the test: every other is larger
pub record Smallest (n : ℕ) (test : ℕ → Bool) (l : List ℕ) (B : ℕ) : Type 0 where
  pub listed : B ∈ l
  pub passes : T (test B)
  pub least : (C : ℕ) → C ∈ l → T (test C) → C ≢ B → size n B < size n C

-- a set that is larger than no other that passes is the smallest
pub smallest_only : {n : ℕ} {test : ℕ → Bool} {l : List ℕ} {B C : ℕ} → Smallest n test l B
    → C ∈ l → T (test C) → ((D : ℕ) → D ∈ l → T (test D) → size n C ≤ size n D) → C ≡ B
smallest_only {B = B} {C} p m t f = go (ℕ_discrete C B)
  where
    go : Dec (C ≡ B) → C ≡ B
    go (yes e) = e
    go (no d) = absurd (omega (arith, p.least C m t d, f B p.listed p.passes))

pub smallest_unique : {n : ℕ} {test : ℕ → Bool} {l : List ℕ} {B C : ℕ} → Smallest n test l B → Smallest n test l C → B ≡ C
smallest_unique {n} {test} {l} {B} {C} p q = smallest_only q p.listed p.passes least
  where
    no_larger : (D : ℕ) → D ∈ l → T (test D) → Dec (D ≡ B) → size n B ≤ size n D
    no_larger D m t (yes e) = omega (arith, ap (size n) e)
    no_larger D m t (no d) = omega (arith, p.least D m t d)

    least : (D : ℕ) → D ∈ l → T (test D) → size n B ≤ size n D
    least D m t = no_larger D m t (ℕ_discrete D B)

-- in a hierarchy, for a test that only sets with the entry c pass
module _ (n : ℕ) {l : List ℕ} (h : Hierarchy n l) (test : ℕ → Bool) (c : ℕ) (hc : c < n) (common : (B : ℕ) → B ∈ l → T (test B) → B ∋ c) where
  pub first_smallest : {line : ℕ} {hit : Hit} → First test line l hit → Smallest n test l hit.set
  first_smallest {hit = hit} r = record {
    listed = first_in r;
    passes = r.passes;
    least = λ C m t d. go C m t d (first_before n r h.rising C m t);
  }
    where
      go : (C : ℕ) → C ∈ l → T (test C) → C ≢ hit.set → (C ≡ hit.set) ⊎ Before n hit.set C → size n hit.set < size n C
      go C m t d (inl e) = absurd (d e)
      go C m t d (inr f) = (chain n h (first_in r) m c hc (common hit.set (first_in r) r.passes) (common C m t) f).1

  -- the smallest is inside every set that passes
  pub smallest_inside : {B : ℕ} → Smallest n test l B → (C : ℕ) → C ∈ l → T (test C) → Subset n B C
  smallest_inside {B} p C m t = go (ℕ_discrete C B) (common_nested n h p.listed m c hc (common B p.listed p.passes) (common C m t))
    where
      go : Dec (C ≡ B) → Subset n B C ⊎ Subset n C B → Subset n B C
      go _ (inl s) = s
      go (yes e) (inr s) = record { all = λ i _ k. subst (λ (D : ℕ). D ∋ i) (sym e) k }
      go (no d) (inr s) = absurd (omega (arith, p.least C m t d, subset_size n s))

-- A search made by a loop: the sets before place i did not pass, and hit is what the search from there finds.
pub record Looked (test : ℕ → Bool) (other : ℕ) (l : List ℕ) (i : ℕ) (hit : Hit) : Type 0 where
  pub rest : first_from test other (i + 1) (drop i l) ≡ hit

pub look_started : {test : ℕ → Bool} {other : ℕ} {l : List ℕ} → Looked test other l 0 (first_from test other 1 l)
look_started = record { rest = refl }

module _ {test : ℕ → Bool} {other : ℕ} {l : List ℕ} {i : ℕ} {hit : Hit} (s : Looked test other l i hit) where
  -- first the set at place i, then the rest
  step : i < length l
      → cond (test (get_or l i 0)) (record { set = get_or l i 0; line = i + 1 }) (first_from test other (i + 1 + 1) (drop (i + 1) l)) ≡ hit
  unfolding first_from
  step h = sym (
      ap (first_from test other (i + 1)) (drop-cons l i 0 h)
      ∙ ap₂ {C = Hit} (λ (k j : ℕ). cond (test (get_or l i 0)) (record { set = get_or l i 0; line = i + 1 }) (first_from test other k (drop j l)))
      (sym (add-one (i + 1))) (sym (add-one i))
      ) ∙ s.rest

  pub look_next : i < length l → test (get_or l i 0) ≡ false → Looked test other l (i + 1) hit
  look_next h e = record { rest = sym (rw e) ∙ step h }

  pub look_found : i < length l → test (get_or l i 0) ≡ true → hit ≡ record { set = get_or l i 0; line = i + 1 }
  look_found h e = sym (step h) ∙ rw e

  pub look_ended : length l ≤ i → hit ≡ record { set = other; line = 0 }
  unfolding first_from
  look_ended h = sym s.rest ∙ rw (drop_of_length-le l h)
