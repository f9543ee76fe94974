-- What chains over a slice and over the numbers below n give, by the test of each.
use mathlib.Core.Path.{◌≡◌, refl, sym, ap, ◌∙◌, subst}
use mathlib.Core.Bool.{Bool, true, false, not, ◌&&◌, ◌||◌}
use mathlib.Core.List.{List, [], ◌∷◌, ◌++◌}
use Prim.Native.Nat.{ℕ}
use native.Mathlib.Omega.{arith}
use denote.Param.Members.{Mut}
use denote.Ref.{Bor}
use Rattle.std.specs.declared.ops.Range.{Range}
use Rattle.std.specs.declared.option.Option.{Option}
use Rattle.std.proofs.Common.{Iter}
use Rattle.std.proofs.iter.Yields.{nat_range_steps}
use Rattle.std.proofs.lemmas.Fn.{fold_over, slice_gives, fronts}
use Rattle.std.proofs.lemmas.Iterator.{YieldsList-from_range}
use Rattle.std.proofs.lemmas.Iterator.Search.{all_from_yields_List}
use Rattle.std.proofs.lemmas.List.{map-id}
use Rattle.std.proofs.lemmas.List.FromFn.{fill_by_all}
use Rattle.std.specs.Fn.{Called}
use Rattle.std.specs.Iterator.{Drains, YieldsThen}
use Rattle.std.specs.List.{list_all, FoldsTo, range_with_len}
use Rattle.std.specs.Option.{MatchOption}
use Rattle.lists.specs.Lists.{all, below}
use Rattle.lists.proofs.Lists.{count_below, below_at}

pub all_is : {A : Type 0} (p : A → Bool) (l : List A) → list_all p l ≡ all p l
unfolding all
all_is p [] = refl
all_is p (x ∷ l) = ap (λ b. p x && b) (all_is p l)

all_more : {A : Type 0} (p : A → Bool) (l : List A) (x : A) → all p (l ++ (x ∷ [])) ≡ all p l && p x
unfolding all
all_more p [] x = go (p x)
  where
    go : (a : Bool) → a && true ≡ a
    go true = refl
    go false = refl
all_more p (y ∷ l) x = rw (all_more p l x) (go (p y) (all p l) (p x))
  where
    go : (a b c : Bool) → a && (b && c) ≡ (a && b) && c
    go true b c = refl
    go false b c = refl

-- `fold` over a slice called g at each element
abbrev pub Ran : {A F : Type 0} (g : Mut F (Bool × (Bor A × Unit {0})) Bool) (f : F) (s : Iter A) (start r : Bool) → Type 0
Ran {A} {F} g f s start r = (xs : List (Bor A)) × (f' : F) × Drains fronts s xs × FoldsTo {P = F × Bool} (λ p x q. Called g p.0 (p.1, (x, tt)) q.1 q.0) (f, start) xs (f', r)

-- what it gives, where the closure joins the answers of a test by `&`, or those of the opposite test by `|`
module _ {A F : Type 0} {g : Mut F (Bool × (Bor A × Unit {0})) Bool} (p : A → Bool) (f : F) (s : Iter A) (r : Bool) {l : List A} (e : s.rest.now ≡ l) where
  pub fold_and : Ran g f s true r → ((a : Bool) (x : Bor A) (b : Bool) (f' : F) → Called g f (a, (x, tt)) b f' → (b ≡ a && p x.now) × (f' ≡ f)) → r ≡ all p l
  unfolding all
  fold_and ran step = subst (λ (k : List A). r ≡ all p k) e (fold_over fronts (λ y. y.now) g (λ l a. a ≡ all p l) f
      (λ l a x b f' j k. let (q, h) = step a x b f' k in (q ∙ ap (λ c. c && p x.now) j ∙ sym (all_more p l x.now), h))
      s s.rest.now true r (slice_gives s) refl ran)

  pub fold_or : Ran g f s false r → ((a : Bool) (x : Bor A) (b : Bool) (f' : F) → Called g f (a, (x, tt)) b f' → (b ≡ a || not (p x.now)) × (f' ≡ f)) → r ≡ not (all p l)
  unfolding all
  fold_or ran step = subst (λ (k : List A). r ≡ not (all p k)) e (fold_over fronts (λ y. y.now) g (λ l a. a ≡ not (all p l)) f
      (λ l a x b f' j k. let (q, h) = step a x b f' k in (q ∙ ap (λ c. c || not (p x.now)) j ∙ go (all p l) (p x.now) (all_more p l x.now), h))
      s s.rest.now false r (slice_gives s) refl ran)
    where
      go : (a b : Bool) {c : Bool} → c ≡ a && b → not a || not b ≡ not c
      go true true e = ap not (sym e)
      go true false e = ap not (sym e)
      go false b e = ap not (sym e)

pub below_is : (n : ℕ) → range_with_len 0 n ≡ below n
below_is n = sym (fill_by_all (λ i. i) (below n) n 0 (count_below n) (below_at n) ∙ map-id (range_with_len 0 n))

-- `all` of the numbers below n: a closure that keeps its state answers as the test does
pub all_below : {F : Type 0} {g : Mut F (ℕ × Unit {0}) Bool} {f : F} {r : Bool} {m : ℕ} (p : ℕ → Bool) (n : ℕ) (u : Range ℕ)
    → (xs : List ℕ) × (o : Option ℕ) × (j : F) × YieldsThen nat_range_steps record { start = 0; end = m } xs o u
    × FoldsTo (λ p x q. Called g p (x, tt) true q) f xs j
    × MatchOption o (r ≡ true) (λ x. (r ≡ false) × ((h : F) × Called g j (x, tt) false h))
    → m ≡ n → ((x : ℕ) (b : Bool) (q : F) → Called g f (x, tt) b q → (q ≡ f) × (b ≡ p x)) → r ≡ all p (below n)
all_below {m} p n u ran e h = all_from_yields_List p _ _ _ ran (YieldsList-from_range 0 m m refl (omega arith)) h
    ∙ all_is p (range_with_len 0 m) ∙ ap (all p) (below_is m ∙ ap below e)
