-- A test of every element of a list, made from the front: the elements before place i have passed.
use mathlib.Core.Path.{◌≡◌, refl, sym, ap, ◌∙◌}
use mathlib.Core.Bool.{Bool, true, false, ◌&&◌}
use mathlib.Core.List.{List}
use Prim.Native.Nat.{ℕ, ◌+◌, ◌≤◌, ◌<◌}
use native.Mathlib.Numerals.{add-one}
use native.Mathlib.Omega.{arith}
use lib.ListN.{length, drop, get_or, drop_of_length-le}
use lib.Seq.{drop-cons}
use Rattle.lists.specs.Lists.{all, below}
use Rattle.lists.proofs.Lists.{count_below, below_at}

pub record Passed {A : Type 0} (p : A → Bool) (l : List A) (i : ℕ) : Type 0 where
  pub rest : all p (drop i l) ≡ all p l

-- first the element at place i, then the rest
step : {A : Type 0} (p : A → Bool) (l : List A) (i : ℕ) (d : A) → i < length l → all p (drop i l) ≡ p (get_or l i d) && all p (drop (i + 1) l)
unfolding all
step p l i d h = rw (add-one, drop-cons l i d)

pub started : {A : Type 0} {p : A → Bool} {l : List A} → Passed p l 0
started = record { rest = refl }

-- the element at place i passes, or it fails; none is left
module _ {A : Type 0} {p : A → Bool} {l : List A} {i : ℕ} (s : Passed p l i) (d : A) where
  pub next : i < length l → p (get_or l i d) ≡ true → Passed p l (i + 1)
  next h t = record { rest = sym (step p l i d h ∙ rw t) ∙ s.rest }

  pub failed : i < length l → p (get_or l i d) ≡ false → false ≡ all p l
  failed h t = sym (sym s.rest ∙ step p l i d h ∙ rw t)

pub ended : {A : Type 0} {p : A → Bool} {l : List A} {i : ℕ} → Passed p l i → length l ≤ i → true ≡ all p l
unfolding all
ended {l} s h = rw (drop_of_length-le l h) at s.rest

-- the same over the numbers below n
module _ {p : ℕ → Bool} {n i : ℕ} (s : Passed p (below n) i) where
  pub next_below : i < n → p i ≡ true → Passed p (below n) (i + 1)
  next_below h t = next s 0 (omega (arith, count_below n)) (ap p (below_at n i h) ∙ t)

  pub failed_below : i < n → p i ≡ false → false ≡ all p (below n)
  failed_below h t = failed s 0 (omega (arith, count_below n)) (ap p (below_at n i h) ∙ t)

  pub ended_below : n ≤ i → true ≡ all p (below n)
  ended_below h = ended s (omega (arith, count_below n))
