-- A list written from the front: the value at each place before i is written, the rest is as it was.
use mathlib.Core.Path.{◌≡◌, refl, sym, ap, subst, ◌∙◌}
use mathlib.Core.List.{List, [], ◌∷◌, ◌++◌, map, append_assoc, map-append}
use Prim.Native.Nat.{ℕ, zero, suc, ◌+◌, ◌-◌, ◌≤◌, ◌<◌}
use native.Mathlib.Nat.{add-zero}
use native.Mathlib.Numerals.{add-one}
use native.Mathlib.Decide.{ℕ_discrete}
use native.Mathlib.Omega.{arith}
use lib.ListN.{length, drop, get_or, set, replicate, length-map, length-set, length-append, length-replicate}
use lib.Seq.{sets, drop-cons, set_at, ext_get_or, get_or-set_same, get_or-set_other}
use Rattle.lists.specs.Lists.{below}
use Rattle.lists.proofs.Lists.{count_below, get_d_below}

pub record Written {A : Type 0} (f : ℕ → A) (old new : List A) (i : ℕ) : Type 0 where
  pub same : length new ≡ length old
  pub are : new ≡ map f (below i) ++ drop i old

module _ {A : Type 0} {f : ℕ → A} {old : List A} where
  pub nothing : Written f old old 0
  unfolding below
  nothing = record { same = refl; are = refl }

  -- one more value
  pub one_more : {new : List A} {i : ℕ} {x : A} → Written f old new i → i < length old → x ≡ f i → Written f old (set new i x) (i + 1)
  unfolding below
  one_more {new} {i} {x} w h e = record { same = length-set new i x ∙ w.same; are = there }
    where
      there : set new i x ≡ map f (below (i + 1)) ++ drop (i + 1) old
      there =
          ap (λ (l : List A). set l i x) (w.are ∙ ap (λ (l : List A). map f (below i) ++ l) (drop-cons old i x h))
          ∙ set_at (map f (below i)) (get_or old i x) (drop (suc i) old) x i (length-map (below i) f ∙ count_below i)
          ∙ rw (add-one i, map-append f (below i) (i ∷ []), append_assoc, e)

  -- all of them
  pub all_written : {new : List A} {i : ℕ} (n : ℕ) → Written f old new i → i ≤ n → n ≤ i → new ≡ map f (below n) ++ drop n old
  all_written {new} {i} n w h k = let e : i ≡ n = omega arith in subst (λ (i : ℕ). new ≡ map f (below i) ++ drop i old) e w.are

-- two runs of stores, the second where the first ends
pub sets_sets : {A : Type 0} (v l : List A) (i : ℕ) (w : List A) → sets (sets l i v) (i + length v) w ≡ sets l i (v ++ w)
sets_sets [] l i w = rw add-zero
sets_sets (x ∷ v) l i w =
    let e : i + suc (length v) ≡ suc i + length v = omega arith in
    rw e (sets_sets v (set l i x) (suc i) w)

-- the elements of a list by their places, and the default where there are no more
module _ {A : Type 0} (d : A) where
  pub get_d_default : (k i : ℕ) → get_or (replicate k d) i d ≡ d
  get_d_default zero i = refl
  get_d_default (suc k) zero = refl
  get_d_default (suc k) (suc i) = get_d_default k i

  pub get_d_padded : (l : List A) (k i : ℕ) → get_or (l ++ replicate k d) i d ≡ get_or l i d
  get_d_padded [] k i = get_d_default k i
  get_d_padded (x ∷ l) k zero = refl
  get_d_padded (x ∷ l) k (suc i) = get_d_padded l k i

  pub by_places : (l : List A) (n : ℕ) → length l ≤ n → map (λ i. get_or l i d) (below n) ≡ l ++ replicate (n - length l) d
  by_places l n h =
      ext_get_or d (map at (below n)) (l ++ replicate (n - length l) d)
      (omega (arith, long, length-append l (replicate (n - length l) d), length-replicate (n - length l) d))
      (λ i k. get_d_below at n i d (omega (arith, long)) ∙ sym (get_d_padded l (n - length l) i))
    where
      at : ℕ → A
      at i = get_or l i d

      long : length (map at (below n)) ≡ n
      long = length-map (below n) at ∙ count_below n

-- the value at each place below k, and one more
pub place_more : {A : Type 0} (d : A) (f : ℕ → A) (l : List A) {k : ℕ} {x : A} → ((i : ℕ) → i < k → get_or l i d ≡ f i) → k < length l → x ≡ f k
    → (i : ℕ) → i < k + 1 → get_or (set l k x) i d ≡ f i
place_more d f l {k} {x} w h e i m = go (ℕ_discrete i k)
  where
    go : Dec (i ≡ k) → get_or (set l k x) i d ≡ f i
    go (yes q) = rw q (get_or-set_same l k x d h ∙ e)
    go (no q) = get_or-set_other l k i x d q ∙ w i (omega arith)
