-- The table while a row and a column of it are written.
use mathlib.Core.Path.{◌≡◌, refl, sym, ap, ◌∙◌, subst}
use mathlib.Core.Logic.{◌≢◌}
use mathlib.Core.List.{List}
use Prim.Native.Nat.{ℕ, ◌+◌, ◌*◌, ◌^◌, ◌≤◌, ◌<◌}
use native.Mathlib.Decide.{ℕ_discrete}
use native.Mathlib.Omega.{arith}
use lib.Dec.{lit≤}
use lib.IntN.{ℤ, pos}
use lib.ListN.{length, get_or, set, length-set}
use lib.Seq.{get_or-set_same, get_or-set_other}
use Rattle.integers.specs.Range.{Within}
use Rattle.integers.proofs.Range.{within_grow}
use Rattle.matrix.specs.Rows.{Cleared}
use Rattle.matrix.proofs.Tables.{cleared_at}
use Rattle.links.specs.Table.{entry, stored, Holds, OwnKept, Small, Written}

module _ (a b : ℕ) (z : ℤ) (t : List ℤ) where
  pub stored_length : length (stored a b z t) ≡ length t
  unfolding stored
  stored_length = length-set (set t (a * 32 + b) z) (b * 32 + a) z ∙ length-set t (a * 32 + b) z

  -- what stands at the places of a and b, and elsewhere
  stored_back : b * 32 + a < length t → entry (stored a b z t) b a ≡ z
  unfolding stored
  stored_back e = get_or-set_same (set t (a * 32 + b) z) (b * 32 + a) z (pos 0) (omega (arith, length-set t (a * 32 + b) z))

  stored_here : a * 32 + b < length t → b * 32 + a < length t → entry (stored a b z t) a b ≡ z
  unfolding stored
  stored_here h e = go (ℕ_discrete (a * 32 + b) (b * 32 + a))
    where
      go : Dec (a * 32 + b ≡ b * 32 + a) → entry (stored a b z t) a b ≡ z
      go (yes q) = ap (λ (x : ℕ). get_or (stored a b z t) x (pos 0)) q ∙ stored_back e
      go (no d) = get_or-set_other (set t (a * 32 + b) z) (b * 32 + a) (a * 32 + b) z (pos 0) d ∙ get_or-set_same t (a * 32 + b) z (pos 0) (omega arith)

  stored_other : (p q : ℕ) → p * 32 + q ≢ a * 32 + b → p * 32 + q ≢ b * 32 + a → entry (stored a b z t) p q ≡ entry t p q
  unfolding stored
  stored_other p q d f = get_or-set_other (set t (a * 32 + b) z) (b * 32 + a) (p * 32 + q) z (pos 0) f ∙ get_or-set_other t (a * 32 + b) (p * 32 + q) z (pos 0) d

pub written_start : (i : ℕ) (g : ℕ → ℤ) (t : List ℤ) → Written i g 0 t t
written_start i g t = record { size = refl; row = λ q h. absurd (omega arith); column = λ q h. absurd (omega arith); rest = λ p q _ _ _ _. refl }

module _ {i k : ℕ} {g : ℕ → ℤ} {t₀ t : List ℤ} (w : Written i g k t₀ t) where
  pub written_all : {n : ℕ} → k ≡ n → Written i g n t₀ t
  written_all e = subst (λ (n : ℕ). Written i g n t₀ t) e w

  -- what is next to be read still stands
  pub written_left : (p : ℕ) → p < 32 → k < 32 → i ≤ p → entry t p k ≡ entry t₀ p k
  written_left p hp hk h = w.rest p k hp hk (λ _. omega arith) (λ e. omega arith)

  pub written_next : {z : ℤ} → z ≡ g k → i < 32 → k < 32 → i * 32 + k < length t₀ → k * 32 + i < length t₀ → Written i g (k + 1) t₀ (stored i k z t)
  written_next {z} e hi hk long far = record {
    size = stored_length i k z t ∙ w.size;
    row = λ q h. along q h (ℕ_discrete q k);
    column = λ q h. down q h (ℕ_discrete q k);
    rest = λ p q hp hq m n.
        stored_other i k z t p q (λ r. let s : p ≡ i = omega arith in omega (arith, m s)) (λ r. let s : q ≡ i = omega arith in omega (arith, n s))
        ∙ w.rest p q hp hq (λ r. omega (arith, m r)) (λ r. omega (arith, n r));
  }
    where
      along : (q : ℕ) → q < k + 1 → Dec (q ≡ k) → entry (stored i k z t) i q ≡ g q
      along q h (yes r) = ap (λ (x : ℕ). entry (stored i k z t) i x) r ∙ stored_here i k z t (omega (arith, w.size)) (omega (arith, w.size)) ∙ e ∙ ap g (sym r)
      along q h (no n) = stored_other i k z t i q (λ r. omega arith) (λ r. omega arith) ∙ w.row q (omega arith)

      down : (q : ℕ) → q < k + 1 → Dec (q ≡ k) → entry (stored i k z t) q i ≡ g q
      down q h (yes r) = ap (λ (x : ℕ). entry (stored i k z t) x i) r ∙ stored_back i k z t (omega (arith, w.size)) ∙ e ∙ ap g (sym r)
      down q h (no n) = stored_other i k z t q i (λ r. omega arith) (λ r. omega arith) ∙ w.column q (omega arith)

-- what stands for a place and itself in a table that was cleared and filled
pub own_cleared : {t₀ t : List ℤ} → Cleared t₀ → OwnKept t₀ t → (a : ℕ) → a < 32 → entry t a a ≡ pos 0
own_cleared z o a h = o.own a h ∙ cleared_at z (a * 32 + a)

pub holds_start : (f : ℕ → ℕ → ℤ) (t : List ℤ) → Holds 0 f t
holds_start f t = record { size = omega arith; is = λ a b h _ _. absurd (omega arith) }

pub holds_all : {k n : ℕ} {f : ℕ → ℕ → ℤ} {t : List ℤ} → Holds k f t → k ≡ n → Holds n f t
holds_all {f} {t} h e = subst (λ (n : ℕ). Holds n f t) e h

-- one more row and column of a symmetric f
pub holds_next : {k : ℕ} {f : ℕ → ℕ → ℤ} {t₀ t : List ℤ} → ((a b : ℕ) → f a b ≡ f b a) → k < 32 → (k + 1) * 32 ≤ length t₀ → Holds k f t₀ → Written k (f k) k t₀ t → Holds (k + 1) f t
holds_next {k} {f} {t₀} {t} symm h long d w = record { size = omega (arith, w.size); is = λ a b ha hb ne. go a b ha hb ne (ℕ_discrete a k) (ℕ_discrete b k) }
  where
    go : (a b : ℕ) → a < k + 1 → b < k + 1 → a ≢ b → Dec (a ≡ k) → Dec (b ≡ k) → entry t a b ≡ f a b
    go a b ha hb ne (yes e) _ = ap (λ (x : ℕ). entry t x b) e ∙ w.row b (omega arith) ∙ ap (λ (x : ℕ). f x b) (sym e)
    go a b ha hb ne (no m) (yes e) = ap (λ (x : ℕ). entry t a x) e ∙ w.column a (omega arith) ∙ symm k a ∙ ap (f a) (sym e)
    go a b ha hb ne (no m) (no n) = w.rest a b (omega arith) (omega arith) (λ e. absurd (m e)) (λ e. absurd (n e)) ∙ d.is a b (omega arith) (omega arith) ne

-- a row up to its own place leaves what stands there
pub own_next : {k : ℕ} {g : ℕ → ℤ} {t₀ t₁ t : List ℤ} → OwnKept t₀ t₁ → Written k g k t₁ t → OwnKept t₀ t
own_next o w = record { own = λ a h. w.rest a a h h (λ e. omega arith) (λ e. omega arith) ∙ o.own a h }

-- what is joined is of bounded size
pub small_any : {k : ℕ} {t : List ℤ} → Small k t → (a b : ℕ) → a < k → b < k → Within (2 ^ 47) (entry t a b)
small_any {t} s a b ha hb = go (ℕ_discrete a b)
  where
    go : Dec (a ≡ b) → Within (2 ^ 47) (entry t a b)
    go (yes e) = subst (λ (x : ℕ). Within (2 ^ 47) (entry t a x)) e (s.own a ha)
    go (no d) = within_grow (lit≤ tt) (s.within a b ha hb d)
