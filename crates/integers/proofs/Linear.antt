-- Linear arithmetic on ℤ by `omega`: z is up z − dn z. A goal or hypothesis of ≤ℤ, <ℤ or ≡ is read through `zarith`; each sum,
-- difference and product in play wants its law `+at`, `-at`, `*at` in the list.
use mathlib.Core.Path.{◌≡◌, refl, ap}
use mathlib.Core.Bool.{not}
use mathlib.Core.Logic.{◌⊎◌, inl, inr}
use Prim.Native.Nat.{ℕ, zero, suc, ◌+◌, ◌-◌, ◌*◌, ◌≤◌, ◌<◌}
use native.Mathlib.Omega.{arith}
use native.Mathlib.Nat.{mul-le-mul_left, mul-le-mul_right, le_of_mul-le-mul_left, mul_comm}
use lib.IntN.{ℤ, pos, negsuc, neg_ℤ, sub_ℕ, ◌+ℤ◌, ◌-ℤ◌, ◌*ℤ◌}
use lib.Signed.{◌≤ℤ◌, ◌<ℤ◌, le_z, lt_z, le_z_yes}
use lib.Dec.{T, ltb, leb→le, le→leb, ltb→lt, lt→ltb, nltb→le, nleb→lt}
use Rattle.lists.proofs.Tests.{cond_elim, T_or_not, T_and, and_T}
use Rattle.integers.specs.Integers.{eq_z}

unfoldable pub up : ℤ → ℕ
up (pos n) = n
up (negsuc n) = 0

unfoldable pub dn : ℤ → ℕ
dn (pos n) = 0
dn (negsuc n) = suc n

pub le→ : {a b : ℤ} → a ≤ℤ b → up a + dn b ≤ up b + dn a
unfolding up dn
le→ {a = pos a} {b = pos b} h = omega (arith, leb→le a b h.le)
le→ {a = pos a} {b = negsuc b} h = absurd h.le
le→ {a = negsuc a} {b = pos b} h = omega arith
le→ {a = negsuc a} {b = negsuc b} h = omega (arith, leb→le b a h.le)

pub →le : {a b : ℤ} → up a + dn b ≤ up b + dn a → a ≤ℤ b
unfolding up dn
→le {a = pos a} {b = pos b} h = record { le = le→leb a b (omega arith) }
→le {a = pos a} {b = negsuc b} h = absurd (omega arith)
→le {a = negsuc a} {b = pos b} h = record { le = tt }
→le {a = negsuc a} {b = negsuc b} h = record { le = le→leb b a (omega arith) }

pub lt→ : {a b : ℤ} → a <ℤ b → up a + dn b < up b + dn a
unfolding up dn
lt→ {a = pos a} {b = pos b} h = omega (arith, ltb→lt a b h.lt)
lt→ {a = pos a} {b = negsuc b} h = absurd h.lt
lt→ {a = negsuc a} {b = pos b} h = omega arith
lt→ {a = negsuc a} {b = negsuc b} h = omega (arith, ltb→lt b a h.lt)

pub →lt : {a b : ℤ} → up a + dn b < up b + dn a → a <ℤ b
unfolding up dn
→lt {a = pos a} {b = pos b} h = record { lt = lt→ltb a b (omega arith) }
→lt {a = pos a} {b = negsuc b} h = absurd (omega arith)
→lt {a = negsuc a} {b = pos b} h = record { lt = tt }
→lt {a = negsuc a} {b = negsuc b} h = record { lt = lt→ltb b a (omega arith) }

pub eq→ : {a b : ℤ} → a ≡ b → up a + dn b ≡ up b + dn a
eq→ {a} {b} h = rw h refl

pub →eq : {a b : ℤ} → up a + dn b ≡ up b + dn a → a ≡ b
unfolding up dn
→eq {a = pos a} {b = pos b} h = ap pos (omega arith)
→eq {a = pos a} {b = negsuc b} h = absurd (omega arith)
→eq {a = negsuc a} {b = pos b} h = absurd (omega arith)
→eq {a = negsuc a} {b = negsuc b} h = ap negsuc (omega arith)

-- the parts of a difference of two naturals, of a sum, of what is negated
sub_parts : (a b : ℕ) → up (sub_ℕ a b) + b ≡ dn (sub_ℕ a b) + a
unfolding up dn
sub_parts a b = cond_elim (ltb a b) (negsuc (b - suc a)) (pos (a - b)) (λ z. up z + b ≡ dn z + a)
    (λ t. omega (arith, ltb→lt a b t)) (λ t. omega (arith, nltb→le a b t))

pub +at : (a b : ℤ) → up (a +ℤ b) + (dn a + dn b) ≡ dn (a +ℤ b) + (up a + up b)
unfolding up dn
+at (pos a) (pos b) = omega arith
+at (pos a) (negsuc b) = omega (arith, sub_parts a (suc b))
+at (negsuc a) (pos b) = omega (arith, sub_parts b (suc a))
+at (negsuc a) (negsuc b) = omega arith

pub neg_up : (a : ℤ) → up (neg_ℤ a) ≡ dn a
unfolding up dn
neg_up (pos zero) = refl
neg_up (pos (suc n)) = refl
neg_up (negsuc n) = refl

pub neg_dn : (a : ℤ) → dn (neg_ℤ a) ≡ up a
unfolding up dn
neg_dn (pos zero) = refl
neg_dn (pos (suc n)) = refl
neg_dn (negsuc n) = refl

pub -at : (a b : ℤ) → up (a -ℤ b) + (dn a + up b) ≡ dn (a -ℤ b) + (up a + dn b)
-at a b = omega (arith, +at a (neg_ℤ b), neg_up b, neg_dn b)

pub ruleset zarith = (arith, le→, →le, lt→, →lt, eq→, →eq)

nle : (a b : ℤ) → T (not (le_z a b)) → T (lt_z b a)
nle (pos a) (pos b) t = lt→ltb b a (nleb→lt a b t)
nle (pos a) (negsuc b) t = tt
nle (negsuc a) (pos b) t = absurd t
nle (negsuc a) (negsuc b) t = lt→ltb a b (nleb→lt b a t)

pub le_z_no : {a b : ℤ} → T (not (le_z a b)) → b <ℤ a
le_z_no {a} {b} t = record { lt = nle a b t }

pub *at : (a b : ℤ) → up (a *ℤ b) + (up a * dn b + dn a * up b) ≡ dn (a *ℤ b) + (up a * up b + dn a * dn b)
unfolding up dn
*at (pos a) (pos b) = omega arith
*at (pos a) (negsuc b) = omega (arith, neg_up (pos (a * suc b)), neg_dn (pos (a * suc b)))
*at (negsuc a) (pos b) = omega (arith, neg_up (pos (suc a * b)), neg_dn (pos (suc a * b)))
*at (negsuc a) (negsuc b) = omega arith

-- rearranging a sum of four
pub four : (a b c d : ℤ) → (a +ℤ b) +ℤ (c +ℤ d) ≡ (a +ℤ c) +ℤ (b +ℤ d)
four a b c d = omega (zarith, +at a b, +at c d, +at a c, +at b d, +at (a +ℤ b) (c +ℤ d), +at (a +ℤ c) (b +ℤ d))

pub four_sub : (a b c d : ℤ) → (a -ℤ b) +ℤ (c -ℤ d) ≡ (a +ℤ c) -ℤ (b +ℤ d)
four_sub a b c d = omega (zarith, -at a b, -at c d, +at a c, +at b d, +at (a -ℤ b) (c -ℤ d), -at (a +ℤ c) (b +ℤ d))

pub *_add : (c a b : ℤ) → c *ℤ (a +ℤ b) ≡ c *ℤ a +ℤ c *ℤ b
*_add c a b = omega (zarith, *at c (a +ℤ b), *at c a, *at c b, +at (c *ℤ a) (c *ℤ b), ap (λ (x : ℕ). up c * x) (+at a b), ap (λ (x : ℕ). dn c * x) (+at a b))

-- a natural number of times
pub mul_mono : (m : ℕ) {a b : ℤ} → a ≤ℤ b → (pos m *ℤ a) ≤ℤ (pos m *ℤ b)
unfolding up dn
mul_mono m {a} {b} h = omega (zarith, *at (pos m) a, *at (pos m) b, mul-le-mul_left m (le→ h))

pub mul_cancel : (m : ℕ) {a b : ℤ} → 0 < m → (pos m *ℤ a) ≤ℤ (pos m *ℤ b) → a ≤ℤ b
unfolding up dn
mul_cancel m {a} {b} l h = →le (le_of_mul-le-mul_left {k = m} (omega (zarith, *at (pos m) a, *at (pos m) b)) l)

pub mul_assoc : (m k : ℕ) (a : ℤ) → pos (m * k) *ℤ a ≡ pos m *ℤ (pos k *ℤ a)
unfolding up dn
mul_assoc m k a = omega (zarith, *at (pos (m * k)) a, *at (pos m) (pos k *ℤ a), ap (λ (x : ℕ). m * x) (*at (pos k) a))

pub mul_grow : (j m : ℕ) (t : ℤ) → j ≤ m → pos 0 <ℤ t → (pos j *ℤ t) ≤ℤ (pos m *ℤ t)
mul_grow j m (pos t) h k = record { le = le→leb (j * t) (m * t) (mul-le-mul_right t h) }
mul_grow j m (negsuc t) h k = absurd k.lt

-- of two numbers one is at most the other
pub le_or_le : (a b : ℤ) → (a ≤ℤ b) ⊎ (b ≤ℤ a)
le_or_le a b = go (T_or_not (le_z a b))
  where
    go : T (le_z a b) ⊎ T (not (le_z a b)) → (a ≤ℤ b) ⊎ (b ≤ℤ a)
    go (inl t) = inl (le_z_yes t)
    go (inr t) = let k : b <ℤ a = le_z_no t in inr (omega zarith)

pub lt_or_le : (a b : ℤ) → (a <ℤ b) ⊎ (b ≤ℤ a)
lt_or_le a b = go (T_or_not (le_z b a))
  where
    go : T (le_z b a) ⊎ T (not (le_z b a)) → (a <ℤ b) ⊎ (b ≤ℤ a)
    go (inl t) = inr (le_z_yes t)
    go (inr t) = inl (le_z_no t)

-- x / a ≤ y / b and y / b ≤ z / c give x / a ≤ z / c
pub quotient_trans : (x y z : ℤ) (a b c : ℕ) → 0 < b → (pos b *ℤ x) ≤ℤ (pos a *ℤ y) → (pos c *ℤ y) ≤ℤ (pos b *ℤ z) → (pos c *ℤ x) ≤ℤ (pos a *ℤ z)
quotient_trans x y z a b c l h k =
    let h₁ = mul_mono c h in
    let k₁ = mul_mono a k in
    mul_cancel b l (omega (
      zarith,
      h₁,
      k₁,
      mul_assoc c b x,
      mul_assoc c a y,
      mul_assoc a c y,
      mul_assoc a b z,
      mul_assoc b c x,
      mul_assoc b a z,
      ap (λ (m : ℕ). pos m *ℤ x) (mul_comm c b),
      ap (λ (m : ℕ). pos m *ℤ y) (mul_comm c a),
      ap (λ (m : ℕ). pos m *ℤ z) (mul_comm a b),
    ))

-- the test of equality
pub eq_z_yes : (a b : ℤ) → T (eq_z a b) → a ≡ b
unfolding eq_z
eq_z_yes a b t = let r = and_T (le_z a b) (le_z b a) t in let h : a ≤ℤ b = le_z_yes r.0 in let k : b ≤ℤ a = le_z_yes r.1 in omega zarith

pub yes_eq_z : (a b : ℤ) → a ≡ b → T (eq_z a b)
unfolding eq_z
yes_eq_z a b e = let h : a ≤ℤ b = omega zarith in let k : b ≤ℤ a = omega zarith in T_and (le_z a b) (le_z b a) h.le k.le
