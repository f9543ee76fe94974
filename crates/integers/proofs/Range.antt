-- Laws of bounded numbers: sums, differences, products, the smaller and the larger; and which numbers fit a machine's width.
use mathlib.Core.Path.{◌≡◌, refl}
use mathlib.Core.List.Memᴰ
use mathlib.Core.List.{List, [], ◌∷◌}
use Prim.Native.Nat.{ℕ, zero, suc, ◌+◌, ◌*◌, ◌≤◌, ◌<◌, ◌^◌}
use native.Mathlib.Nat.{mul-le-mul}
use native.Mathlib.Omega.{arith}
use lib.Dec.{lit<}
use lib.IntN.{ℤ, pos, negsuc, neg_ℤ, ◌+ℤ◌, ◌-ℤ◌, ◌*ℤ◌}
use lib.ListN.{length, get_or}
use lib.Signed.{◌≤ℤ◌, le_z}
use mir.Syntax.{Width, w32, w64}
use mir.Val.{SFits, hbits}
use Rattle.lists.proofs.Tests.{cond_elim}
use Rattle.integers.specs.Integers.{min_z, max_z, sum_of, sum}
use Rattle.integers.specs.Range.{Within, Bounded}
use Rattle.integers.proofs.Linear.{up, dn, zarith, +at, *at, neg_up, neg_dn}

-- the bounds as `omega` reads them
low→ : (k : ℕ) {z : ℤ} → neg_ℤ (pos k) ≤ℤ z → dn z ≤ up z + k
unfolding up dn
low→ k h = omega (zarith, neg_up (pos k), neg_dn (pos k))

→low : (k : ℕ) {z : ℤ} → dn z ≤ up z + k → neg_ℤ (pos k) ≤ℤ z
unfolding up dn
→low k h = omega (zarith, neg_up (pos k), neg_dn (pos k))

pub up_le : {k : ℕ} {z : ℤ} → Within k z → up z ≤ k
unfolding up dn
up_le {z = pos n} h = omega zarith
up_le {z = negsuc n} h = omega arith

pub dn_le : {k : ℕ} {z : ℤ} → Within k z → dn z ≤ k
unfolding up dn
dn_le {z = pos n} h = omega arith
dn_le {k} {z = negsuc n} h = omega (arith, low→ k h.low)

pub within : {k : ℕ} {z : ℤ} → up z ≤ k → dn z ≤ k → Within k z
unfolding up dn
within {k} h l = record { top = omega zarith; low = →low k (omega arith) }

pub within_grow : {j k : ℕ} {z : ℤ} → j ≤ k → Within j z → Within k z
within_grow l h = within (omega (arith, up_le h)) (omega (arith, dn_le h))

-- of an equal number: what a call reads is equal to what the call before gave (`passed` of Held)
pub zero_within : {k : ℕ} → Within k (pos 0)
unfolding up dn
zero_within = within (omega arith) (omega arith)

pub value_within : {k : ℕ} (l : List ℤ) (i : ℕ) → Bounded k l → Within k (get_or l i (pos 0))
value_within [] i b = zero_within
value_within (z ∷ l) zero b = b z (Memᴰ.head refl)
value_within (z ∷ l) (suc i) b = value_within l i (λ y m. b y (Memᴰ.tail m))

pub within_equal : {k : ℕ} {x z : ℤ} → x ≡ z → Within k z → Within k x
within_equal e h = rw e h

pub within_sum : {j k : ℕ} {a b : ℤ} → Within j a → Within k b → Within (j + k) (a +ℤ b)
unfolding up dn
within_sum {j} {k} {a} {b} h l =
    let e = +at a b in
    record { top = omega (zarith, h.top, l.top); low = →low (j + k) (omega (arith, low→ j h.low, low→ k l.low)) }

pub within_neg : {k : ℕ} {z : ℤ} → Within k z → Within k (neg_ℤ z)
within_neg {z} h = within (omega (arith, neg_up z, dn_le h)) (omega (arith, neg_dn z, up_le h))

pub within_difference : {j k : ℕ} {a b : ℤ} → Within j a → Within k b → Within (j + k) (a -ℤ b)
within_difference h l = within_sum h (within_neg l)

pub sum_within : {k : ℕ} (n : ℕ) (l : List ℤ) → length l ≤ n → Bounded k l → Within (n * k) (sum l)
unfolding sum sum_of up dn
sum_within n [] h b = within (omega arith) (omega arith)
sum_within zero (z ∷ l) h b = absurd (omega arith)
sum_within {k} (suc n) (z ∷ l) h b = within_grow (omega arith) (within_sum (b z (Memᴰ.head refl)) (sum_within n l (omega arith) (λ y m. b y (Memᴰ.tail m))))

-- a natural number of times
pub within_times : {j k : ℕ} {z : ℤ} (m : ℕ) → m ≤ j → Within k z → Within (j * k) (pos m *ℤ z)
unfolding up dn
within_times {j} {k} {z} m l h =
    let e = *at (pos m) z in
    let p = mul-le-mul l (up_le h) in
    let q = mul-le-mul l (dn_le h) in
    record { top = omega zarith; low = →low (j * k) (omega arith) }

-- the smaller and the larger of two are one of them
pub within_min : {k : ℕ} {a b : ℤ} → Within k a → Within k b → Within k (min_z a b)
unfolding min_z
within_min {k} {a} {b} h l = cond_elim (le_z a b) a b (Within k) (λ _. h) (λ _. l)

pub within_max : {k : ℕ} {a b : ℤ} → Within k a → Within k b → Within k (max_z a b)
unfolding max_z
within_max {k} {a} {b} h l = cond_elim (le_z a b) b a (Within k) (λ _. l) (λ _. h)

-- a signed width of b bits holds every number within 2 ^ (b − 1) − 1, and no number that is not within 2 ^ (b − 1)
pub within_fits : (w : Width) {k : ℕ} {z : ℤ} → k < 2 ^ hbits w → Within k z → SFits w z
unfolding up dn
within_fits w {z = pos n} l h = record { sfits = omega (arith, up_le h) }
within_fits w {z = negsuc n} l h = record { sfits = omega (arith, dn_le h) }

pub fits_within : (w : Width) {z : ℤ} → SFits w z → Within (2 ^ hbits w) z
unfolding up dn
fits_within w {z = pos n} h = within (omega arith) (omega arith)
fits_within w {z = negsuc n} h = within (omega arith) (omega arith)

-- what the code adds, subtracts and multiplies fits 64 bits
pub sum_fits : {a b : ℤ} → Within (2 ^ 61) a → Within (2 ^ 61) b → SFits w64 (a +ℤ b)
sum_fits h l = within_fits w64 (lit< tt) (within_sum h l)

pub difference_fits : {a b : ℤ} → Within (2 ^ 61) a → Within (2 ^ 61) b → SFits w64 (a -ℤ b)
difference_fits h l = within_fits w64 (lit< tt) (within_difference h l)

pub difference_fits_i32 : {a b : ℤ} → Within (2 ^ 22) a → Within (2 ^ 30) b → SFits w32 (a -ℤ b)
difference_fits_i32 h l = within_fits w32 (lit< tt) (within_difference h l)

pub times_fits : {z : ℤ} (m : ℕ) → m ≤ 1024 → Within (2 ^ 47) z → SFits w64 (pos m *ℤ z)
times_fits m l h = within_fits w64 (lit< tt) (within_times m l h)
