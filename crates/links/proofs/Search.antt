-- The search for the greatest link, row by row.
use mathlib.Core.Path.{◌≡◌, sym, ap, ap₂, ◌∙◌, subst, subst₂}
use mathlib.Core.Bool.{true, false}
use mathlib.Core.List.{List}
use Prim.Native.Nat.{ℕ, ◌+◌, ◌*◌, ◌^◌, ◌≤◌, ◌<◌}
use native.Mathlib.Nat.{mul_comm, mul-pos, mul-le-mul}
use native.Mathlib.Decide.{ℕ_discrete}
use native.Mathlib.Omega.{arith}
use lib.Dec.{lit<}
use lib.IntN.{ℤ, pos, ◌*ℤ◌}
use lib.ListN.{get_or}
use lib.Signed.{◌≤ℤ◌, ◌<ℤ◌, ≤ℤ_refl, le_z}
use mir.Facts.{to_z-of_z}
use mir.Syntax.{w64}
use mir.Val.{of_z, to_z}
use Rattle.integers.specs.Range.{Within}
use Rattle.integers.proofs.Linear.{zarith, mul_assoc}
use Rattle.integers.proofs.Range.{within_fits}
use Rattle.integers.proofs.Tests.{le_z_true, le_z_false}
use Rattle.clusters.specs.Linkage.{Quotient, ◌≼◌}
use Rattle.clusters.proofs.Links.{≼_trans}
use Rattle.links.specs.declared.Found.{Found}
use Rattle.links.specs.Table.{entry, Small, quotient_at, Weights, GreatestAt, FoundBefore}

≼_refl : (p : Quotient) → p ≼ p
unfolding ◌≼◌
≼_refl p = ≤ℤ_refl (pos p.den *ℤ p.num)

pub small_first : {k n : ℕ} {t : List ℤ} → k ≤ n → Small n t → Small k t
small_first h s = record { size = omega (arith, s.size); within = λ a b ha hb d. s.within a b (omega arith) (omega arith) d; own = λ a ha. s.own a (omega arith) }

-- the first two places
pub found_first : (w : List ℕ) (t : List ℤ) {z : ℤ} {d : ℕ} → z ≡ entry t 1 0
    → d ≡ get_or w 1 0 * get_or w 0 0 → FoundBefore w t (2 * 32) record { i = 0; j = 1; num = z; den = d }
found_first w t e h = record { rising = omega arith; inside = omega arith; num_is = e; den_is = h; most = only }
  where
    only : (p q : ℕ) → p < q → q * 32 + p < 2 * 32 → quotient_at w t q p ≼ quotient_at w t 1 0
    only p q l m =
        let p_is : 0 ≡ p = omega arith in
        let q_is : 1 ≡ q = omega arith in
        subst (λ (x : ℕ). quotient_at w t q x ≼ quotient_at w t 1 0) p_is
        (subst (λ (x : ℕ). quotient_at w t x 0 ≼ quotient_at w t 1 0) q_is (≼_refl (quotient_at w t 1 0)))

module _ {w : List ℕ} {t : List ℤ} {m : ℕ} {f : Found} (g : FoundBefore w t m f) where
  -- what is computed of it stays far below what 64 bits hold
  module _ {k : ℕ} (s : Small k t) (h : m ≤ k * 32) where
    pub found_within : Within (2 ^ 42) f.num
    found_within = rw g.num_is (s.within f.j f.i (omega (arith, g.inside)) (omega (arith, g.inside, g.rising)) (λ e. omega (arith, g.rising)))

    pub found_value : to_z w64 (of_z w64 f.num) ≡ f.num
    found_value = to_z-of_z (within_fits w64 (lit< tt) found_within)

  pub found_den : {k : ℕ} → Weights k w → m ≤ k * 32 → (1 ≤ f.den) × (f.den ≤ 1024)
  found_den v h = let (a, b) = v f.j (omega (arith, g.inside)) in
      let (c, d) = v f.i (omega (arith, g.inside, g.rising)) in
      rw g.den_is (mul-pos a c, mul-le-mul b d)

  -- no two places stand between the two places of the table
  pub found_same : {n : ℕ} → m ≤ n → ((p q : ℕ) → p < q → q * 32 + p < n → q * 32 + p < m) → FoundBefore w t n f
  found_same l h = record {
    rising = g.rising;
    inside = omega (arith, g.inside);
    num_is = g.num_is;
    den_is = g.den_is;
    most = λ p q r o. g.most p q r (h p q r o);
  }

  pub found_all : {k : ℕ} → k ≤ 32 → m ≡ k * 32 → GreatestAt k (quotient_at w t) f.i f.j
  found_all h e = record { rising = g.rising; inside = omega (arith, g.inside); most = λ p q r l. g.most p q r (omega arith) }

module _ {w : List ℕ} {t : List ℤ} {f : Found} (i j : ℕ) (hi : i < j) (hj : j < 32) (g : FoundBefore w t (j * 32 + i) f) where
  next : (c d : ℕ) → ((p q : ℕ) → p < q → q * 32 + p < j * 32 + i → quotient_at w t q p ≼ quotient_at w t d c) → quotient_at w t j i ≼ quotient_at w t d c
      → (p q : ℕ) → p < q → q * 32 + p < j * 32 + (i + 1) → quotient_at w t q p ≼ quotient_at w t d c
  next c d h e p q r l = go (ℕ_discrete (q * 32 + p) (j * 32 + i))
    where
      go : Dec (q * 32 + p ≡ j * 32 + i) → quotient_at w t q p ≼ quotient_at w t d c
      go (yes o) =
          let p_is : i ≡ p = omega arith in
          let q_is : j ≡ q = omega arith in
          subst (λ (x : ℕ). quotient_at w t q x ≼ quotient_at w t d c) p_is (subst (λ (x : ℕ). quotient_at w t x i ≼ quotient_at w t d c) q_is e)
      go (no n) = h p q r (omega arith)

  -- the code's test compares the two links
  module _ {x y : ℤ} (left : x ≡ pos f.den *ℤ entry t j i) (right : y ≡ pos (get_or w i 0) *ℤ (pos (get_or w j 0) *ℤ f.num)) where
    left_is : x ≡ pos (get_or w f.j 0 * get_or w f.i 0) *ℤ entry t j i
    left_is = left ∙ ap (λ (d : ℕ). pos d *ℤ entry t j i) g.den_is

    right_is : y ≡ pos (get_or w j 0 * get_or w i 0) *ℤ entry t f.j f.i
    right_is =
        right
        ∙ sym (mul_assoc (get_or w i 0) (get_or w j 0) f.num)
        ∙ ap₂ (λ (d : ℕ) (z : ℤ). pos d *ℤ z) (mul_comm (get_or w i 0) (get_or w j 0)) g.num_is

    pub found_keep : le_z x y ≡ true → FoundBefore w t (j * 32 + (i + 1)) f
    unfolding quotient_at ◌≼◌
    found_keep e = record {
      rising = g.rising;
      inside = omega (arith, g.inside);
      num_is = g.num_is;
      den_is = g.den_is;
      most = next f.i f.j g.most (subst₂ ◌≤ℤ◌ left_is right_is (le_z_true e));
    }

    pub found_new : 0 < f.den → le_z x y ≡ false → {z : ℤ} → z ≡ entry t j i → {d : ℕ}
        → d ≡ get_or w j 0 * get_or w i 0 → FoundBefore w t (j * 32 + (i + 1)) record { i = i; j = j; num = z; den = d }
    unfolding quotient_at ◌≼◌
    found_new h e n o = record {
      rising = hi;
      inside = omega arith;
      num_is = n;
      den_is = o;
      most = next i j (λ p q l m. ≼_trans (quotient_at w t q p) (quotient_at w t f.j f.i) (quotient_at w t j i)
          (rw (← g.den_is) h) (g.most p q l m) (subst₂ ◌≤ℤ◌ right_is left_is below)) (≼_refl (quotient_at w t j i));
    }
      where
        below : y ≤ℤ x
        below = let l : y <ℤ x = le_z_false e in omega zarith
