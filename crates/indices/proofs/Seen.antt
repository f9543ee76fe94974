-- The extremes that a loop has seen, and the spread that they give.
use mathlib.Core.Path.{◌≡◌, refl, sym, subst, ap, ap₂, ◌∙◌}
use mathlib.Core.List.{List, map}
use Prim.Native.Nat.{ℕ, ◌+◌, ◌-◌, ◌^◌, ◌<◌, ◌≤◌}
use native.Mathlib.Omega.{arith}
use lib.Dec.{lit<, lit≤}
use lib.IntN.{ℤ, pos, neg_ℤ, ◌-ℤ◌}
use mir.Syntax.{w32}
use mir.Val.{SFits, of_z, to_z}
use mir.Facts.{to_z-of_z}
use Rattle.lists.specs.Lists.{below}
use Rattle.lists.proofs.Lists.{below_lt, lt_below, in_map, of_map}
use Rattle.integers.specs.Integers.{min_z, max_z, least, greatest}
use Rattle.integers.specs.Range.{Within}
use Rattle.integers.proofs.Linear.{zarith}
use Rattle.integers.proofs.Least.{least_of, greatest_of, greatest_ge}
use Rattle.integers.proofs.Range.{within_grow, within_equal, within_difference, difference_fits_i32}
use Rattle.integers.proofs.Running.{turn_all, running_least, running_greatest}
use Rattle.matrix.specs.Rows.{number}
use Rattle.indices.specs.Asked.{Table}
use Rattle.indices.specs.Margins.{spread, AtMost}
use Rattle.indices.specs.Seen.{Seen}
use Rattle.indices.specs.declared.Extremes.{Extremes}
use Rattle.indices.proofs.Values.{read}

-- a value less the number of a table, of 32 bits
module _ {a b : ℤ} (h : Within (2 ^ 22) a) (l : Within (2 ^ 30) b) where
  reads : (to_z w32 (of_z w32 a) ≡ a) × (to_z w32 (of_z w32 b) ≡ b)
  reads = (read w32 (lit< tt) refl h, read w32 (lit< tt) refl l)

  pub less_fits : SFits w32 (to_z w32 (of_z w32 a) -ℤ to_z w32 (of_z w32 b))
  less_fits = difference_fits_i32 (within_equal reads.0 h) (within_equal reads.1 l)

  pub less_read : to_z w32 (of_z w32 (to_z w32 (of_z w32 a) -ℤ to_z w32 (of_z w32 b))) ≡ a -ℤ b
  less_read = to_z-of_z {w = w32} less_fits ∙ ap₂ ◌-ℤ◌ reads.0 reads.1

module _ {f : ℕ → ℤ} {inside outside : List ℤ} where
  pub seen_none : {e : Extremes} → e.least ≡ pos (2 ^ 31 - 1) → e.greatest ≡ neg_ℤ (pos (2 ^ 31 - 1)) → Seen f inside outside 0 e
  unfolding below
  seen_none p q = record { low = p; high = q }

  pub seen_more : {k : ℕ} {e e' : Extremes} {z : ℤ} → Seen f inside outside k e → z ≡ f k
      → e'.least ≡ min_z e.least (z -ℤ number inside k) → e'.greatest ≡ max_z e.greatest (z -ℤ number outside k) → Seen f inside outside (k + 1) e'
  seen_more {k} s q l g = record {
    low = l ∙ ap₂ min_z s.low (ap (λ w. w -ℤ number inside k) q) ∙ sym (turn_all (λ m y. min_z m (f y -ℤ number inside y)) (pos (2 ^ 31 - 1)) k);
    high = g ∙ ap₂ max_z s.high (ap (λ w. w -ℤ number outside k) q) ∙ sym (turn_all (λ m y. max_z m (f y -ℤ number outside y)) (neg_ℤ (pos (2 ^ 31 - 1))) k);
  }

  pub seen_end : {k n : ℕ} {e : Extremes} → k ≡ n → Seen f inside outside k e → Seen f inside outside n e
  seen_end {e} = subst (λ k. Seen f inside outside k e)

-- the values less the numbers of a table are bounded, and so are the least and the greatest of them
module _ {n : ℕ} {f : ℕ → ℤ} (b : (y : ℕ) → y < n → Within (2 ^ 22) (f y)) (some : 0 < n) where
  module _ {m : ℕ} (fit : n ≤ m) {t : List ℤ} (u : Table m t) where
    abbrev less : ℕ → ℤ
    less y = f y -ℤ number t y

    less_within : (y : ℕ) → y < n → Within (2 ^ 31 - 1) (less y)
    less_within y h = within_grow (lit≤ tt) (within_difference (b y h) (u.small y (omega (arith, h, fit))))

    least_within : Within (2 ^ 31 - 1) (least (map less (below n)))
    least_within = let (y, m, e) = of_map less (below n) (least_of (map less (below n)) (in_map less (lt_below n 0 some))) in
        within_equal e (less_within y (below_lt n m))

    greatest_within : Within (2 ^ 31 - 1) (greatest (map less (below n)))
    greatest_within = let (y, m, e) = of_map less (below n) (greatest_of (map less (below n)) (in_map less (lt_below n 0 some))) in
        within_equal e (less_within y (below_lt n m))

  module _ {m : ℕ} (fit : n ≤ m) {inside outside : List ℤ} (ti : Table m inside) (to : Table m outside) {e : Extremes} (s : Seen f inside outside n e) where
    low_is : e.least ≡ least (map (less fit ti) (below n))
    low_is = s.low ∙ running_least (less fit ti) (pos (2 ^ 31 - 1)) (below n) (lt_below n 0 some) (less_within fit ti 0 some).top

    high_is : e.greatest ≡ greatest (map (less fit to) (below n))
    high_is = s.high ∙ running_greatest (less fit to) (neg_ℤ (pos (2 ^ 31 - 1))) (below n) (lt_below n 0 some) (less_within fit to 0 some).low

    pub seen_within : Within (2 ^ 61) e.least × Within (2 ^ 61) e.greatest
    seen_within = (within_equal low_is (within_grow (lit≤ tt) (least_within fit ti)), within_equal high_is (within_grow (lit≤ tt) (greatest_within fit to)))

    pub seen_spread : e.least -ℤ e.greatest ≡ spread n f inside outside
    unfolding spread
    seen_spread = ap₂ ◌-ℤ◌ low_is high_is

    -- a value of the second table is at most the greatest
    pub seen_greatest : AtMost n f outside e.greatest
    seen_greatest y h = omega (zarith, high_is, greatest_ge (map (less fit to) (below n)) (in_map (less fit to) (lt_below n y h)))
