-- The blocks of a partition by their places.
use mathlib.Core.Path.{◌≡◌, sym, ◌∙◌, subst}
use mathlib.Core.Logic.{◌≢◌}
use mathlib.Core.List.{List, [], ◌∷◌}
use Prim.Native.Nat.{ℕ, zero, suc, ◌-◌, ◌<◌}
use native.Mathlib.Decide.{dec_lt}
use native.Mathlib.Omega.{arith}
use lib.IntN.{ℤ, pos, ◌+ℤ◌}
use lib.Signed.{◌≤ℤ◌}
use lib.ListN.{length, get_or, set, length-set, length-take}
use lib.Seq.{get_or-take, get_or-set_same, get_or-set_other}
use Rattle.lists.proofs.Lists.{get_d_in}
use Rattle.integers.specs.Integers.{sum_of}
use Rattle.integers.proofs.Linear.{up, dn, zarith, +at}
use Rattle.integers.proofs.Sums.{sum_nonneg}
use Rattle.sets.specs.Sets.{◌∋◌, ◌∌◌, ◌∪◌}
use Rattle.clusters.proofs.Blocks.{Partition, holds, disjoint}
use Rattle.linkage.specs.Blocks.{merged_at}

-- of summands that are not below 0, one and two are at most the sum
one_place : (l : List ℕ) (f : ℕ → ℤ) → ((x : ℕ) → pos 0 ≤ℤ f x) → (a : ℕ) → a < length l → f (get_or l a 0) ≤ℤ sum_of l f
unfolding sum_of up dn
one_place [] f n a h = absurd (omega arith)
one_place (x ∷ l) f n zero h = omega (zarith, sum_nonneg l f (λ y _. n y), +at (f x) (sum_of l f))
one_place (x ∷ l) f n (suc a) h = omega (zarith, one_place l f n a (omega arith), n x, +at (f x) (sum_of l f))

two_places : (l : List ℕ) (f : ℕ → ℤ) → ((x : ℕ) → pos 0 ≤ℤ f x) → (a b : ℕ) → a < b → b < length l → (f (get_or l a 0) +ℤ f (get_or l b 0)) ≤ℤ sum_of l f
unfolding sum_of up dn
two_places [] f n a b h k = absurd (omega arith)
two_places (x ∷ l) f n a zero h k = absurd (omega arith)
two_places (x ∷ l) f n zero (suc b) h k = omega (zarith, one_place l f n b (omega arith), +at (f x) (sum_of l f), +at (f x) (f (get_or l b 0)))
two_places (x ∷ l) f n (suc a) (suc b) h k =
    omega (zarith, two_places l f n a b (omega arith) (omega arith), n x, +at (f x) (sum_of l f), +at (f (get_or l a 0)) (f (get_or l b 0)))

module _ {n : ℕ} {bs : List ℕ} (p : Partition n bs) where
  -- blocks at two places differ, and share no entry
  rising_differ : (a b : ℕ) → a < b → b < length bs → get_or bs a 0 ≢ get_or bs b 0
  unfolding holds up dn
  rising_differ a b h k e =
      let (i, l, m) = p.some (get_or bs a 0) (get_d_in bs a 0 (omega arith)) in
      let o : get_or bs b 0 ∋ i = subst (λ (B : ℕ). B ∋ i) e m in
      omega (zarith, p.once i l, two_places bs (holds i) (λ B. omega zarith) a b h k, m.bit, o.bit, +at (holds i (get_or bs a 0)) (holds i (get_or bs b 0)))

  pub differ : (a b : ℕ) → a < length bs → b < length bs → a ≢ b → get_or bs a 0 ≢ get_or bs b 0
  differ a b ha hb d = go (dec_lt a b)
    where
      go : Dec (a < b) → get_or bs a 0 ≢ get_or bs b 0
      go (yes h) = rising_differ a b h hb
      go (no g) = λ e. rising_differ b a (omega arith) ha (sym e)

  pub places_apart : (a b : ℕ) → a < length bs → b < length bs → a ≢ b → (i : ℕ) → i < n → get_or bs a 0 ∋ i → get_or bs b 0 ∌ i
  places_apart a b ha hb d = disjoint p (get_or bs a 0) (get_or bs b 0) (get_d_in bs a 0 ha) (get_d_in bs b 0 hb) (differ a b ha hb d)

  pub some_at : (a : ℕ) → a < length bs → (i : ℕ) × (i < n) × (get_or bs a 0 ∋ i)
  some_at a h = p.some (get_or bs a 0) (get_d_in bs a 0 h)

-- the union of the blocks at i and j stands at i
abbrev pub joined_at : ℕ → ℕ → List ℕ → List ℕ
joined_at i j bs = set bs i (get_or bs i 0 ∪ get_or bs j 0)

abbrev last : List ℕ → ℕ
last bs = get_or bs (length bs - 1) 0

module _ (i j : ℕ) (bs : List ℕ) (hi : i < j) (hj : j < length bs) where
  pub joined_here : get_or (joined_at i j bs) i 0 ≡ get_or bs i 0 ∪ get_or bs j 0
  joined_here = get_or-set_same bs i (get_or bs i 0 ∪ get_or bs j 0) 0 (omega arith)

  pub joined_other : (p : ℕ) → p ≢ i → get_or (joined_at i j bs) p 0 ≡ get_or bs p 0
  joined_other p d = get_or-set_other bs i p (get_or bs i 0 ∪ get_or bs j 0) 0 d

  -- and after the merge the last block stands at j
  pub length_merged_at : length (merged_at i j bs) ≡ length bs - 1
  unfolding merged_at
  length_merged_at = length-take (length bs - 1) (set (joined_at i j bs) j (last bs))
      ∙ omega (arith, length-set (joined_at i j bs) j (last bs), length-set bs i (get_or bs i 0 ∪ get_or bs j 0))

  pub merged_moved : j < length bs - 1 → get_or (merged_at i j bs) j 0 ≡ get_or (joined_at i j bs) (length bs - 1) 0
  unfolding merged_at
  merged_moved h =
      get_or-take (length bs - 1) (set (joined_at i j bs) j (last bs)) j 0 h
      ∙ get_or-set_same (joined_at i j bs) j (last bs) 0 (omega (arith, length-set bs i (get_or bs i 0 ∪ get_or bs j 0)))
      ∙ sym (joined_other (length bs - 1) (λ e. omega arith))

  pub merged_kept : (p : ℕ) → p < length bs - 1 → p ≢ j → get_or (merged_at i j bs) p 0 ≡ get_or (joined_at i j bs) p 0
  unfolding merged_at
  merged_kept p h d = get_or-take (length bs - 1) (set (joined_at i j bs) j (last bs)) p 0 h ∙ get_or-set_other (joined_at i j bs) j p (last bs) 0 d

  pub merged_joined : get_or (merged_at i j bs) i 0 ≡ get_or bs i 0 ∪ get_or bs j 0
  merged_joined = merged_kept i (omega arith) (λ e. omega arith) ∙ joined_here
