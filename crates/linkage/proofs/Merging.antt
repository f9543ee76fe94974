-- The blocks as the code holds them: what the stores of a merge leave, and that it is the merge of the two blocks, in another order.
use mathlib.Core.Path.{◌≡◌, sym, ap, ◌∙◌, subst}
use mathlib.Core.Logic.{◌≢◌}
use mathlib.Core.List.{List, [], ◌∷◌, ◌++◌, map, append-nil}
use Prim.Native.Nat.{ℕ, zero, suc, ◌-◌, ◌<◌, ◌≤◌}
use native.Mathlib.Decide.{ℕ_discrete}
use native.Mathlib.Omega.{arith}
use lib.IntN.{ℤ, ◌+ℤ◌}
use lib.ListN.{length, get_or, take, set, length-set, drop_of_length-le}
use lib.Seq.{get_or-take, take-append_seam, take-set-lt, take-take, take_all, take-suc, get_or-set_same, get_or-set_other, length-take-le}
use Rattle.lists.specs.Lists.{below}
use Rattle.lists.proofs.Lists.{get_d_in}
use Rattle.lists.proofs.Written.{Written, all_written}
use Rattle.integers.specs.Integers.{sum_of}
use Rattle.integers.proofs.Linear.{zarith, +at}
use Rattle.integers.proofs.Sums.{sum_snoc}
use Rattle.sets.specs.Sets.{◌∪◌}
use Rattle.clusters.specs.Linkage.{merged, singles}
use Rattle.clusters.proofs.Exists.{count_singles}
use Rattle.clusters.proofs.Arrangement.{SameBlocks, sum_merged}
use Rattle.linkage.specs.Blocks.{merged_at}

-- slots of which each is written
pub all_slots : {f : ℕ → ℕ} (lent : List ℕ) {l : List ℕ} {i : ℕ} (n : ℕ) → n ≤ length lent → Written f (take n lent) l i → i ≡ n → l ≡ map f (below n)
all_slots {f} lent n h w e =
    all_written n w (omega arith) (omega arith) ∙ ap (λ (r : List ℕ). map f (below n) ++ r) (drop_of_length-le (take n lent) {i = n} (omega (arith, length-take-le n lent h))) ∙ append-nil (map f (below n))

-- the single entries, at the front of slots
pub front_singles : (n : ℕ) (l : List ℕ) → take n (singles n ++ l) ≡ singles n
front_singles n l = subst (λ (k : ℕ). take k (singles n ++ l) ≡ singles n) (count_singles n) (take-append_seam (singles n) l)

-- what the stores of a merge leave in the first k - 1 of the sets
pub stores : (l : List ℕ) (k i j : ℕ) → i < j → j < k → k ≤ length l
    → take (k - 1) (set (set l i (get_or l i 0 ∪ get_or l j 0)) j (get_or (set l i (get_or l i 0 ∪ get_or l j 0)) (k - 1) 0)) ≡ merged_at i j (take k l)
unfolding merged_at
stores l k i j hi hj hk =
    let ki : i < k = omega arith in
    let kl : k - 1 < k = omega arith in
    let km : k - 1 ≤ k = omega arith in
    rw (
      length-take-le k l hk,
      get_or-take k l i 0 ki,
      get_or-take k l j 0 hj,
      get_or-take k l (k - 1) 0 kl,
      ← take-set-lt k l i _ ki,
      ← take-set-lt k _ j _ hj,
      take-take (k - 1) k _ km,
    )
    (rw (get_or-set_other l i (k - 1) (get_or l i 0 ∪ get_or l j 0) 0 (λ e. omega arith)))

-- a sum over a list with one element set anew, and without its last
sum_set : (l : List ℕ) (i v : ℕ) (f : ℕ → ℤ) → i < length l → sum_of (set l i v) f +ℤ f (get_or l i 0) ≡ sum_of l f +ℤ f v
unfolding sum_of
sum_set [] i v f h = absurd (omega arith)
sum_set (x ∷ l) zero v f h = omega (zarith, +at (f v) (sum_of l f), +at (f x) (sum_of l f), +at (f v +ℤ sum_of l f) (f x), +at (f x +ℤ sum_of l f) (f v))
sum_set (x ∷ l) (suc i) v f h =
    let s = sum_of (set l i v) f in
    let y = f (get_or l i 0) in
    omega (
      zarith,
      sum_set l i v f (omega arith),
      +at s y,
      +at (sum_of l f) (f v),
      +at (f x) s,
      +at (f x) (sum_of l f),
      +at (f x +ℤ s) y,
      +at (f x +ℤ sum_of l f) (f v),
    )

sum_front : (l : List ℕ) (k : ℕ) (f : ℕ → ℤ) → length l ≡ suc k → sum_of l f ≡ sum_of (take k l) f +ℤ f (get_or l k 0)
sum_front l k f e =
    let h : k < length l = omega arith in
    ap (λ m. sum_of m f) (sym (take_all (suc k) l (omega arith)) ∙ take-suc l k 0 h) ∙ sum_snoc (take k l) (get_or l k 0) f

module _ (i j : ℕ) (bs : List ℕ) (hi : i < j) (hj : j < length bs) where
  -- the last block is still the last once it stands at j too
  last_stays : (k X : ℕ) → length bs ≡ suc k → get_or (set (set bs i X) j (get_or bs k 0)) k 0 ≡ get_or bs k 0
  last_stays k X e = go (ℕ_discrete k j)
    where
      go : Dec (k ≡ j) → get_or (set (set bs i X) j (get_or bs k 0)) k 0 ≡ get_or bs k 0
      go (yes q) = rw q (get_or-set_same (set bs i X) j (get_or bs j 0) 0 (omega (arith, length-set bs i X)))
      go (no d) = get_or-set_other (set bs i X) j k (get_or bs k 0) 0 d ∙ get_or-set_other bs i k X 0 (λ q. omega arith)

  sum_merged_at : (f : ℕ → ℤ) → sum_of (merged_at i j bs) f +ℤ (f (get_or bs i 0) +ℤ f (get_or bs j 0)) ≡ f (get_or bs i 0 ∪ get_or bs j 0) +ℤ sum_of bs f
  unfolding merged_at
  sum_merged_at f =
      end (f U) (f W) (f X) (f L) (sum_of bs f) (sum_of (set bs i X) f) (sum_of (set (set bs i X) j L) f) (sum_of (take k (set (set bs i X) j L)) f)
      (sum_set bs i X f (omega arith))
      (ap (λ y. sum_of (set (set bs i X) j L) f +ℤ f y) (sym (get_or-set_other bs i j X 0 (λ q. omega arith)))
      ∙ sum_set (set bs i X) j L f (omega (arith, length-set bs i X)))
      (sum_front (set (set bs i X) j L) k f (omega (arith, length-set bs i X, length-set (set bs i X) j L))
      ∙ ap (λ y. sum_of (take k (set (set bs i X) j L)) f +ℤ f y) (last_stays k X (omega arith)))
    where
      k : ℕ
      k = length bs - 1

      U : ℕ
      U = get_or bs i 0

      W : ℕ
      W = get_or bs j 0

      X : ℕ
      X = U ∪ W

      L : ℕ
      L = get_or bs k 0

      end : (u w x l b b₁ b₂ m : ℤ) → b₁ +ℤ u ≡ b +ℤ x → b₂ +ℤ w ≡ b₁ +ℤ l → b₂ ≡ m +ℤ l → m +ℤ (u +ℤ w) ≡ x +ℤ b
      end u w x l b b₁ b₂ m p q r = omega (zarith, p, q, r, +at b₁ u, +at b x, +at b₂ w, +at b₁ l, +at m l, +at m (u +ℤ w), +at u w, +at x b)

  pub same_merged_at : get_or bs i 0 ≢ get_or bs j 0 → SameBlocks (merged_at i j bs) (merged (get_or bs i 0) (get_or bs j 0) bs)
  same_merged_at ne = record { sums = λ f. end f (sum_merged_at f) (sum_merged U W bs f (get_d_in bs i 0 (omega arith)) (get_d_in bs j 0 hj) ne) }
    where
      U : ℕ
      U = get_or bs i 0

      W : ℕ
      W = get_or bs j 0

      end : (f : ℕ → ℤ) → sum_of (merged_at i j bs) f +ℤ (f U +ℤ f W) ≡ f (U ∪ W) +ℤ sum_of bs f
          → sum_of (merged U W bs) f +ℤ (f U +ℤ f W) ≡ f (U ∪ W) +ℤ sum_of bs f → sum_of (merged_at i j bs) f ≡ sum_of (merged U W bs) f
      end f p q = omega (zarith, p, q, +at (sum_of (merged_at i j bs) f) (f U +ℤ f W), +at (sum_of (merged U W bs) f) (f U +ℤ f W))
