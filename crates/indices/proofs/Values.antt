-- The values that the loops over a pair list see are bounded; a loop finds the least of them.
use mathlib.Core.Path.{◌≡◌, refl, sym, subst, ap, ◌∙◌}
use mathlib.Core.Bool.{Bool, true, false, not, beq}
use mathlib.Core.List.{List, map}
use Prim.Native.Nat.{ℕ, ◌+◌, ◌^◌, ◌<◌}
use native.Mathlib.Omega.{arith}
use lib.Dec.{T, lit<, lit≤}
use lib.ListN.{length}
use lib.IntN.{ℤ, ◌-ℤ◌}
use mir.Syntax.{Width, w32, w64}
use lib.Signed.{mag}
use mir.Val.{SFits, of_z, to_z, hbits}
use mir.Facts.{to_z-of_z}
use Rattle.lists.specs.Lists.{◌∈◌, below, keep}
use Rattle.lists.proofs.Lists.{below_lt, in_map, of_map, of_keep, keep_cong}
use Rattle.integers.specs.Integers.{min_z, least, greatest}
use Rattle.integers.specs.Range.{Within, Bounded}
use Rattle.integers.proofs.Least.{least_of, greatest_of}
use Rattle.integers.proofs.Range.{within_grow, within_equal, within_difference, within_fits}
use Rattle.integers.proofs.Held.{Held, held_result, passed}
use Rattle.integers.proofs.Running.{Run, run_yes, run_least}
use Rattle.sets.specs.Sets.{has, ◌∋◌, members, others}
use Rattle.sets.proofs.Sets.{has_yes, of_members, of_others}
use Rattle.smallest.proofs.Tops.{top}
use Rattle.clusters.specs.PairList.{place, score}
use Rattle.clusters.proofs.Bounds.{score_within}
use Rattle.matrix.specs.Rows.{Scores, number}
use Rattle.matrix.proofs.Places.{place_few, score_asked}
use Rattle.indices.specs.Asked.{Proper}
use Rattle.indices.specs.Margins.{margin, nearness, separation_from, Numbers}
use Rattle.indices.proofs.Margins.{a_member, an_other}

-- values between −k and k, and a margin of them
module _ {n A k : ℕ} (p : Proper n A) {f : ℕ → ℤ} (b : (y : ℕ) → y < n → Within k (f y)) where
  in_bounded : Bounded k (map f (members n A))
  in_bounded z m = let (y, my, e) = of_map f (members n A) m in within_equal e (b y (of_members n A my).0)

  out_bounded : Bounded k (map f (others n A))
  out_bounded z m = let (y, my, e) = of_map f (others n A) m in within_equal e (b y (of_others n A {i = y} my).0)

  least_in_within : Within k (least (map f (members n A)))
  least_in_within = in_bounded (least (map f (members n A))) (least_of (map f (members n A)) (in_map f (a_member p).1))

  least_out_within : Within k (least (map f (others n A)))
  least_out_within = out_bounded (least (map f (others n A))) (least_of (map f (others n A)) (in_map f (an_other p).1))

  greatest_out_within : Within k (greatest (map f (others n A)))
  greatest_out_within = out_bounded (greatest (map f (others n A))) (greatest_of (map f (others n A)) (in_map f (an_other p).1))

  margin_within : Within (k + k) (margin n f A)
  unfolding margin
  margin_within = within_difference least_in_within greatest_out_within

-- what the code reads of a number that is small
pub read : (w : Width) {k : ℕ} {r z : ℤ} → k < 2 ^ hbits w → r ≡ z → Within k z → to_z w (of_z w r) ≡ z
read w lt e h = to_z-of_z {w = w} (within_fits w lt (within_equal e h)) ∙ e

-- where the pair of x and y stands
pub stands : {n at : ℕ} {l : List ℤ} (x y : ℕ) → Scores n l → x < n → y < n → at ≡ place x y → (at < length l) × (at < 528)
stands x y s h k e = (
  omega (arith, e, (score_asked s {a = x} {b = y} h k).2),
  omega (arith, e, place_few {a = x} {b = y} (omega (arith, h, s.few)) (omega (arith, k, s.few))),
)

-- what the code reads there
pub read_score : (l : List ℤ) (x y : ℕ) {at : ℕ} → at ≡ place x y → Within (2 ^ 22) (score l x y) → to_z w32 (of_z w32 (number l at)) ≡ score l x y
unfolding score
read_score l x y e h = read w32 (lit< tt) (ap (number l) e) h

-- beyond every value: what a running least starts from
pub top_held : Held w64 (of_z w64 top) top
top_held = held_result refl (lit< tt) refl

-- one more turn of a loop over a local that is read as a number
pub run_next : {op : ℤ → ℤ → ℤ} {start : ℤ} {p : ℕ → Bool} {f : ℕ → ℤ} {x : ℕ} {m m' z : ℤ}
    → Run op start p f x (of_z w64 m) → SFits w64 m → p x ≡ true → m' ≡ to_z w64 (of_z w64 z) → mag z < 2 ^ hbits w64
    → z ≡ op m (f x) → Run op start p f (x + 1) (of_z w64 m')
run_next {op} {f = f} {x = x} {z = z} r h t e k q =
    run_yes r t (ap (of_z w64) (e ∙ passed w64 {r = z} k refl)) k (q ∙ ap (λ m. op m (f x)) (sym (to_z-of_z h)))

-- the entries of one side, and that there is one
beq_true : (b : Bool) → beq b true ≡ b
beq_true true = refl
beq_true false = refl

pub side_member : (A x : ℕ) → T (beq (has A x) true) → A ∋ x
side_member A x t = has_yes A x (subst T (beq_true (has A x)) t)

pub side_members : (n A : ℕ) → keep (λ y. beq (has A y) true) (below n) ≡ members n A
unfolding members
side_members n A = keep_cong (λ y. beq (has A y) true) (has A) (below n) (λ y _. beq_true (has A y))

pub side_others : (n A : ℕ) → keep (λ y. beq (has A y) false) (below n) ≡ others n A
unfolding others
side_others n A = keep_cong (λ y. beq (has A y) false) (λ y. not (has A y)) (below n) (λ y _. go (has A y))
  where
    go : (b : Bool) → beq b false ≡ not b
    go true = refl
    go false = refl

pub of_side : (n A : ℕ) (inner : Bool) {y : ℕ} → y ∈ keep (λ y. beq (has A y) inner) (below n) → (y < n) × T (beq (has A y) inner)
of_side n A inner m = let (h, t) = of_keep (λ y. beq (has A y) inner) (below n) m in (below_lt n h, t)

on_side : {n A : ℕ} → Proper n A → (inner : Bool) → (y : ℕ) × (y ∈ keep (λ y. beq (has A y) inner) (below n))
on_side {n} {A} p true = let (y, m) = a_member p in (y, subst (λ (l : List ℕ). y ∈ l) (sym (side_members n A)) m)
on_side {n} {A} p false = let (y, m) = an_other p in (y, subst (λ (l : List ℕ). y ∈ l) (sym (side_others n A)) m)

-- the least, once the loop is through
module _ {n A : ℕ} (p : Proper n A) {f : ℕ → ℤ} {x i : ℕ} (e : x ≡ n) where
  pub least_member : ((y : ℕ) → Within (2 ^ 30) (f y)) → Run min_z top (has A) f x i → to_z w64 i ≡ least (map f (members n A))
  unfolding members
  least_member b r = let (a, m) = a_member p in run_least m (subst (λ (y : ℕ). Run min_z top (has A) f y i) e r) (b a).top

  pub least_side : (inner : Bool) → ((y : ℕ) → y < n → T (beq (has A y) inner) → Within (2 ^ 30) (f y))
      → Run min_z top (λ y. beq (has A y) inner) f x i → to_z w64 i ≡ least (map f (keep (λ y. beq (has A y) inner) (below n)))
  least_side inner b r =
      let (y, m) = on_side p inner in
      let (h, t) = of_side n A inner m in
      run_least m (subst (λ (y : ℕ). Run min_z top (λ y. beq (has A y) inner) f y i) e r) (b y h t).top

-- the values that the loops over a pair list see
pub margin_beyond : {n A : ℕ} → Proper n A → (l t : List ℤ) → Numbers n t → (x : ℕ) → ((y : ℕ) → y < n → Within (2 ^ 22) (score l x y))
    → Within (2 ^ 30) (margin n (λ y. score l x y -ℤ number t y) A)
margin_beyond p l t u x r = within_grow (lit≤ tt) (margin_within p (λ y h. within_difference (r y h) (u y h)))

module _ {l : List ℤ} (s : Bounded (2 ^ 22) l) where
  pub small_row : {n : ℕ} (x y : ℕ) → y < n → Within (2 ^ 22) (score l x y)
  small_row x y _ = score_within s x y

  nearness_within : (a x y : ℕ) → Within (2 ^ 23) (nearness (score l) a x y)
  unfolding nearness
  nearness_within a x y = within_difference (score_within s y x) (score_within s a y)

  module _ {n A : ℕ} (p : Proper n A) where
    split_beyond : (a x : ℕ) → Within (2 ^ 30) (margin n (nearness (score l) a x) A)
    split_beyond a x = within_grow (lit≤ tt) (margin_within p (λ y _. nearness_within a x y))

    pub separation_beyond : (a : ℕ) → Within (2 ^ 30) (separation_from n (score l) A a)
    unfolding separation_from
    separation_beyond a = least_out_within p (λ x _. split_beyond a x)
