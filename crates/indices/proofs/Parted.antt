-- Values less the numbers of two tables, of which each has the numbers of one side of a set: the spread is the margin.
use mathlib.Core.Path.{◌≡◌, refl, sym, ap, ap₂, ◌∙◌}
use mathlib.Core.Logic.{⊎_elim}
use mathlib.Core.Bool.{Bool, true, false, cond, beq}
use mathlib.Core.List.{List, map}
use Prim.Native.Nat.{ℕ, ◌+◌, ◌^◌, ◌<◌}
use native.Mathlib.Omega.{arith}
use lib.Dec.{T, lit<, lit≤}
use lib.IntN.{ℤ, pos, neg_ℤ, ◌-ℤ◌}
use lib.ListN.{length, set, get_or, length-set, replicate, length-replicate}
use lib.Seq.{get_or-set_same, get_or-set_other}
use native.Mathlib.Decide.{ℕ_discrete}
use lib.Signed.{◌≤ℤ◌}
use mir.Syntax.{w32, w64}
use mir.Val.{of_z, to_z}
use Rattle.lists.specs.Lists.{below, keep}
use Rattle.lists.proofs.Lists.{below_lt, lt_below, in_map, of_map, map_cong}
use Rattle.lists.proofs.Tests.{T_true, T_false}
use Rattle.lists.proofs.Written.{place_more}
use Rattle.integers.specs.Integers.{min_z, least, greatest}
use Rattle.integers.specs.Range.{Within}
use Rattle.integers.proofs.Linear.{zarith, up, dn, -at}
use Rattle.integers.proofs.Range.{within, zero_within, within_grow, within_equal}
use Rattle.integers.proofs.Running.{Run}
use Rattle.integers.proofs.Least.{least_le, least_of, greatest_ge, greatest_of}
use Rattle.sets.specs.Sets.{has, ◌∋◌, ◌∌◌, members, others}
use Rattle.sets.proofs.Sets.{yes_has, no_has, in_or_out, in_members, of_members, in_others, of_others}
use Rattle.smallest.proofs.Tops.{top}
use Rattle.clusters.specs.PairList.{score}
use Rattle.clusters.specs.Indices.{strong_index}
use Rattle.clusters.proofs.PairList.{score_symm}
use Rattle.matrix.specs.Rows.{number, Row, Cleared}
use Rattle.matrix.proofs.Tables.{cleared_at}
use Rattle.indices.specs.Asked.{Proper, Table}
use Rattle.indices.specs.Margins.{margin, nearness, separation_from, least_margin, spread, Numbers, Parted, AtMost}
use Rattle.indices.proofs.Margins.{a_member, an_other, strong_margins}
use Rattle.indices.proofs.Values.{read, side_members, side_others, of_side, least_side, margin_beyond}

pub far_within : {k : ℕ} → Within k (pos k)
unfolding up dn
far_within = within (omega arith) (omega arith)

pub number_within : {z : ℤ} → Within (2 ^ 22) z → Within (2 ^ 30) (to_z w32 (of_z w32 z))
number_within h = within_equal (read w32 (lit< tt) refl h) (within_grow (lit≤ tt) h)

-- a cleared table
pub cleared : (n : ℕ) → Cleared (replicate n (pos 0))
cleared n = ap (λ (k : ℕ). replicate k (pos 0)) (sym (length-replicate n (pos 0)))

pub table_none : (n : ℕ) → Table n (replicate n (pos 0))
table_none n = record { long = omega (arith, length-replicate n (pos 0)); small = λ y _. within_equal (cleared_at (cleared n) y) zero_within }

-- a number put into a table
pub table_set : {n : ℕ} (k : ℕ) {t : List ℤ} {z : ℤ} → k < n → Table n t → Within (2 ^ 30) z → Table n (set t k z)
table_set {n} k {t} {z} l u w = record { long = omega (arith, u.long, length-set t k z); small = λ y h. go y h (ℕ_discrete y k) }
  where
    go : (y : ℕ) → y < n → Dec (y ≡ k) → Within (2 ^ 30) (get_or (set t k z) y (pos 0))
    go y h (yes e) = rw (e, get_or-set_same t k z (pos 0) (omega (arith, u.long))) w
    go y h (no e) = rw (get_or-set_other t k y z (pos 0) e) (u.small y h)

-- both tables filled from the front
pub part_more : {numbers inside outside : List ℤ} {A k : ℕ} {x z : ℤ} {b : Bool}
    → Parted k numbers A inside outside → has A k ≡ b → k < length inside → k < length outside
    → x ≡ cond b (number numbers k) (neg_ℤ (pos (2 ^ 30))) → z ≡ cond b (pos (2 ^ 30)) (number numbers k)
    → Parted (k + 1) numbers A (set inside k x) (set outside k z)
part_more {numbers} {inside} {outside} {A} {k} {x} {z} p t h m e q = record {
  members = place_more (pos 0) (λ y. cond (has A y) (number numbers y) (neg_ℤ (pos (2 ^ 30)))) inside
      p.members h (e ∙ ap (λ (b : Bool). cond b (number numbers k) (neg_ℤ (pos (2 ^ 30)))) (sym t));
  others = place_more (pos 0) (λ y. cond (has A y) (pos (2 ^ 30)) (number numbers y)) outside p.others m
      (q ∙ ap (λ (b : Bool). cond b (pos (2 ^ 30)) (number numbers k)) (sym t));
}

-- f on one side of A, and on the other side no less than any f, or no greater
module _ {n A : ℕ} (p : Proper n A) (f h : ℕ → ℤ) where
  least_inside : ((y : ℕ) → y < n → A ∋ y → h y ≡ f y) → ((a y : ℕ) → a < n → y < n → A ∌ y → f a ≤ℤ h y)
      → least (map h (below n)) ≡ least (map f (members n A))
  least_inside same beyond =
      let (a, ma) = a_member p in
      let (b, mb, e) = of_map f (members n A) (least_of (map f (members n A)) (in_map f ma)) in
      let (hb, kb) = of_members n A mb in
      let (c, mc, q) = of_map h (below n) (least_of (map h (below n)) (in_map h (lt_below n b hb))) in
      let fore = least_le (map h (below n)) (in_map h (lt_below n b hb)) in
      ⊎_elim
      (λ k. omega (zarith, fore, same b hb kb, e, q, same c (below_lt n mc) k, least_le (map f (members n A)) (in_map f (in_members n A (below_lt n mc) k))))
      (λ k. omega (zarith, fore, same b hb kb, e, q, beyond b c hb (below_lt n mc) k))
      (in_or_out A c)

  greatest_outside : ((y : ℕ) → y < n → A ∌ y → h y ≡ f y) → ((a y : ℕ) → a < n → y < n → A ∋ y → h y ≤ℤ f a)
      → greatest (map h (below n)) ≡ greatest (map f (others n A))
  greatest_outside same beyond =
      let (a, ma) = an_other p in
      let (b, mb, e) = of_map f (others n A) (greatest_of (map f (others n A)) (in_map f ma)) in
      let (hb, kb) = of_others n A {i = b} mb in
      let (c, mc, q) = of_map h (below n) (greatest_of (map h (below n)) (in_map h (lt_below n b hb))) in
      let fore = greatest_ge (map h (below n)) (in_map h (lt_below n b hb)) in
      ⊎_elim
      (λ k. omega (zarith, fore, same b hb kb, e, q, beyond b c hb (below_lt n mc) k))
      (λ k. omega (zarith, fore, same b hb kb, e, q, same c (below_lt n mc) k, greatest_ge (map f (others n A)) (in_map f (in_others n A (below_lt n mc) k))))
      (in_or_out A c)

module _ {n A : ℕ} {numbers inside outside : List ℤ} (t : Parted n numbers A inside outside) where
  at_member : (y : ℕ) → y < n → A ∋ y → (number inside y ≡ number numbers y) × (number outside y ≡ pos (2 ^ 30))
  at_member y h k = let e = T_true {b = has A y} (yes_has A y k) in (
    t.members y h ∙ ap (λ (b : Bool). cond b (number numbers y) (neg_ℤ (pos (2 ^ 30)))) e,
    t.others y h ∙ ap (λ (b : Bool). cond b (pos (2 ^ 30)) (number numbers y)) e,
  )

  at_other : (y : ℕ) → y < n → A ∌ y → (number inside y ≡ neg_ℤ (pos (2 ^ 30))) × (number outside y ≡ number numbers y)
  at_other y h k = let e = T_false {b = has A y} (no_has A y k) in (
    t.members y h ∙ ap (λ (b : Bool). cond b (number numbers y) (neg_ℤ (pos (2 ^ 30)))) e,
    t.others y h ∙ ap (λ (b : Bool). cond b (pos (2 ^ 30)) (number numbers y)) e,
  )

  module _ (c : Numbers n numbers) {f : ℕ → ℤ} (b : (y : ℕ) → y < n → Within (2 ^ 22) (f y)) where
    far_inside : (a y : ℕ) → a < n → y < n → A ∌ y → (f a -ℤ number numbers a) ≤ℤ (f y -ℤ number inside y)
    unfolding up dn
    far_inside a y j h k = omega (zarith, (at_other y h k).0, -at (f a) (number numbers a), -at (f y) (number inside y), (b a j).top, (b y h).low, (c a j).low)

    far_outside : (a y : ℕ) → a < n → y < n → A ∋ y → (f y -ℤ number outside y) ≤ℤ (f a -ℤ number numbers a)
    unfolding up dn
    far_outside a y j h k = omega (zarith, (at_member y h k).1, -at (f a) (number numbers a), -at (f y) (number outside y), (b a j).low, (b y h).top, (c a j).top)

    parted_spread : Proper n A → spread n f inside outside ≡ margin n (λ y. f y -ℤ number numbers y) A
    unfolding spread margin
    parted_spread p = ap₂ ◌-ℤ◌
        (least_inside p (λ y. f y -ℤ number numbers y) (λ y. f y -ℤ number inside y) (λ y h k. ap (λ z. f y -ℤ z) (at_member y h k).0) far_inside)
        (greatest_outside p (λ y. f y -ℤ number numbers y) (λ y. f y -ℤ number outside y) (λ y h k. ap (λ z. f y -ℤ z) (at_other y h k).1) far_outside)

margin_cong : (n A : ℕ) {f g : ℕ → ℤ} → ((y : ℕ) → y < n → f y ≡ g y) → margin n f A ≡ margin n g A
unfolding margin
margin_cong n A {f} {g} e = ap₂ (λ (l m : List ℤ). least l -ℤ greatest m)
    (map_cong f g (members n A) (λ y m. e y (of_members n A m).0)) (map_cong f g (others n A) (λ y m. e y (of_others n A {i = y} m).0))

pub zeros : (n : ℕ) {t : List ℤ} → Cleared t → Numbers n t
zeros n z y _ = within_equal (cleared_at z y) zero_within

module _ {n A : ℕ} {inside outside : List ℤ} (l : List ℤ) where
  -- a loop over one side has found the least margin
  pub least_spread : Proper n A → (t : List ℤ) → Numbers n t → Parted n t A inside outside → {x i : ℕ} → x ≡ n → (inner : Bool)
      → ((x : ℕ) → x < n → T (beq (has A x) inner) → (y : ℕ) → y < n → Within (2 ^ 22) (score l x y))
      → Run min_z top (λ y. beq (has A y) inner) (λ y. spread n (score l y) inside outside) x i → to_z w64 i ≡ least_margin n (score l) A t inner
  unfolding least_margin
  least_spread p t u v e inner small r =
      least_side p e inner (λ x h k. within_equal (parted_spread v u (small x h k) p) (margin_beyond p l t u x (small x h k))) r
      ∙ ap least (map_cong (λ y. spread n (score l y) inside outside) (λ x. margin n (λ y. score l x y -ℤ number t y) A)
      (keep (λ y. beq (has A y) inner) (below n)) (λ x m. let (h, k) = of_side n A inner m in parted_spread v u (small x h k) p))

  -- the scores of a member with the entries outside
  pub near_most : {t : List ℤ} → Cleared t → Parted n t A inside outside → (a : ℕ) {z : ℤ}
      → AtMost n (score l a) outside z → (c : ℕ) → c < n → A ∌ c → score l a c ≤ℤ z
  unfolding up dn
  near_most z t a v c h k = omega (zarith, v c h, -at (score l a c) (number outside c), (at_other t c h k).1, cleared_at z c)

-- the strong index and the separation from an entry as least margins, less no number and less the entry's distances
module _ {n A : ℕ} (l : List ℤ) (p : Proper n A) where
  of_entry : List ℤ → ℕ → ℤ
  of_entry t x = margin n (λ y. score l x y -ℤ number t y) A

  pub strong_least : {t : List ℤ} → Cleared t → least_margin n (score l) A t true ≡ strong_index n (score l) A
  unfolding least_margin of_entry up dn
  strong_least {t} z =
      ap (λ (m : List ℕ). least (map (of_entry t) m)) (side_members n A)
      ∙ ap least (map_cong (of_entry t) (λ a. margin n (score l a) A) (members n A) λ x _.
      margin_cong n A (λ y _. omega (zarith, -at (score l x y) (number t y), cleared_at z y)))
      ∙ strong_margins n (score l) A p

  pub separation_least : (t : List ℤ) (a : ℕ) → Row n (score l a) t → least_margin n (score l) A t false ≡ separation_from n (score l) A a
  unfolding least_margin of_entry separation_from nearness
  separation_least t a r =
      ap (λ (m : List ℕ). least (map (of_entry t) m)) (side_others n A)
      ∙ ap least (map_cong (of_entry t) (λ x. margin n (nearness (score l) a x) A)
      (others n A) λ x _. margin_cong n A (λ y h. ap₂ ◌-ℤ◌ (score_symm l x y) (r y h)))
