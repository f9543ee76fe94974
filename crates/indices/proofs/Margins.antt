-- The strong and the separation index are least margins.
use mathlib.Core.Path.{◌≡◌, sym, ap, ◌∙◌}
use mathlib.Core.List.Memᴰ
use mathlib.Core.List.{List, map}
use Prim.Native.Nat.{ℕ}
use lib.IntN.{ℤ, ◌+ℤ◌, ◌-ℤ◌}
use Rattle.lists.specs.Lists.{◌∈◌, each}
use Rattle.lists.proofs.Lists.{in_map, of_map, in_each, of_each, map_cong}
use Rattle.integers.specs.Integers.{least, greatest}
use Rattle.integers.proofs.Linear.{zarith, -at, +at}
use Rattle.integers.proofs.Least.{least_le, least_of, least_same, least_each, greatest_ge, greatest_of}
use Rattle.sets.specs.Sets.{members, others}
use Rattle.sets.proofs.Sets.{in_members, of_members, in_others, of_others, size_member, size_less}
use Rattle.clusters.specs.PairList.{Similarity}
use Rattle.clusters.specs.Indices.{strong_values, strong_index, separation_values, separation_index}
use Rattle.clusters.proofs.Strong.{in_separation_values, of_separation_values}
use Rattle.indices.specs.Asked.{Proper}
use Rattle.indices.specs.Margins.{margin, nearness, separation_from}

-- a member, and an entry outside
pub a_member : {n A : ℕ} → Proper n A → (a : ℕ) × (a ∈ members n A)
a_member {n} {A} p = let (a, h, k) = size_member n A p.some in (a, in_members n A h k)

pub an_other : {n A : ℕ} → Proper n A → (x : ℕ) × (x ∈ others n A)
an_other {n} {A} p = let (x, h, k) = size_less n A p.rest in (x, in_others n A h k)

-- the least difference of two values, one of each list, is that of the least and the greatest
least_difference : (l m : List ℕ) (f g : ℕ → ℤ) {a x : ℕ} → a ∈ l → x ∈ m
    → least (each l (λ a. map (λ x. f a -ℤ g x) m)) ≡ least (map f l) -ℤ greatest (map g m)
least_difference l m f g {a} {x} ma mx =
    let values : List ℤ = each l (λ a. map (λ x. f a -ℤ g x) m) in
    let (b, mb, e) = of_map f l (least_of (map f l) (in_map f ma)) in
    let (y, my, q) = of_map g m (greatest_of (map g m) (in_map g mx)) in
    let fore = least_le values (in_each (λ a. map (λ x. f a -ℤ g x) m) mb (in_map (λ x. f b -ℤ g x) my)) in
    let (c, mc, rc) = of_each l (λ a. map (λ x. f a -ℤ g x) m) (least_of values (in_each (λ a. map (λ x. f a -ℤ g x) m) ma (in_map (λ x. f a -ℤ g x) mx))) in
    let (z, mz, r) = of_map (λ x. f c -ℤ g x) m rc in
    omega (
      zarith,
      fore,
      r,
      e,
      q,
      -at (f b) (g y),
      -at (f c) (g z),
      -at (least (map f l)) (greatest (map g m)),
      least_le (map f l) (in_map f mc),
      greatest_ge (map g m) (in_map g mz),
    )

-- d(b,x) − d(a,b) less d(y,x) − d(a,y)
same_value : (d : Similarity) (a b x y : ℕ) → nearness d a x b -ℤ nearness d a x y ≡ d a y +ℤ d b x -ℤ d a b -ℤ d y x
unfolding nearness
same_value d a b x y = omega (
  zarith,
  -at (nearness d a x b) (nearness d a x y),
  -at (d b x) (d a b),
  -at (d y x) (d a y),
  +at (d a y) (d b x),
  -at (d a y +ℤ d b x) (d a b),
  -at (d a y +ℤ d b x -ℤ d a b) (d y x),
)

module _ (n : ℕ) (s : Similarity) (A : ℕ) (p : Proper n A) where
  pub strong_margins : least (map (λ a. margin n (s a) A) (members n A)) ≡ strong_index n s A
  unfolding strong_index strong_values margin
  strong_margins =
      let (a, ma) = a_member p in
      let (x, mx) = an_other p in
      let values : ℕ → List ℤ = λ a. each (members n A) λ b. map (λ x. s a b -ℤ s a x) (others n A) in
      ap least (map_cong (λ a. margin n (s a) A) (λ a. least (values a))
      (members n A) (λ a _. sym (least_difference (members n A) (others n A) (s a) (s a) ma mx)))
      ∙ least_each (members n A) values (λ b _. (s b a -ℤ s b x, in_each (λ c. map (λ x. s b c -ℤ s b x) (others n A)) ma (in_map (λ x. s b a -ℤ s b x) mx))) ma

  -- the values of the separation index in the order of the margins
  abbrev of_pair : ℕ → ℕ → List ℤ
  of_pair a x = each (members n A) λ b. map (λ y. nearness s a x b -ℤ nearness s a x y) (others n A)

  abbrev of_entry : ℕ → List ℤ
  of_entry a = each (others n A) (of_pair a)

  reordered : least (each (members n A) of_entry) ≡ separation_index n s A
  unfolding separation_index
  reordered = least_same (each (members n A) of_entry) (separation_values n s A) fore rear
    where
      fore : (z : ℤ) → z ∈ each (members n A) of_entry → z ∈ separation_values n s A
      fore z m =
          let (a, ma, ra) = of_each (members n A) of_entry m in
          let (x, mx, rx) = of_each (others n A) (of_pair a) ra in
          let (b, mb, rb) = of_each (members n A) (λ b. map (λ y. nearness s a x b -ℤ nearness s a x y) (others n A)) rx in
          let (y, my, e) = of_map (λ y. nearness s a x b -ℤ nearness s a x y) (others n A) rb in
          let (ha, ka) = of_members n A ma in
          let (hx, kx) = of_others n A {i = x} mx in
          let (hb, kb) = of_members n A mb in
          let (hy, ky) = of_others n A {i = y} my in
          Memᴰ.cast (e ∙ same_value s a b x y) (in_separation_values n s A ha hb hy hx ka kb ky kx)

      rear : (z : ℤ) → z ∈ separation_values n s A → z ∈ each (members n A) of_entry
      rear z m =
          let (a, b, y, x, ha, hb, hy, hx, ka, kb, ky, kx, e) = of_separation_values n s A m in
          Memᴰ.cast (e ∙ sym (same_value s a b x y))
          (in_each of_entry (in_members n A ha ka)
          (in_each (of_pair a) (in_others n A hx kx)
          (in_each (λ b. map (λ y. nearness s a x b -ℤ nearness s a x y) (others n A)) (in_members n A hb kb)
          (in_map (λ y. nearness s a x b -ℤ nearness s a x y) (in_others n A hy ky)))))

  pub separation_margins : least (map (separation_from n s A) (members n A)) ≡ separation_index n s A
  unfolding separation_from margin
  separation_margins =
      let (a, ma) = a_member p in
      let (x, mx) = an_other p in
      let some : (b y : ℕ) → (z : ℤ) × (z ∈ of_pair b y) = λ b y. (
        nearness s b y a -ℤ nearness s b y x,
        in_each (λ c. map (λ w. nearness s b y c -ℤ nearness s b y w) (others n A)) ma (in_map (λ w. nearness s b y a -ℤ nearness s b y w) mx),
      ) in
      ap least (map_cong (separation_from n s A) (λ b. least (of_entry b)) (members n A) (λ b _.
      ap least (map_cong (λ y. margin n (nearness s b y) A) (λ y. least (of_pair b y)) (others n A)
      (λ y _. sym (least_difference (members n A) (others n A) (nearness s b y) (nearness s b y) ma mx)))
      ∙ least_each (others n A) (of_pair b) (λ y _. some b y) mx))
      ∙ least_each (members n A) of_entry (λ b _. ((some b x).0, in_each (of_pair b) mx (some b x).1)) ma
      ∙ reordered
