-- The pair of places that the search finds has the greatest link between any two blocks left.
use mathlib.Core.Path.{◌≡◌, refl, sym, ap, ap₂, ◌∙◌, subst, subst₂}
use mathlib.Core.Logic.{◌≢◌}
use mathlib.Core.List.{List}
use Prim.Native.Nat.{ℕ, ◌-◌, ◌*◌, ◌^◌, ◌≤◌, ◌<◌}
use native.Mathlib.Decide.{ℕ_discrete, dec_lt}
use native.Mathlib.Omega.{arith}
use lib.IntN.{ℤ}
use lib.ListN.{length, get_or, set, replicate, length-set, get_or-replicate}
use lib.Seq.{get_or-set_same, get_or-set_other}
use Rattle.lists.proofs.Lists.{get_d_in, place_of, get_d_below}
use Rattle.sets.specs.Sets.{◌∋◌}
use Rattle.sets.proofs.Sets.{one_in, member_size, size_single, size_le}
use Rattle.sets.proofs.Sizes.{size_wide}
use Rattle.clusters.specs.PairList.{Similarity, Symmetric}
use Rattle.clusters.specs.Linkage.{Quotient, ◌≼◌, link, Greatest, singles}
use Rattle.clusters.proofs.Blocks.{Partition}
use Rattle.clusters.proofs.Links.{link_symm}
use Rattle.links.specs.declared.Method.{Method}
use Rattle.links.specs.declared.Method.TheVariants.{Single, Average}
use Rattle.links.specs.Table.{Holds, quotient_at, Weights, GreatestAt}
use Rattle.linkage.specs.Blocks.{merged_at, linkage_of}
use Rattle.linkage.specs.Steps.{weight}
use Rattle.linkage.proofs.Places.{differ, some_at, joined_at, joined_other, merged_moved, merged_kept}
use Rattle.linkage.proofs.Updates.{numerators}

-- the weights of the first k blocks
pub record Weighed (method : Method) (k : ℕ) (bs w : List ℕ) : Type 0 where
  pub size : length w ≡ 32
  pub is : (a : ℕ) → a < k → get_or w a 0 ≡ weight method (get_or bs a 0)

weight_bounds : (method : Method) (A : ℕ) {i : ℕ} → i < 32 → A ∋ i → (1 ≤ weight method A) × (weight method A ≤ 32)
unfolding weight
weight_bounds Average A h k = (member_size 32 A h k, size_le 32 A)
weight_bounds Single A h k = (omega arith, omega arith)

denominator : (method : Method) (n : ℕ) (s : Similarity) (U W : ℕ) → n ≤ 32 → U < 2 ^ n → W < 2 ^ n → weight method U * weight method W ≡ (link (linkage_of method) n s U W).den
unfolding weight link linkage_of
denominator Average n s U W h hu hw = ap₂ ◌*◌ (size_wide n 32 U hu h) (size_wide n 32 W hw h)
denominator Single n s U W h hu hw = refl

module _ (method : Method) (n : ℕ) (s : Similarity) (few : n ≤ 32) {bs : List ℕ} (p : Partition n bs) (w : List ℕ) (v : Weighed method (length bs) bs w) where
  pub weights_bounds : Weights (length bs) w
  weights_bounds a h = let (i, l, k) = some_at p a h in rw (v.is a h) (weight_bounds method (get_or bs a 0) (omega arith) k)

  module _ {t : List ℤ} (d : Holds (length bs) (numerators method n s bs) t) where
    quotient_link : (a b : ℕ) → a < length bs → b < length bs → a ≢ b → quotient_at w t a b ≡ link (linkage_of method) n s (get_or bs a 0) (get_or bs b 0)
    unfolding quotient_at numerators
    quotient_link a b ha hb ne = ap₂ (λ (x : ℤ) (y : ℕ). record { num = x; den = y }) (d.is a b ha hb ne)
        (ap₂ ◌*◌ (v.is a ha) (v.is b hb)
        ∙ denominator method n s (get_or bs a 0) (get_or bs b 0) few (p.small (get_or bs a 0) (get_d_in bs a 0 ha)) (p.small (get_or bs b 0) (get_d_in bs b 0 hb)))

    pub greatest_link : Symmetric s → {i j : ℕ} → GreatestAt (length bs) (quotient_at w t) i j
        → Greatest (link (linkage_of method) n s) bs (get_or bs i 0) (get_or bs j 0)
    greatest_link symm {i} {j} g = record {
      left = get_d_in bs i 0 hi;
      right = get_d_in bs j 0 g.inside;
      apart = differ p i j hi g.inside ne;
      most = λ P Q hp hq e. let (a, ha, ea) = place_of bs 0 hp in let (b, hb, eb) = place_of bs 0 hq in
          subst₂ (λ U W. L U W ≼ L (get_or bs i 0) (get_or bs j 0)) (sym ea) (sym eb) (all a b ha hb (λ r. e (ea ∙ ap (λ (x : ℕ). get_or bs x 0) r ∙ sym eb)));
    }
      where
        L : ℕ → ℕ → Quotient
        L = link (linkage_of method) n s

        hi : i < length bs
        hi = omega (arith, g.rising, g.inside)

        ne : i ≢ j
        ne r = omega (arith, g.rising)

        flip : (a b : ℕ) → L (get_or bs a 0) (get_or bs b 0) ≡ L (get_or bs b 0) (get_or bs a 0)
        flip a b = link_symm n s symm (linkage_of method) (get_or bs a 0) (get_or bs b 0)

        falling : (a b : ℕ) → b < a → a < length bs → L (get_or bs a 0) (get_or bs b 0) ≼ L (get_or bs i 0) (get_or bs j 0)
        falling a b h k = subst₂ ◌≼◌ (quotient_link a b k (omega arith) (λ r. omega arith))
            (quotient_link j i g.inside hi (λ r. ne (sym r)) ∙ flip j i) (g.most b a h k)

        all : (a b : ℕ) → a < length bs → b < length bs → a ≢ b → L (get_or bs a 0) (get_or bs b 0) ≼ L (get_or bs i 0) (get_or bs j 0)
        all a b ha hb f = go (dec_lt b a)
          where
            go : Dec (b < a) → L (get_or bs a 0) (get_or bs b 0) ≼ L (get_or bs i 0) (get_or bs j 0)
            go (yes h) = falling a b h ha
            go (no o) = subst (λ q. q ≼ L (get_or bs i 0) (get_or bs j 0)) (flip b a) (falling b a (omega arith) hb)

-- the single entries have the weight 1
pub weighed_singles : (method : Method) (n : ℕ) → n ≤ 32 → {k : ℕ} → k ≡ n → {bs : List ℕ} → bs ≡ singles n → Weighed method k bs (replicate 32 1)
unfolding singles weight
weighed_singles method n h e f = record {
  size = refl;
  is = λ a l. get_or-replicate 32 a 1 0 (omega arith)
      ∙ sym (ap (weight method) (ap (λ (l : List ℕ). get_or l a 0) f ∙ get_d_below (λ i. 2 ^ i) n a 0 (omega arith)) ∙ one a (omega arith) method);
}
  where
    one : (a : ℕ) → a < 32 → (method : Method) → weight method (2 ^ a) ≡ 1
    one a l Average = omega (arith, size_single 32 a, member_size 32 (2 ^ a) l (one_in a))
    one a l Single = refl

-- after a merge, the weight of the union stands at i and that of the last block at j
pub weighed_merged : {method : Method} {k : ℕ} {bs w : List ℕ} → Weighed method k bs w → length bs ≡ k → k ≤ 32 → (i j : ℕ) → i < j → j < k
    → {m : ℕ} → m ≡ k - 1 → {cs : List ℕ} → cs ≡ merged_at i j bs → {x : ℕ} → x ≡ weight method (get_or cs i 0)
    → {w' : List ℕ} → w' ≡ set (set w i x) j (get_or (set w i x) (k - 1) 0) → Weighed method m cs w'
weighed_merged {method} {k} {bs} {w} v counted room i j hi hj m-is {cs} e {x} f g = record {
  size = ap length g ∙ simp length-set v.size;
  is = λ a l. ap (λ (l : List ℕ). get_or l a 0) g ∙ at a (omega arith) (ℕ_discrete a j) (ℕ_discrete a i);
}
  where
    y : ℕ
    y = get_or (set w i x) (k - 1) 0

    -- at a stands the block that stood at p
    moved : (a p : ℕ) → p < k → p ≢ i → get_or (merged_at i j bs) a 0 ≡ get_or (joined_at i j bs) p 0 → get_or (set w i x) p 0 ≡ weight method (get_or cs a 0)
    moved a p h d m = get_or-set_other w i p x 0 d ∙ v.is p h
        ∙ ap (weight method) (sym (ap (λ (l : List ℕ). get_or l a 0) e ∙ m ∙ joined_other i j bs hi (omega arith) p d))

    last : j < k - 1 → get_or (merged_at i j bs) j 0 ≡ get_or (joined_at i j bs) (k - 1) 0
    last l = let q : length bs - 1 ≡ k - 1 = omega arith in merged_moved i j bs hi (omega arith) (omega arith) ∙ ap (λ (p : ℕ). get_or (joined_at i j bs) p 0) q

    at : (a : ℕ) → a < k - 1 → Dec (a ≡ j) → Dec (a ≡ i) → get_or (set (set w i x) j y) a 0 ≡ weight method (get_or cs a 0)
    at a l (yes r) _ = rw r
        (get_or-set_same (set w i x) j y 0 (omega (arith, length-set w i x, v.size)) ∙ moved j (k - 1) (omega arith) (λ q. omega arith) (last (omega arith)))
    at a l (no d) (yes r) = get_or-set_other (set w i x) j a y 0 d ∙ rw r (get_or-set_same w i x 0 (omega (arith, v.size)) ∙ f)
    at a l (no d) (no o) = get_or-set_other (set w i x) j a y 0 d ∙ moved a a (omega arith) o (merged_kept i j bs hi (omega arith) a (omega arith) d)
