-- The table of the links of the blocks left: from the single entries, and through a merge.
use mathlib.Core.Path.{◌≡◌, sym, ap, ap₂, ◌∙◌}
use mathlib.Core.Logic.{◌≢◌}
use mathlib.Core.List.{List}
use Prim.Native.Nat.{ℕ, ◌+◌, ◌-◌, ◌*◌, ◌^◌, ◌≤◌, ◌<◌}
use native.Mathlib.Decide.{ℕ_discrete}
use native.Mathlib.Omega.{arith}
use lib.IntN.{ℤ}
use lib.ListN.{length, get_or}
use Rattle.lists.proofs.Lists.{get_d_below}
use Rattle.integers.specs.Range.{Within}
use Rattle.integers.proofs.Linear.{up, dn}
use Rattle.integers.proofs.Range.{within, within_grow, within_sum, within_max}
use Rattle.clusters.specs.PairList.{Similarity, Symmetric}
use Rattle.clusters.specs.Linkage.{Quotient, link, singles}
use Rattle.clusters.proofs.Blocks.{Partition}
use Rattle.clusters.proofs.Links.{link_symm}
use Rattle.matrix.specs.Rows.{Cleared}
use Rattle.links.specs.declared.Method.{Method}
use Rattle.links.specs.declared.Method.TheVariants.{Single, Average}
use Rattle.links.specs.Table.{entry, Holds, OwnKept, Small, Written, joined, joined_row}
use Rattle.links.proofs.Rows.{own_cleared}
use Rattle.linkage.specs.Blocks.{merged_at, linkage_of}
use Rattle.linkage.proofs.Unions.{link_single, link_union, link_within}
use Rattle.linkage.proofs.Places.{places_apart, some_at, joined_at, joined_here, joined_other, merged_moved, merged_kept}

-- what stands in the table for a place and itself, which is no link, after k merges
pub record Own (k c : ℕ) (t : List ℤ) : Type 0 where
  pub own : (a : ℕ) → a < c → Within (k * 2 ^ 42) (entry t a a)

pub own_start : (n : ℕ) {t₀ t : List ℤ} → n ≤ 32 → Cleared t₀ → OwnKept t₀ t → Own 0 n t
unfolding up dn
own_start n h z o = record {
  own = λ a l. rw (own_cleared z o a (omega arith)) (within (omega arith) (omega arith));
}

joined_within : (method : Method) {m : ℕ} {x y : ℤ} → Within m x → Within (2 ^ 42) y → Within (m + 2 ^ 42) (joined method x y)
unfolding joined
joined_within Average h l = within_sum h l
joined_within Single h l = within_max (within_grow (omega arith) h) (within_grow (omega arith) l)

pub own_merged : (method : Method) (i j : ℕ) {k c : ℕ} → i < j → j < c → c ≤ 32 → {t t₁ t₂ : List ℤ} → Small c t → Own k c t
    → Written i (joined_row method i j t) c t t₁ → Written j (entry t₁ (c - 1)) (c - 1) t₁ t₂ → Own (k + 1) (c - 1) t₂
unfolding joined_row
own_merged method i j {k} {c} hi hj hc {t} {t₁} {t₂} s o w v = record { own = λ a h. at a h (ℕ_discrete a j) (ℕ_discrete a i) }
  where
    at : (a : ℕ) → a < c - 1 → Dec (a ≡ j) → Dec (a ≡ i) → Within ((k + 1) * 2 ^ 42) (entry t₂ a a)
    at a h (yes e) _ = rw (e, v.row j (omega arith), w.rest (c - 1) j (omega arith) (omega arith) (λ r. omega arith) (λ r. omega arith))
        (within_grow (omega arith) (s.within (c - 1) j (omega arith) hj (λ r. omega arith)))
    at a h (no d) (yes e) = rw (e, v.rest i i (omega arith) (omega arith) (λ r. omega arith) (λ r. omega arith), w.row i (omega arith))
        (within_grow (omega arith) (joined_within method (o.own i (omega arith)) (s.within j i hj (omega arith) (λ r. omega arith))))
    at a h (no d) (no f) = rw (
      v.rest a a (omega arith) (omega arith) (λ r. absurd (d r)) (λ r. absurd (d r)),
      w.rest a a (omega arith) (omega arith) (λ r. absurd (f r)) (λ r. absurd (f r)),
    ) (within_grow (omega arith) (o.own a (omega arith)))

-- the numerators of the links of the blocks at two places
unfoldable pub numerators : Method → ℕ → Similarity → List ℕ → ℕ → ℕ → ℤ
numerators method n s bs a b = (link (linkage_of method) n s (get_or bs a 0) (get_or bs b 0)).num

-- the scores are those of the single entries
pub holds_singles : (method : Method) (n : ℕ) (s : Similarity) {t : List ℤ} → Holds n s t → Holds n (numerators method n s (singles n)) t
unfolding numerators singles
holds_singles method n s h = record {
  size = h.size;
  is = λ a b ha hb d. h.is a b ha hb d
      ∙ sym (ap₂ (λ U W. (link (linkage_of method) n s U W).num) (get_d_below (λ i. 2 ^ i) n a 0 ha) (get_d_below (λ i. 2 ^ i) n b 0 hb)
      ∙ link_single method n s a b ha hb);
}

module _ (method : Method) (n : ℕ) (s : Similarity) {bs : List ℕ} (p : Partition n bs) {t : List ℤ} (h : Holds (length bs) (numerators method n s bs) t) where
  pub holds_small : n ≤ 32 → ((a b : ℕ) → a < n → b < n → Within (2 ^ 31) (s a b)) → {m : ℕ} → m ≤ 32 → Own m (length bs) t → Small (length bs) t
  unfolding numerators
  holds_small l k few o = record {
    size = h.size;
    within = λ a b ha hb d. rw (h.is a b ha hb d) (link_within method n s (get_or bs a 0) (get_or bs b 0) l k (some_at p a ha) (some_at p b hb));
    own = λ a ha. within_grow (omega arith) (o.own a ha);
  }

module _ (method : Method) (n : ℕ) (s : Similarity) (symm : Symmetric s) where
  numerators_symm : (bs : List ℕ) (a b : ℕ) → numerators method n s bs a b ≡ numerators method n s bs b a
  unfolding numerators
  numerators_symm bs a b = ap (λ (q : Quotient). q.num) (link_symm n s symm (linkage_of method) (get_or bs a 0) (get_or bs b 0))

  module _ {bs : List ℕ} (p : Partition n bs) (short : length bs ≤ 32) (i j : ℕ) (hi : i < j) (hj : j < length bs) where
    -- the links of the union
    union_row : {t : List ℤ} → Holds (length bs) (numerators method n s bs) t
        → (q : ℕ) → q < length bs → q ≢ i → q ≢ j → joined_row method i j t q ≡ numerators method n s (joined_at i j bs) i q
    unfolding numerators joined_row
    union_row h q hq d f =
        ap₂ (joined method) (h.is i q (omega arith) hq (λ r. d (sym r))) (h.is j q hj hq (λ r. f (sym r)))
        ∙ sym (link_union method n s (get_or bs i 0) (get_or bs j 0) (get_or bs q 0)
        (places_apart p i j (omega arith) hj (λ r. omega arith)) (some_at p i (omega arith)) (some_at p j hj) (some_at p q hq))
        ∙ sym (ap₂ (λ U W. (link (linkage_of method) n s U W).num) (joined_here i j bs hi hj) (joined_other i j bs hi hj q d))

    other_pair : (a b : ℕ) → a ≢ i → b ≢ i → numerators method n s bs a b ≡ numerators method n s (joined_at i j bs) a b
    unfolding numerators
    other_pair a b d e = sym (ap₂ (λ U W. (link (linkage_of method) n s U W).num) (joined_other i j bs hi hj a d) (joined_other i j bs hi hj b e))

    module _ {t t₁ : List ℤ} (h : Holds (length bs) (numerators method n s bs) t) (w : Written i (joined_row method i j t) (length bs) t t₁) where
      -- once row and column i are written, all but those of j are right
      joined_links : (a b : ℕ) → a < length bs → b < length bs → a ≢ b → a ≢ j → b ≢ j → entry t₁ a b ≡ numerators method n s (joined_at i j bs) a b
      joined_links a b ha hb d da db = go (ℕ_discrete a i) (ℕ_discrete b i)
        where
          go : Dec (a ≡ i) → Dec (b ≡ i) → entry t₁ a b ≡ numerators method n s (joined_at i j bs) a b
          go (yes e) _ =
              let f : b ≢ i = λ r. d (e ∙ sym r) in
              ap (λ (x : ℕ). entry t₁ x b) e ∙ w.row b hb ∙ union_row h b hb f db ∙ ap (λ (x : ℕ). numerators method n s (joined_at i j bs) x b) (sym e)
          go (no f) (yes e) =
              ap (λ (x : ℕ). entry t₁ a x) e ∙ w.column a ha ∙ union_row h a ha f da
              ∙ numerators_symm (joined_at i j bs) i a ∙ ap (numerators method n s (joined_at i j bs) a) (sym e)
          go (no f) (no g) = w.rest a b (omega arith) (omega arith) (λ r. absurd (f r)) (λ r. absurd (g r)) ∙ h.is a b ha hb d ∙ other_pair a b f g

      -- once those of the last block are written at j, all are
      pub holds_merged : {t₂ : List ℤ} → Written j (entry t₁ (length bs - 1)) (length bs - 1) t₁ t₂
          → Holds (length bs - 1) (numerators method n s (merged_at i j bs)) t₂
      unfolding numerators
      holds_merged {t₂} v = record { size = omega (arith, v.size, w.size, h.size); is = λ a b ha hb d. go a b ha hb d (ℕ_discrete a j) (ℕ_discrete b j) }
        where
          k : ℕ
          k = length bs - 1

          num : ℕ → ℕ → ℤ
          num U W = (link (linkage_of method) n s U W).num

          go : (a b : ℕ) → a < k → b < k → a ≢ b → Dec (a ≡ j) → Dec (b ≡ j) → entry t₂ a b ≡ numerators method n s (merged_at i j bs) a b
          go a b ha hb d (yes e) _ =
              let f : b ≢ j = λ r. d (e ∙ sym r) in
              ap (λ (x : ℕ). entry t₂ x b) e ∙ v.row b hb ∙ joined_links k b (omega arith) (omega arith) (λ r. omega arith) (λ r. omega arith) f
              ∙ sym (ap₂ num (merged_moved i j bs hi hj (omega arith)) (merged_kept i j bs hi hj b hb f))
              ∙ ap (λ (x : ℕ). numerators method n s (merged_at i j bs) x b) (sym e)
          go a b ha hb d (no f) (yes e) =
              ap (λ (x : ℕ). entry t₂ a x) e ∙ v.column a ha ∙ joined_links k a (omega arith) (omega arith) (λ r. omega arith) (λ r. omega arith) f
              ∙ sym (ap₂ num (merged_moved i j bs hi hj (omega arith)) (merged_kept i j bs hi hj a ha f))
              ∙ numerators_symm (merged_at i j bs) j a ∙ ap (numerators method n s (merged_at i j bs) a) (sym e)
          go a b ha hb d (no f) (no g) =
              v.rest a b (omega arith) (omega arith) (λ r. absurd (f r)) (λ r. absurd (g r)) ∙ joined_links a b (omega arith) (omega arith) d f g
              ∙ sym (ap₂ num (merged_kept i j bs hi hj a ha f) (merged_kept i j bs hi hj b hb g))
