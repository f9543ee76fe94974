-- A run of merges: after k of them, what is left and what is written.
use mathlib.Core.Path.{◌≡◌, refl, sym, ap, ◌∙◌, subst, subst₂}
use mathlib.Core.List.{List, [], ◌∷◌, ◌++◌, append_assoc, append-nil, map-append}
use Prim.Native.Nat.{ℕ, suc, ◌+◌, ◌-◌, ◌^◌, ◌≤◌, ◌<◌}
use native.Mathlib.Numerals.{add-one}
use native.Mathlib.Omega.{arith}
use lib.IntN.{ℤ}
use lib.ListN.{length, get_or, take, drop, set, length-append, length-map, drop_of_length-le}
use lib.Seq.{drop-cons, set_at, length-take-le}
use Rattle.integers.specs.Range.{Within}
use Rattle.sets.specs.Sets.{◌∪◌}
use Rattle.clusters.specs.PairList.{Similarity, Symmetric, score}
use Rattle.clusters.specs.Linkage.{Quotient, link, Greatest, merged, Merges, singles, merged_blocks}
use Rattle.clusters.proofs.Blocks.{Partition, partition_merged, partition_singles}
use Rattle.clusters.proofs.Arrangement.{SameBlocks, same_symm, same_partition, same_merges}
use Rattle.clusters.proofs.Exists.{count_singles}
use Rattle.links.specs.declared.Method.{Method}
use Rattle.links.specs.Table.{entry, Holds, Small, Written, joined_row, quotient_at, Weights, GreatestAt}
use Rattle.linkage.specs.Blocks.{merged_at, linkage_of}
use Rattle.linkage.specs.Steps.{Merged}
use Rattle.linkage.proofs.Merging.{same_merged_at}
use Rattle.linkage.proofs.Places.{length_merged_at, merged_joined}
use Rattle.linkage.proofs.Updates.{Own, own_merged, numerators, holds_singles, holds_small, holds_merged}
use Rattle.linkage.proofs.Choice.{Weighed, weights_bounds, greatest_link}

pub record Run (method : Method) (n : ℕ) (s : Similarity) (lent : List ℕ) (k : ℕ) (bs : List ℕ) (t : List ℤ) (out : List ℕ) : Type 0 where
  pub partition : Partition n bs
  pub table : Holds (length bs) (numerators method n s bs) t
  pub own : Own k (length bs) t
  pub merges : List (ℕ × ℕ)
  pub count : length merges ≡ k
  pub further : (ms : List (ℕ × ℕ)) → Merges (link (linkage_of method) n s) bs ms → Merges (link (linkage_of method) n s) (singles n) (merges ++ ms)
  pub written : out ≡ merged_blocks merges ++ drop k lent

pub run_start : (method : Method) (n : ℕ) (s : Similarity) (lent : List ℕ) {t : List ℤ} → Holds n s t → Own 0 n t → Run method n s lent 0 (singles n) t lent
unfolding merged_blocks
run_start method n s lent {t} h o = record {
  partition = partition_singles n;
  table = subst (λ (k : ℕ). Holds k (numerators method n s (singles n)) t) (sym (count_singles n)) (holds_singles method n s h);
  own = record { own = λ a l. o.own a (omega (arith, count_singles n)) };
  merges = [];
  count = refl;
  further = λ ms m. m;
  written = refl;
}

-- one slot more is written
slot_next : (ms : List (ℕ × ℕ)) (k U W : ℕ) (lent out : List ℕ) → length ms ≡ k → k < length lent → out ≡ merged_blocks ms ++ drop k lent
    → set out k (U ∪ W) ≡ merged_blocks (ms ++ ((U, W) ∷ [])) ++ drop (k + 1) lent
unfolding merged_blocks
slot_next ms k U W lent out e h w =
    ap (λ (l : List ℕ). set l k (U ∪ W)) (w ∙ ap (λ (l : List ℕ). merged_blocks ms ++ l) (drop-cons lent k 0 h))
    ∙ set_at (merged_blocks ms) (get_or lent k 0) (drop (suc k) lent) (U ∪ W) k (length-map ms (λ m. m.0 ∪ m.1) ∙ e)
    ∙ sym (ap (λ (l : List ℕ). l ++ drop (k + 1) lent) (map-append (λ m. m.0 ∪ m.1) ms ((U, W) ∷ []))
    ∙ append_assoc (merged_blocks ms) ((U ∪ W) ∷ []) (drop (k + 1) lent)
    ∙ ap (λ (m : ℕ). merged_blocks ms ++ (U ∪ W) ∷ drop m lent) (add-one k))

module _ (method : Method) (n : ℕ) (s : Similarity)
    (symm : Symmetric s) {lent : List ℕ} {k : ℕ} {bs : List ℕ} {t : List ℤ} {out : List ℕ} (r : Run method n s lent k bs t out) where
  -- the merge of the blocks at i and j
  merge_next : length bs ≤ 32 → Small (length bs) t → (i j : ℕ)
      → i < j → j < length bs → k < length lent → Greatest (link (linkage_of method) n s) bs (get_or bs i 0) (get_or bs j 0)
      → {t₁ t₂ : List ℤ} → Written i (joined_row method i j t) (length bs) t t₁ → Written j (entry t₁ (length bs - 1)) (length bs - 1) t₁ t₂
      → Run method n s lent (k + 1) (merged_at i j bs) t₂ (set out k (get_or bs i 0 ∪ get_or bs j 0))
  merge_next short small i j hi hj room g {t₂} w v = record {
    partition = same_partition (same_symm same) (partition_merged U W bs n r.partition g.left g.right g.apart);
    table = subst (λ (m : ℕ). Holds m (numerators method n s (merged_at i j bs)) t₂)
        (sym (length_merged_at i j bs hi hj)) (holds_merged method n s symm r.partition short i j hi hj r.table w v);
    own = subst (λ (m : ℕ). Own (k + 1) m t₂) (sym (length_merged_at i j bs hi hj)) (own_merged method i j hi hj short small r.own w v);
    merges = r.merges ++ ((U, W) ∷ []);
    count = length-append r.merges ((U, W) ∷ []) ∙ omega (arith, r.count);
    further = λ ms m. subst (Merges L (singles n)) (sym (append_assoc r.merges ((U, W) ∷ []) ms))
        (r.further ((U, W) ∷ ms) (g, same_merges L (merged_at i j bs) (merged U W bs) ms same m));
    written = slot_next r.merges k U W lent out r.count room r.written;
  }
    where
      U : ℕ
      U = get_or bs i 0

      W : ℕ
      W = get_or bs j 0

      L : ℕ → ℕ → Quotient
      L = link (linkage_of method) n s

      same : SameBlocks (merged_at i j bs) (merged U W bs)
      same = same_merged_at i j bs hi hj g.apart

  -- the same for blocks that the code counts, with what it finds, writes and merges
  module _ (few : n ≤ 32) (c : ℕ) (counted : length bs ≡ c) where
    pub run_small : k ≤ 32 → ((a b : ℕ) → a < n → b < n → Within (2 ^ 31) (s a b)) → Small c t
    run_small l h = subst (λ (m : ℕ). Small m t) counted (holds_small method n s r.partition r.table few h l r.own)

    pub run_weights : (w : List ℕ) → Weighed method c bs w → Weights c w
    run_weights w = subst (λ (m : ℕ). Weighed method m bs w → Weights m w) counted (weights_bounds method n s few r.partition w)

    pub run_next : (w : List ℕ) → Weighed method c bs w → {i j : ℕ} → GreatestAt c (quotient_at w t) i j → c ≤ 32 → Small c t → k < length lent
        → {t₁ t₂ : List ℤ} → Written i (joined_row method i j t) c t t₁ → Written j (entry t₁ (c - 1)) (c - 1) t₁ t₂
        → {cs : List ℕ} → cs ≡ merged_at i j bs → {x : ℕ} → x ≡ get_or cs i 0 → Run method n s lent (k + 1) cs t₂ (set out k x)
    run_next w v {i} {j} g short small room {t₁} {t₂} joins moves {cs} e {x} f =
        go (back (λ m. Weighed method m bs w) v) (back (λ m. GreatestAt m (quotient_at w t) i j) g)
      where
        back : (P : ℕ → Type 0) → P c → P (length bs)
        back P = subst P (sym counted)

        go : Weighed method (length bs) bs w → GreatestAt (length bs) (quotient_at w t) i j → Run method n s lent (k + 1) cs t₂ (set out k x)
        go v g = subst₂ (λ (l : List ℕ) (y : ℕ). Run method n s lent (k + 1) l t₂ (set out k y))
            (sym e) (sym (f ∙ ap (λ (l : List ℕ). get_or l i 0) e ∙ merged_joined i j bs g.rising g.inside))
            (merge_next (omega arith) (back (λ m. Small m t) small) i j g.rising
            g.inside room (greatest_link method n s few r.partition w v r.table symm g)
            (back (λ m. Written i (joined_row method i j t) m t t₁) joins) (back (λ m. Written j (entry t₁ (m - 1)) (m - 1) t₁ t₂) moves))

-- the slots before the others
pub run_end : (method : Method) (n : ℕ) (l : List ℤ) (lent : List ℕ) {k : ℕ} {bs : List ℕ} {t : List ℤ} {out : List ℕ}
    → Run method n (score l) (take (n - 1) lent) k bs t out → n - 1 ≤ length lent → length bs ≡ 1 → k ≡ n - 1
    → Merged (linkage_of method) n l lent (out ++ drop (n - 1) lent)
run_end method n l lent r long one e =
    let none = drop_of_length-le (take (n - 1) lent) {i = n - 1} (omega (arith, length-take-le (n - 1) lent long)) in
    record {
      merges = r.merges;
      tree = subst (Merges (link (linkage_of method) n (score l)) (singles n)) (append-nil r.merges) (r.further [] one);
      written = ap (λ (o : List ℕ). o ++ drop (n - 1) lent) (r.written ∙ ap (λ (m : ℕ). merged_blocks r.merges ++ drop m (take (n - 1) lent)) e
          ∙ ap (λ (o : List ℕ). merged_blocks r.merges ++ o) none ∙ append-nil (merged_blocks r.merges));
    }
