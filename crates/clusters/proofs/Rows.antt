-- A pair list written over the slots that were lent, row by row.
use mathlib.Core.Path.{◌≡◌, refl, ap, ap₂, sym, ◌∙◌}
use mathlib.Core.List.{List, [], ◌∷◌, ◌++◌, map, map-append}
use Prim.Native.Nat.{ℕ, suc, ◌+◌, ◌≤◌}
use native.Mathlib.Numerals.{add-one}
use native.Mathlib.Omega.{arith}
use lib.IntN.{ℤ}
use lib.ListN.{length, length-map, drop, set}
use lib.Seq.{sets, sets-eq}
use Rattle.lists.specs.Lists.{below, each}
use Rattle.lists.proofs.Lists.{count_below}
use Rattle.lists.proofs.Written.{sets_sets}
use Rattle.clusters.specs.PairList.{Similarity, row_start, pair_list}
use Rattle.clusters.proofs.PairList.{pair_list_suc, length_pair_list}

-- o is what was lent with b values of a row written, from slot i on
pub record Row (f : ℕ → ℤ) (i : ℕ) (lent o : List ℤ) (b : ℕ) : Type 0 where
  pub is : o ≡ sets lent i (map f (below b))

pub row_none : {f : ℕ → ℤ} {i : ℕ} {lent : List ℤ} → Row f i lent lent 0
unfolding below
row_none = record { is = refl }

pub row_value : {f : ℕ → ℤ} {lent o o' : List ℤ} {i b : ℕ} {z : ℤ} → Row f i lent o b → o' ≡ set o (i + b) z → z ≡ f b → Row f i lent o' (b + 1)
unfolding below
row_value {f} {lent} {o} {o'} {i} {b} {z} r q p =
    let long : i + b ≡ i + length (map f (below b)) = omega (arith, length-map (below b) f, count_below b) in
    let more : map f (below (b + 1)) ≡ map f (below b) ++ (f b ∷ []) = rw (add-one b) (map-append f (below b) (b ∷ [])) in
    record {
      is = q ∙ ap₂ (λ (l : List ℤ) (y : ℤ). set l (i + b) y) r.is p ∙ ap (λ (j : ℕ). set (sets lent i (map f (below b))) j (f b)) long
          ∙ sets_sets (map f (below b)) lent i (f b ∷ []) ∙ ap (sets lent i) (sym more);
    }

pub row_all : {f : ℕ → ℤ} {i b : ℕ} {lent o : List ℤ} (j a : ℕ) → Row f i lent o b → i ≡ j → b ≡ suc a → o ≡ sets lent j (map f (below (suc a)))
row_all {f} {lent} j a r p q = r.is ∙ ap₂ (λ (k c : ℕ). sets lent k (map f (below c))) p q

-- o is what was lent with the first a rows written
pub record Rows (s : Similarity) (lent o : List ℤ) (a : ℕ) : Type 0 where
  pub is : o ≡ sets lent 0 (pair_list a s)

pub rows_none : {s : Similarity} {lent : List ℤ} → Rows s lent lent 0
unfolding below each pair_list
rows_none = record { is = refl }

pub rows_row : {s : Similarity} {lent o o' : List ℤ} {a : ℕ} → Rows s lent o a → o' ≡ sets o (row_start a) (map (s a) (below (suc a))) → Rows s lent o' (a + 1)
rows_row {s} {lent} {o} {o'} {a} r q =
    let row = map (s a) (below (suc a)) in
    let long : row_start a ≡ 0 + length (pair_list a s) = omega (arith, length_pair_list a s) in
    record { is = q ∙ ap₂ (λ (l : List ℤ) (j : ℕ). sets l j row) r.is long ∙ sets_sets (pair_list a s) lent 0 row ∙ ap (sets lent 0) (sym (pair_list_suc a s)) ∙ rw (add-one a) }

pub rows_all : {s : Similarity} {lent o : List ℤ} {a : ℕ} (n : ℕ) → Rows s lent o a → a ≡ n → row_start n ≤ length lent
    → o ≡ pair_list n s ++ drop (row_start n) lent
rows_all {s} {lent} n r e h =
    let long : 0 + length (pair_list n s) ≡ row_start n = omega (arith, length_pair_list n s) in
    r.is ∙ ap (λ (a : ℕ). sets lent 0 (pair_list a s)) e ∙ sets-eq (pair_list n s) lent 0 (omega (arith, long))
    ∙ ap (λ (j : ℕ). pair_list n s ++ drop j lent) long
