-- The pair list and the scores looked up in it.
use mathlib.Core.Path.{◌≡◌, refl, sym, ap, ap₂, ◌∙◌, subst}
use mathlib.Core.List.{List, ◌++◌, map}
use Prim.Native.Nat.{ℕ, zero, suc, ◌+◌, ◌-◌, ◌*◌, ◌≤◌, ◌<◌}
use native.Mathlib.Numerals.{add-one}
use native.Mathlib.Nat.{max_comm, min_comm, max-eq_left, min-eq_right, mul-le-mul}
use native.Mathlib.Decide.{ℕ_discrete, dec_le, dec_lt}
use native.Mathlib.Omega.{arith}
use lib.IntN.{ℤ, pos}
use lib.ListN.{length, length-append, length-map, get_or, get_or-append}
use lib.Seq.{get_or-append-add, ext_get_or}
use Rattle.lists.specs.Lists.{◌∈◌, below, each}
use Rattle.lists.proofs.Lists.{below_lt, lt_below, in_each, of_each, each_below, each_cong, in_map, of_map, map_cong, count_below, get_d_in, get_d_below}
use Rattle.clusters.specs.PairList.{Similarity, Symmetric, row_start, place, score, pair_list}

-- i(i+1) is even
twice_row_start : (i : ℕ) → row_start i + row_start i ≡ i * (i + 1)
unfolding row_start
twice_row_start zero = refl
twice_row_start (suc i) = omega (arith, twice_row_start i)

pub row_start_suc : (i : ℕ) → row_start (suc i) ≡ row_start i + suc i
row_start_suc i = omega (arith, twice_row_start i, twice_row_start (suc i))

pub row_start_le : (n : ℕ) → n ≤ 32 → row_start n ≤ 528
unfolding row_start
row_start_le n h = let k : n + 1 ≤ 33 = omega arith in omega (arith, mul-le-mul h k)

-- the place of a pair with b ≤ a, and that it is in the list
pub place_row : (a b : ℕ) → b ≤ a → place a b ≡ row_start a + b
unfolding place
place_row a b h = ap₂ ◌+◌ (ap row_start (max-eq_left h)) (min-eq_right h)

pub row_lt : (n a b : ℕ) → a < n → b ≤ a → row_start a + b < row_start n
row_lt zero a b h k = absurd (omega arith)
row_lt (suc n) a b h k = go (ℕ_discrete a n) (row_lt n a b)
  where
    go : Dec (a ≡ n) → (a < n → b ≤ a → row_start a + b < row_start n) → row_start a + b < row_start (suc n)
    go (yes e) ih = omega (arith, ap row_start e, row_start_suc n)
    go (no f) ih = omega (arith, ih (omega arith) k, row_start_suc n)

pub row_start_mono : {n k : ℕ} → n ≤ k → row_start n ≤ row_start k
row_start_mono {n} {k} h = go (ℕ_discrete n k)
  where
    go : Dec (n ≡ k) → row_start n ≤ row_start k
    go (yes e) = omega (arith, ap row_start e)
    go (no d) = omega (arith, row_lt k n 0 (omega arith) (omega arith))

-- where the row after row i starts
pub next_start : {start : ℕ} (i : ℕ) → start ≡ row_start i → start + (i + 1) ≡ row_start (i + 1)
next_start i e = omega (arith, row_start_suc i, ap row_start (add-one i))

pub place_comm : (a b : ℕ) → place a b ≡ place b a
unfolding place
place_comm a b = ap₂ ◌+◌ (ap row_start (max_comm a b)) (min_comm a b)

pub place_lt : (n a b : ℕ) → a < n → b < n → place a b < row_start n
place_lt n a b h k = go (dec_le b a)
  where
    go : Dec (b ≤ a) → place a b < row_start n
    go (yes l) = omega (arith, place_row a b l, row_lt n a b h l)
    go (no f) = omega (arith, place_comm a b, place_row b a (omega arith), row_lt n b a k (omega arith))

-- every place is that of a pair
row_of : (n i : ℕ) → i < row_start n → (a b : ℕ) × (a < n) × (b ≤ a) × (i ≡ row_start a + b)
unfolding row_start
row_of zero i h = absurd (omega arith)
row_of (suc n) i h = go (dec_lt i (row_start n)) (row_of n i)
  where
    go : Dec (i < row_start n) → (i < row_start n → (a b : ℕ) × (a < n) × (b ≤ a) × (i ≡ row_start a + b))
        → (a b : ℕ) × (a < suc n) × (b ≤ a) × (i ≡ row_start a + b)
    go (yes l) ih = let (a, b, ha, hb, e) = ih l in (a, b, omega arith, hb, e)
    go (no f) ih = (n, i - row_start n, omega arith, omega (arith, row_start_suc n), omega arith)

pub score_symm : (l : List ℤ) → Symmetric (score l)
unfolding score
score_symm l a b = ap (λ (i : ℕ). get_or l i (pos 0)) (place_comm a b)

-- where it stands in its row
pub score_row : (l : List ℤ) (a b : ℕ) → b ≤ a → score l a b ≡ get_or l (row_start a + b) (pos 0)
unfolding score
score_row l a b h = ap (λ (i : ℕ). get_or l i (pos 0)) (place_row a b h)

-- what is in the pair list of s
pub in_pair_list : (n : ℕ) (s : Similarity) {a b : ℕ} → a < n → b ≤ a → s a b ∈ pair_list n s
unfolding pair_list
in_pair_list n s {a} {b} h k = in_each (λ a. map (s a) (below (suc a))) (lt_below n a h) (in_map (s a) (lt_below (suc a) b (omega arith)))

pub of_pair_list : (n : ℕ) (s : Similarity) {z : ℤ} → z ∈ pair_list n s → (a b : ℕ) × (a < n) × (b ≤ a) × (z ≡ s a b)
unfolding pair_list
of_pair_list n s m =
    let (a, h, r) = of_each (below n) (λ a. map (s a) (below (suc a))) m in
    let (b, k, e) = of_map (s a) (below (suc a)) r in
    (a, b, below_lt n h, omega (arith, below_lt (suc a) k), e)

pub pair_list_cong : (n : ℕ) (s t : Similarity) → ((a b : ℕ) → a < n → b ≤ a → s a b ≡ t a b) → pair_list n s ≡ pair_list n t
unfolding pair_list
pair_list_cong n s t f = each_cong (below n) (λ a. map (s a) (below (suc a))) (λ a. map (t a) (below (suc a)))
    (λ a h. map_cong (s a) (t a) (below (suc a)) (λ b k. f a b (below_lt n h) (omega (arith, below_lt (suc a) k))))

pub pair_list_suc : (n : ℕ) (s : Similarity) → pair_list (suc n) s ≡ pair_list n s ++ map (s n) (below (suc n))
unfolding pair_list
pair_list_suc n s = each_below n (λ a. map (s a) (below (suc a)))

pub length_pair_list : (n : ℕ) (s : Similarity) → length (pair_list n s) ≡ row_start n
unfolding pair_list below each row_start
length_pair_list zero s = refl
length_pair_list (suc n) s = ap length (pair_list_suc n s) ∙ length-append (pair_list n s) (map (s n) (below (suc n)))
    ∙ omega (arith, length_pair_list n s, length-map (below (suc n)) (s n), count_below (suc n), row_start_suc n)

pub pair_list_at : (n : ℕ) (s : Similarity) (a b : ℕ) → a < n → b ≤ a → get_or (pair_list n s) (row_start a + b) (pos 0) ≡ s a b
pair_list_at zero s a b h k = absurd (omega arith)
pair_list_at (suc n) s a b h k = ap (λ l. get_or l (row_start a + b) (pos 0)) (pair_list_suc n s) ∙ go (ℕ_discrete a n) (pair_list_at n s a b)
  where
    go : Dec (a ≡ n) → (a < n → b ≤ a → get_or (pair_list n s) (row_start a + b) (pos 0) ≡ s a b)
        → get_or (pair_list n s ++ map (s n) (below (suc n))) (row_start a + b) (pos 0) ≡ s a b
    go (yes e) ih =
        let at : row_start a + b ≡ length (pair_list n s) + b = omega (arith, ap row_start e, length_pair_list n s) in
        ap (λ (j : ℕ). get_or (pair_list n s ++ map (s n) (below (suc n))) j (pos 0)) at
        ∙ get_or-append-add (pair_list n s) (map (s n) (below (suc n))) b (pos 0) ∙ get_d_below (s n) (suc n) b (pos 0) (omega arith)
        ∙ ap (λ (c : ℕ). s c b) (sym e)
    go (no f) ih =
        get_or-append (pair_list n s) (map (s n) (below (suc n))) (pos 0) (row_start a + b)
        (omega (arith, length_pair_list n s, row_lt n a b (omega arith) k)) ∙ ih (omega arith) k

-- the scores looked up in the pair list of s, which is symmetric as far as its n entries go
pub score_mirrored : (n : ℕ) (s : Similarity) → ((a b : ℕ) → a < n → b < n → s a b ≡ s b a) → (a b : ℕ) → a < n → b < n → score (pair_list n s) a b ≡ s a b
score_mirrored n s symm a b h k = go (dec_le b a)
  where
    lower : (a b : ℕ) → a < n → b ≤ a → score (pair_list n s) a b ≡ s a b
    lower a b h l = score_row (pair_list n s) a b l ∙ pair_list_at n s a b h l

    go : Dec (b ≤ a) → score (pair_list n s) a b ≡ s a b
    go (yes l) = lower a b h l
    go (no f) = score_symm (pair_list n s) a b ∙ lower b a k (omega arith) ∙ symm b a k h

pub score_pair_list : (n : ℕ) (s : Similarity) → Symmetric s → (a b : ℕ) → a < n → b < n → score (pair_list n s) a b ≡ s a b
score_pair_list n s symm = score_mirrored n s (λ a b _ _. symm a b)

pub pair_list_score : (n : ℕ) (l : List ℤ) → length l ≡ row_start n → pair_list n (score l) ≡ l
unfolding score
pair_list_score n l e = ext_get_or (pos 0) (pair_list n (score l)) l (length_pair_list n (score l) ∙ sym e)
    (λ i h. let (a, b, ha, hb, q) = row_of n i (omega (arith, length_pair_list n (score l))) in
    ap (λ (j : ℕ). get_or (pair_list n (score l)) j (pos 0)) q ∙ pair_list_at n (score l) a b ha hb ∙ ap (λ (j : ℕ). get_or l j (pos 0)) (place_row a b hb ∙ sym q))

-- the elements of a pair list are the scores in it
pub score_element : (n : ℕ) (l : List ℤ) → length l ≡ row_start n → {a b : ℕ} → a < n → b < n → score l a b ∈ l
unfolding score
score_element n l e {a} {b} h k = get_d_in l (place a b) (pos 0) (omega (arith, place_lt n a b h k))

pub element_score : (n : ℕ) (l : List ℤ) → length l ≡ row_start n → {z : ℤ} → z ∈ l → (a b : ℕ) × (a < n) × (b ≤ a) × (z ≡ score l a b)
element_score n l e {z} m = of_pair_list n (score l) (subst (λ (k : List ℤ). z ∈ k) (sym (pair_list_score n l e)) m)
