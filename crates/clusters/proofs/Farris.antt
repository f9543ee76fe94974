-- The Farris transform: splits are strong groups of the anchored scores, and the distances are found back.
use mathlib.Core.Path.{◌≡◌, sym, ap, ap₂, ◌∙◌, subst}
use mathlib.Core.Bool.{Bool, ◌&&◌}
use mathlib.Core.Logic.{◌↔◌}
use mathlib.Core.List.Memᴰ
use mathlib.Core.List.{List, map}
use Prim.Native.Nat.{ℕ, ◌<◌}
use native.Mathlib.Omega.{arith}
use lib.IntN.{ℤ, pos, ◌+ℤ◌, ◌-ℤ◌, +ℤ_comm}
use lib.Signed.{◌≤ℤ◌, le_z}
use lib.Dec.{T}
use lib.ListN.{length}
use Rattle.lists.specs.Lists.{◌∈◌, below, each, all}
use Rattle.lists.proofs.Tests.{and_T, T_and}
use Rattle.lists.proofs.Lists.{below_lt, lt_below, in_each, of_each, in_map, all_in, in_all}
use Rattle.integers.specs.Integers.{eq_z, least, half, even}
use Rattle.integers.proofs.Linear.{up, dn, zarith, +at, -at, eq_z_yes, yes_eq_z}
use Rattle.integers.proofs.Least.{least_le, least_same, least_each, least_some}
use Rattle.integers.proofs.Halves.{half_twice, even_half, even_twice}
use Rattle.sets.specs.Sets.{◌∋◌, ◌∌◌, others, complement}
use Rattle.sets.proofs.Sets.{in_others, of_others, in_complement, of_complement, not_complement, out_complement}
use Rattle.clusters.specs.PairList.{Similarity, Symmetric, row_start, score, in_range, are_distances}
use Rattle.clusters.specs.Indices.{strong_values, strong_index, separation_values, separation_index}
use Rattle.clusters.specs.Farris.{farris, unfarris, anchored_scores, distances_back, is_anchored}
use Rattle.clusters.proofs.PairList.{score_symm, length_pair_list, pair_list_cong, score_pair_list, pair_list_score}
use Rattle.clusters.proofs.Strong.{in_strong_values, of_strong_values, in_separation_values, of_separation_values}

pub farris_symm : (d : Similarity) → Symmetric d → (x : ℕ) → Symmetric (farris d x)
unfolding farris
farris_symm d symm x a b = ap₂ ◌-ℤ◌ (+ℤ_comm (d a x) (d b x)) (symm a b)

-- a strong value of the anchored scores is a separation value
rearrange : (p q r t u : ℤ) → (p +ℤ q -ℤ r) -ℤ (p +ℤ t -ℤ u) ≡ u +ℤ q -ℤ r -ℤ t
rearrange p q r t u = omega (
  zarith,
  +at p q,
  -at (p +ℤ q) r,
  +at p t,
  -at (p +ℤ t) u,
  -at (p +ℤ q -ℤ r) (p +ℤ t -ℤ u),
  +at u q,
  -at (u +ℤ q) r,
  -at (u +ℤ q -ℤ r) t,
)

pub separation_anchored : (n : ℕ) (d : Similarity) (A : ℕ) → ((a : ℕ) × (a < n) × (A ∋ a)) → ((x : ℕ) × (x < n) × (A ∌ x))
    → separation_index n d A ≡ least (map (λ x. strong_index n (farris d x) A) (others n A))
unfolding separation_index strong_index farris
separation_anchored n d A (a, ha, ka) (x, hx, kx) =
    least_same (separation_values n d A) (each (others n A) values) fore rear
    ∙ sym (least_each (others n A) values (λ y m. (farris d y a a -ℤ farris d y a x, in_strong_values n (farris d y) A ha ha hx ka ka kx)) (in_others n A hx kx))
  where
    values : ℕ → List ℤ
    values x = strong_values n (farris d x) A

    fore : (z : ℤ) → z ∈ separation_values n d A → z ∈ each (others n A) values
    fore z m =
        let (a, a', b, b', ha, ha', hb, hb', ka, ka', kb, kb', e) = of_separation_values n d A m in
        in_each values (in_others n A hb' kb')
        (Memᴰ.cast (e ∙ sym (rearrange (d a b') (d a' b') (d a a') (d b b') (d a b))) (in_strong_values n (farris d b') A ha ha' hb ka ka' kb))

    rear : (z : ℤ) → z ∈ each (others n A) values → z ∈ separation_values n d A
    rear z m =
        let (x, mx, r) = of_each (others n A) values m in
        let (hx, kx) = of_others n A mx in
        let (a, b, y, ha, hb, hy, ka, kb, ky, e) = of_strong_values n (farris d x) A r in
        Memᴰ.cast (e ∙ rearrange (d a x) (d b x) (d a b) (d y x) (d a y)) (in_separation_values n d A ha hb hy hx ka kb ky kx)

-- the values of a split are those of its other side
module _ (n : ℕ) (d : Similarity) (symm : Symmetric d) where
  other_side : (A B : ℕ) → ((i : ℕ) → i < n → A ∋ i → B ∌ i) → ((i : ℕ) → i < n → A ∌ i → B ∋ i) → (z : ℤ) → z ∈ separation_values n d A
      → z ∈ separation_values n d B
  other_side A B out into z m =
      let (a, a', b, b', ha, ha', hb, hb', ka, ka', kb, kb', e) = of_separation_values n d A m in
      Memᴰ.cast (e ∙ swap (d a b) (d a' b') (d a a') (d b b') (d b a) (d b' a') (symm a b) (symm a' b'))
      (in_separation_values n d B hb hb' ha ha' (into b hb kb) (into b' hb' kb') (out a ha ka) (out a' ha' ka'))
    where
      swap : (p q r t u w : ℤ) → p ≡ u → q ≡ w → p +ℤ q -ℤ r -ℤ t ≡ u +ℤ w -ℤ t -ℤ r
      swap p q r t u w e f = omega (zarith, +at p q, -at (p +ℤ q) r, -at (p +ℤ q -ℤ r) t, +at u w, -at (u +ℤ w) t, -at (u +ℤ w -ℤ t) r)

  pub separation_either_side : (A : ℕ) → separation_index n d (complement n A) ≡ separation_index n d A
  unfolding separation_index
  separation_either_side A = least_same (separation_values n d (complement n A)) (separation_values n d A)
      (other_side (complement n A) A (λ i h. of_complement n A h) (λ i h. out_complement n A h))
      (other_side A (complement n A) (λ i h. not_complement n A h) (λ i h. in_complement n A h))

pub split_strong : (n : ℕ) (d : Similarity) (A : ℕ) (x : ℕ) → x < n → A ∌ x → pos 1 ≤ℤ separation_index n d A → pos 1 ≤ℤ strong_index n (farris d x) A
unfolding separation_index
split_strong n d A x hx kx h =
    let (z, m) = least_some (separation_values n d A) h in
    let (a, _, _, _, ha, _, _, _, ka, _, _, _, _) = of_separation_values n d A m in
    let e : separation_index n d A ≡ least (map indices (others n A)) = separation_anchored n d A (a, ha, ka) (x, hx, kx) in
    let k = least_le (map indices (others n A)) (in_map indices (in_others n A hx kx)) in
    omega zarith
  where
    indices : ℕ → ℤ
    indices x = strong_index n (farris d x) A

-- the anchored scores of an entry with itself and with the anchor
farris_own : (d : Similarity) (x a : ℕ) → d a a ≡ pos 0 → farris d x a a ≡ d a x +ℤ d a x
unfolding farris up dn
farris_own d x a e = omega (zarith, -at (d a x +ℤ d a x) (d a a))

farris_anchor : (d : Similarity) (x a : ℕ) → d x x ≡ pos 0 → farris d x a x ≡ pos 0
unfolding farris up dn
farris_anchor d x a e = omega (zarith, +at (d a x) (d x x), -at (d a x +ℤ d x x) (d a x))

-- the distance back, where S(a,a) and S(b,b) are 2·p and 2·q
unfarris_at : (S : Similarity) (a b : ℕ) (p q : ℤ) → S a a ≡ p +ℤ p → S b b ≡ q +ℤ q → unfarris S a b ≡ p +ℤ q -ℤ S a b
unfolding unfarris
unfarris_at S a b p q ea eb = ap half (twice (S a a) (S b b) (S a b) ea eb) ∙ half_twice (p +ℤ q -ℤ S a b)
  where
    twice : (u w s : ℤ) → u ≡ p +ℤ p → w ≡ q +ℤ q → u +ℤ w -ℤ (s +ℤ s) ≡ (p +ℤ q -ℤ s) +ℤ (p +ℤ q -ℤ s)
    twice u w s eu ew = omega (
      zarith,
      +at p p,
      +at q q,
      +at s s,
      +at p q,
      -at (p +ℤ q) s,
      +at (p +ℤ q -ℤ s) (p +ℤ q -ℤ s),
      +at u w,
      -at (u +ℤ w) (s +ℤ s),
    )

pub farris_back : (d : Similarity) (x a b : ℕ) → d a a ≡ pos 0 → d b b ≡ pos 0 → unfarris (farris d x) a b ≡ d a b
unfolding farris
farris_back d x a b ea eb = unfarris_at (farris d x) a b (d a x) (d b x) (farris_own d x a ea) (farris_own d x b eb) ∙ less (d a x +ℤ d b x) (d a b)
  where
    less : (p r : ℤ) → p -ℤ (p -ℤ r) ≡ r
    less p r = omega (zarith, -at p r, -at p (p -ℤ r))

pub back_farris : (S : Similarity) (x a b : ℕ) → T (even (S a a)) → T (even (S b b)) → S a x ≡ pos 0 → S b x ≡ pos 0 → S x x ≡ pos 0
    → farris (unfarris S) x a b ≡ S a b
unfolding farris
back_farris S x a b ta tb ea eb ex =
    let p = half (S a a) in
    let q = half (S b b) in
    let back = unfarris_at S a b p q (sym (even_half (S a a) ta)) (sym (even_half (S b b) tb)) in
    let own-a = unfarris_at S a x p (pos 0) (sym (even_half (S a a) ta)) ex in
    let own-b = unfarris_at S b x q (pos 0) (sym (even_half (S b b) tb)) ex in
    sums p q (S a b) (S a x) (S b x) (unfarris S a x) (unfarris S b x) (unfarris S a b) ea eb own-a own-b back
  where
    sums : (p q s sa sb u w r : ℤ) → sa ≡ pos 0 → sb ≡ pos 0 → u ≡ p +ℤ pos 0 -ℤ sa → w ≡ q +ℤ pos 0 -ℤ sb → r ≡ p +ℤ q -ℤ s → u +ℤ w -ℤ r ≡ s
    sums p q s sa sb u w r ea eb eu ew er = omega (
      zarith,
      +at p (pos 0),
      -at (p +ℤ pos 0) sa,
      +at q (pos 0),
      -at (q +ℤ pos 0) sb,
      +at p q,
      -at (p +ℤ q) s,
      +at u w,
      -at (u +ℤ w) r,
    )

unfarris_symm : (S : Similarity) → Symmetric S → Symmetric (unfarris S)
unfolding unfarris
unfarris_symm S symm a b = ap half (ap₂ ◌-ℤ◌ (+ℤ_comm (S a a) (S b b)) (ap (λ s. s +ℤ s) (symm a b)))

-- both by the scores that they look up
farris_cong : (d e : Similarity) (x a b : ℕ) → d a x ≡ e a x → d b x ≡ e b x → d a b ≡ e a b → farris d x a b ≡ farris e x a b
unfolding farris
farris_cong d e x a b p q r = cc

unfarris_cong : (S R : Similarity) (a b : ℕ) → S a a ≡ R a a → S b b ≡ R b b → S a b ≡ R a b → unfarris S a b ≡ unfarris R a b
unfolding unfarris
unfarris_cong S R a b p q r = cc

pub score_anchored : (n x : ℕ) (l : List ℤ) (a b : ℕ) → a < n → b < n → score (anchored_scores n x l) a b ≡ farris (score l) x a b
unfolding anchored_scores
score_anchored n x l = score_pair_list n (farris (score l) x) (farris_symm (score l) (score_symm l) x)

pub score_back : (n : ℕ) (l : List ℤ) (a b : ℕ) → a < n → b < n → score (distances_back n l) a b ≡ unfarris (score l) a b
unfolding distances_back
score_back n l = score_pair_list n (unfarris (score l)) (unfarris_symm (score l) (score_symm l))

length_back : (n : ℕ) (l : List ℤ) → length (distances_back n l) ≡ row_start n
unfolding distances_back
length_back n l = length_pair_list n (unfarris (score l))

distances_own : (n : ℕ) (l : List ℤ) → T (are_distances n l) → (a : ℕ) → a < n → score l a a ≡ pos 0
unfolding are_distances
distances_own n l t a h = eq_z_yes (score l a a) (pos 0) (all_in own (below n) (and_T (all (le_z (pos 0)) l) (all own (below n)) t).1 (lt_below n a h))
  where
    own : ℕ → Bool
    own a = eq_z (score l a a) (pos 0)

pub anchored_back : (n x : ℕ) (l : List ℤ) → x < n → length l ≡ row_start n → T (are_distances n l) → distances_back n (anchored_scores n x l) ≡ l
unfolding distances_back
anchored_back n x l hx e t = pair_list_cong n (unfarris (score (anchored_scores n x l))) (score l) (λ a b h k. back a b h (omega arith)) ∙ pair_list_score n l e
  where
    back : (a b : ℕ) → a < n → b < n → unfarris (score (anchored_scores n x l)) a b ≡ score l a b
    back a b h k =
        unfarris_cong (score (anchored_scores n x l)) (farris (score l) x) a b (score_anchored n x l a a h h) (score_anchored n x l b b k k)
        (score_anchored n x l a b h k)
        ∙ farris_back (score l) x a b (distances_own n l t a h) (distances_own n l t b k)

back_anchored : (n x : ℕ) (l : List ℤ) → x < n → length l ≡ row_start n → ((a : ℕ) → a < n → (score l a x ≡ pos 0) × T (even (score l a a)))
    → anchored_scores n x (distances_back n l) ≡ l
unfolding anchored_scores
back_anchored n x l hx e f = pair_list_cong n (farris (score (distances_back n l)) x) (score l) (λ a b h k. again a b h (omega arith)) ∙ pair_list_score n l e
  where
    again : (a b : ℕ) → a < n → b < n → farris (score (distances_back n l)) x a b ≡ score l a b
    again a b h k =
        farris_cong (score (distances_back n l)) (unfarris (score l)) x a b (score_back n l a x h hx) (score_back n l b x k hx) (score_back n l a b h k)
        ∙ back_farris (score l) x a b (f a h).1 (f b k).1 (f a h).0 (f b k).0 (f x hx).0

anchored_own : (n x : ℕ) (d : List ℤ) → x < n → T (are_distances n d) → (a : ℕ) → a < n
    → (score (anchored_scores n x d) a x ≡ pos 0) × T (even (score (anchored_scores n x d) a a))
anchored_own n x d hx t a h = (
  score_anchored n x d a x h hx ∙ farris_anchor (score d) x a (distances_own n d t x hx),
  subst (λ z. T (even z)) (sym (score_anchored n x d a a h h ∙ farris_own (score d) x a (distances_own n d t a h))) (even_twice (score d a x)),
)

pub anchored_iff : (n x : ℕ) (l : List ℤ) → x < n → length l ≡ row_start n
    → T (is_anchored n x l) ↔ ((d : List ℤ) × (length d ≡ row_start n) × T (in_range d) × T (are_distances n d) × (anchored_scores n x d ≡ l))
unfolding is_anchored
anchored_iff n x l hx e = (fore, λ (d, ed, r, t, q). subst (λ m. T (is_anchored n x m)) q (rear d ed r t))
  where
    own : List ℤ → ℕ → Bool
    own l a = eq_z (score l a x) (pos 0) && even (score l a a)

    fore : T (is_anchored n x l) → (d : List ℤ) × (length d ≡ row_start n) × T (in_range d) × T (are_distances n d) × (anchored_scores n x d ≡ l)
    fore t =
        let d = distances_back n l in
        let (t₁₂, t₃) = and_T (all (own l) (below n) && in_range d) (are_distances n d) t in
        let (t₁, t₂) = and_T (all (own l) (below n)) (in_range d) t₁₂ in
        (d, length_back n l, t₂, t₃, back_anchored n x l hx e (λ a h. at a (all_in (own l) (below n) t₁ (lt_below n a h))))
      where
        at : (a : ℕ) → T (own l a) → (score l a x ≡ pos 0) × T (even (score l a a))
        at a t = let (u, w) = and_T (eq_z (score l a x) (pos 0)) (even (score l a a)) t in (eq_z_yes (score l a x) (pos 0) u, w)

    rear : (d : List ℤ) → length d ≡ row_start n → T (in_range d) → T (are_distances n d) → T (is_anchored n x (anchored_scores n x d))
    rear d ed r t =
        let S = anchored_scores n x d in
        let back = anchored_back n x d hx ed t in
        T_and (all (own S) (below n) && in_range (distances_back n S)) (are_distances n (distances_back n S))
        (T_and (all (own S) (below n)) (in_range (distances_back n S)) (in_all (own S) (below n) (λ a m. at a (anchored_own n x d hx t a (below_lt n m)))) (rw back r)) (rw back t)
      where
        at : (a : ℕ) → (score (anchored_scores n x d) a x ≡ pos 0) × T (even (score (anchored_scores n x d) a a)) → T (own (anchored_scores n x d) a)
        at a (u, w) = let S = score (anchored_scores n x d) in T_and (eq_z (S a x) (pos 0)) (even (S a a)) (yes_eq_z (S a x) (pos 0) u) w
