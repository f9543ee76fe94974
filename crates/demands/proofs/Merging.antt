-- The order of merging: the blocks left are the largest of what stands before a slot.
use mathlib.Core.Path.{◌≡◌, refl, sym, ap, ◌∙◌, ap₂, subst, subst₂}
use mathlib.Core.Bool.{Bool, not, ◌||◌}
use mathlib.Core.Logic.{◌⊎◌, inl, inr, ◌≢◌}
use mathlib.Core.List.Memᴰ
use mathlib.Core.List.{
  List,
  [],
  ◌∷◌,
  ◌++◌,
  append_assoc,
  head-eq_of_cons-eq,
}
use Prim.Native.Nat.{ℕ, zero, suc, ◌+◌, ◌*◌, ◌^◌, ◌<◌, ◌≤◌}
use native.Mathlib.Decide.{ℕ_discrete}
use native.Mathlib.Omega.{arith}
use lib.Dec.{T, T_not, eqb, eqb→eq, lit≤}
use lib.IntN.{ℤ, pos, ◌*ℤ◌}
use lib.Signed.{◌≤ℤ◌, le_z}
use lib.ListN.{length, length-append, get_or, take}
use lib.Seq.{take-append_seam, get_or_at}
use Rattle.lists.specs.Lists.{◌∈◌, below, each, keep, all, erase}
use Rattle.lists.proofs.Lists.{below_lt, lt_below, in_map, of_map, all_in}
use Rattle.lists.proofs.Distinct.{in_erase}
use Rattle.lists.proofs.Tests.{or_T}
use Rattle.integers.specs.Integers.{eq_z, max_z, greatest, sum_of, sum}
use Rattle.integers.proofs.Linear.{zarith, *at, up, dn}
use Rattle.integers.proofs.Least.{greatest_ge, greatest_of}
use Rattle.sets.specs.Sets.{has, ◌∋◌, ◌∪◌, members, size, Subset}
use Rattle.sets.proofs.Sets.{clash, ∪_left, ∪_right, ∪_cases, ∪_lt, subset_antisymm}
use Rattle.pairs.specs.Pairs.{mark, carried, is_scored}
use Rattle.clusters.specs.PairList.{Similarity, row_start, place, score, one_point, point_limit, score_limit, is_in_range, in_range, has_unscored}
use Rattle.clusters.specs.Linkage.{Quotient, ◌≼◌, between, Linkage, single, average, link, Greatest, merged, Merges, singles, Tree, merged_blocks}
use Rattle.clusters.proofs.Blocks.{Partition, disjoint, of_merged, partition_merged, partition_singles}
use Rattle.clusters.proofs.Links.{in_between, of_between, sum_between}
use Rattle.clusters.proofs.Exists.{length_merged, count_singles}
use Rattle.answers.specs.Answers.{number_of, Answer, count_of}
use Rattle.interface.specs.Sheet.{same_bytes}
use Rattle.interface.specs.Calls.{LinkageCall}
use Rattle.interface.proofs.Pieces.{same_bytes_lem}
use Rattle.demands.proofs.Demands.{merged_slots}
use Rattle.demands.specs.Taken.{FitsList}
use Rattle.demands.specs.Sentences.{HasMark}
use Rattle.demands.proofs.AgreeNumbers.{in_range_says, marked_says}
use Rattle.demands.proofs.Taken.{whatever_fits}
use Rattle.demands.specs.Merging.{LeftBefore, NoSmaller, SlotMerges, four_scores, InOrder}

-- what stands, by a list of slots
abbrev Standing : ℕ → List ℕ → ℕ → Type 0
Standing n done X = ((i : ℕ) × (i < n) × (X ≡ 2 ^ i)) ⊎ (X ∈ done)

-- the blocks left by the slots done
record Left (n : ℕ) (done bs : List ℕ) : Type 0 where
  part : Partition n bs
  stand : (X : ℕ) → X ∈ bs → Standing n done X
  held : (X : ℕ) → Standing n done X → (B : ℕ) × (B ∈ bs) × Subset n X B
  small : (X : ℕ) → Standing n done X → X < 2 ^ n

-- at the start
single_entries : (n : ℕ) → Left n [] (singles n)
unfolding singles
single_entries n = record {
  part = p;
  stand = λ X m. let (i, k, e) = of_map (λ i. 2 ^ i) (below n) m in inl (i, below_lt n k, e);
  held = λ X s. (X, one X s, record { all = λ i h k. k });
  small = λ X s. p.small X (one X s);
}
  where
    p : Partition n (singles n)
    p = partition_singles n

    one : (X : ℕ) → Standing n [] X → X ∈ singles n
    one X (inl (i, h, e)) = Memᴰ.cast e (in_map (λ i. 2 ^ i) (lt_below n i h))
    one X (inr m) = absurd (Memᴰ.not-nil m)

-- one slot more
module _ {n : ℕ} {done bs : List ℕ} (l : Left n done bs) (U W : ℕ) (mu : U ∈ bs) (mw : W ∈ bs) (apart : U ≢ W) where
  more : (X : ℕ) → Standing n done X → Standing n (done ++ ((U ∪ W) ∷ [])) X
  more X (inl s) = inl s
  more X (inr m) = inr (Memᴰ.append_left ((U ∪ W) ∷ []) m)

  fewer : (X : ℕ) → Standing n (done ++ ((U ∪ W) ∷ [])) X → (X ≡ U ∪ W) ⊎ Standing n done X
  fewer X (inl s) = inr (inl s)
  fewer X (inr m) = go (Memᴰ.append_cases done m)
    where
      go : (X ∈ done) ⊎ (X ∈ (U ∪ W) ∷ []) → (X ≡ U ∪ W) ⊎ Standing n done X
      go (inl k) = inr (inr k)
      go (inr (Memᴰ.head e)) = inl e
      go (inr (Memᴰ.tail k)) = absurd (Memᴰ.not-nil k)

  joined_part : Partition n (merged U W bs)
  joined_part = partition_merged U W bs n l.part mu mw apart

  joined_held : (X : ℕ) → (X ≡ U ∪ W) ⊎ Standing n done X → (B : ℕ) × (B ∈ merged U W bs) × Subset n X B
  unfolding merged
  joined_held X (inl e) = (U ∪ W, Memᴰ.head refl, subst (λ (Y : ℕ). Subset n Y (U ∪ W)) (sym e) (record { all = λ i h k. k }))
  joined_held X (inr s) = let (B, m, sub) = l.held X s in go B m sub (ℕ_discrete B U) (ℕ_discrete B W)
    where
      go : (B : ℕ) → B ∈ bs → Subset n X B → Dec (B ≡ U) → Dec (B ≡ W) → (C : ℕ) × (C ∈ merged U W bs) × Subset n X C
      go B m sub (yes e) _ = (U ∪ W, Memᴰ.head refl, record { all = λ i h k. ∪_left U W (subst (λ (Y : ℕ). Y ∋ i) e (sub.all i h k)) })
      go B m sub (no f) (yes e) = (U ∪ W, Memᴰ.head refl, record { all = λ i h k. ∪_right U W (subst (λ (Y : ℕ). Y ∋ i) e (sub.all i h k)) })
      go B m sub (no f) (no g) = (B, Memᴰ.tail (in_erase U (erase W bs) f (in_erase W bs g m)), sub)

  one_more : Left n (done ++ ((U ∪ W) ∷ [])) (merged U W bs)
  unfolding merged
  one_more = record {
    part = joined_part;
    stand = λ X m. at X (of_merged U W bs m);
    held = λ X s. joined_held X (fewer X s);
    small = λ X s. low X (fewer X s);
  }
    where
      at : (X : ℕ) → (X ≡ U ∪ W) ⊎ (X ∈ bs) → Standing n (done ++ ((U ∪ W) ∷ [])) X
      at X (inl e) = inr (Memᴰ.append_right done (Memᴰ.head e))
      at X (inr m) = more X (l.stand X m)

      low : (X : ℕ) → (X ≡ U ∪ W) ⊎ Standing n done X → X < 2 ^ n
      low X (inl e) = joined_part.small X (Memᴰ.head e)
      low X (inr s) = l.small X s

-- the blocks left are the largest
module _ {n : ℕ} {done bs : List ℕ} (l : Left n done bs) where
  largest : (X : ℕ) → X ∈ bs → (Y : ℕ) → Standing n done Y → Subset n X Y → Y ≡ X
  largest X m Y s sub =
      let (B, k, up) = l.held Y s in
      let (i, h, at) = l.part.some X m in
      go B k up i h at (ℕ_discrete X B)
    where
      go : (B : ℕ) → B ∈ bs → Subset n Y B → (i : ℕ) → i < n → X ∋ i → Dec (X ≡ B) → Y ≡ X
      go B k up i h at (yes e) =
          subset_antisymm n Y X (l.small Y s) (l.part.small X m) (subst (λ (C : ℕ). Subset n Y C) (sym e) up) sub
      go B k up i h at (no f) = absurd (clash (up.all i h (sub.all i h at)) (disjoint l.part X B m k f i h at))

  is_left : (X : ℕ) → Standing n done X → ((Y : ℕ) → Standing n done Y → Subset n X Y → Y ≡ X) → X ∈ bs
  is_left X s f = let (B, k, sub) = l.held X s in Memᴰ.cast (sym (f B (l.stand B k) sub)) k

-- links, compared
below_all : (g h x y : ℤ) → (pos 1 *ℤ g) ≤ℤ (pos 1 *ℤ h) → x ≤ℤ g → h ≡ y → x ≤ℤ y
unfolding up dn
below_all g h x y le a e = omega (zarith, *at (pos 1) g, *at (pos 1) h)

no_smaller : (linkage : Linkage) (n : ℕ) (s : Similarity) (U W P Q : ℕ) → ((i : ℕ) × (i < n) × (U ∋ i)) → ((i : ℕ) × (i < n) × (W ∋ i))
    → link linkage n s P Q ≼ link linkage n s U W → NoSmaller linkage n s U W P Q
unfolding link ◌≼◌
no_smaller single n s U W P Q (a, ha, ka) (b, hb, kb) le = λ p q hp hq kp kq.
    let (u, w, hu, hw, ku, kw, e) = of_between n s U W (greatest_of (between n s U W) (in_between n s U W ha hb ka kb)) in
    (u, w, hu, hw, ku, kw, below_all (greatest (between n s P Q)) (greatest (between n s U W)) (s p q) (s u w) le (greatest_ge (between n s P Q) (in_between n s P Q hp hq kp kq)) e)
no_smaller average n s U W P Q a b le = subst₂ (λ x y. (pos (size n U * size n W) *ℤ x) ≤ℤ (pos (size n P * size n Q) *ℤ y)) (sum_between n s P Q) (sum_between n s U W) le

-- a slot at which two blocks left are merged
at_slot : (linkage : Linkage) (n : ℕ) (s : Similarity) (slots : List ℕ) (k : ℕ) {bs : List ℕ} (U W : ℕ) → Left n (take k slots) bs
    → Greatest (link linkage n s) bs U W → get_or slots k 0 ≡ U ∪ W → SlotMerges linkage n s slots k
at_slot linkage n s slots k {bs} U W l g e = record {
  U = U;
  W = W;
  one = left U g.left;
  other = left W g.right;
  apart = g.apart;
  union = λ i h. (λ m. ∪_cases U W (subst (λ (X : ℕ). X ∋ i) e m), λ x. subst (λ (X : ℕ). X ∋ i) (sym e) (either i x));
  greatest = λ P Q p q d. no_smaller linkage n s U W P Q (l.part.some U g.left) (l.part.some W g.right)
      (g.most P Q (is_left l P p.stands p.largest) (is_left l Q q.stands q.largest) d);
}
  where
    left : (X : ℕ) → X ∈ bs → LeftBefore n slots k X
    left X m = record { stands = l.stand X m; largest = largest l X m }

    either : (i : ℕ) → (U ∋ i) ⊎ (W ∋ i) → (U ∪ W) ∋ i
    either i (inl m) = ∪_left U W m
    either i (inr m) = ∪_right U W m

walk : (linkage : Linkage) (n : ℕ) (s : Similarity) (done bs : List ℕ) (ms : List (ℕ × ℕ)) → Left n done bs → Merges (link linkage n s) bs ms
    → (k : ℕ) → k < length ms → SlotMerges linkage n s (done ++ merged_blocks ms) (length done + k)
unfolding merged_blocks
walk linkage n s done bs [] l t k h = absurd (omega arith)
walk linkage n s done bs (m ∷ ms) l t zero h =
    let U = m.0 in
    let W = m.1 in
    let rest = merged_blocks ms in
    let e : length done + 0 ≡ length done = omega arith in
    subst (λ (k : ℕ). SlotMerges linkage n s (done ++ ((U ∪ W) ∷ rest)) k) (sym e)
    (at_slot linkage n s (done ++ ((U ∪ W) ∷ rest)) (length done) U W
    (subst (λ (d : List ℕ). Left n d bs) (sym (take-append_seam done ((U ∪ W) ∷ rest))) l) t.0 (get_or_at done (U ∪ W) rest 0 (length done) refl))
walk linkage n s done bs (m ∷ ms) l t (suc k) h =
    let U = m.0 in
    let W = m.1 in
    let X = U ∪ W in
    let g = t.0 in
    let e : length (done ++ (X ∷ [])) + k ≡ length done + suc k = omega (arith, length-append done (X ∷ [])) in
    subst₂ (λ (slots : List ℕ) (k : ℕ). SlotMerges linkage n s slots k) (append_assoc done (X ∷ []) (merged_blocks ms)) e
    (walk linkage n s (done ++ (X ∷ [])) (merged U W bs) ms (one_more l U W g.left g.right g.apart) t.1 k (omega arith))

-- a link that is no smaller, the other way
no_greater : (g h x y : ℤ) → g ≡ x → x ≤ℤ y → y ≤ℤ h → (pos 1 *ℤ g) ≤ℤ (pos 1 *ℤ h)
unfolding up dn
no_greater g h x y e a b = omega (zarith, *at (pos 1) g, *at (pos 1) h)

link_below : (linkage : Linkage) (n : ℕ) (s : Similarity) (U W P Q : ℕ) → ((i : ℕ) × (i < n) × (P ∋ i)) → ((i : ℕ) × (i < n) × (Q ∋ i))
    → NoSmaller linkage n s U W P Q → link linkage n s P Q ≼ link linkage n s U W
unfolding link ◌≼◌
link_below single n s U W P Q (a, ha, ka) (b, hb, kb) f =
    let (p, q, hp, hq, kp, kq, e) = of_between n s P Q (greatest_of (between n s P Q) (in_between n s P Q ha hb ka kb)) in
    let (u, w, hu, hw, ku, kw, le) = f p q hp hq kp kq in
    no_greater (greatest (between n s P Q)) (greatest (between n s U W)) (s p q) (s u w) e le (greatest_ge (between n s U W) (in_between n s U W hu hw ku kw))
link_below average n s U W P Q a b le =
    subst₂ (λ x y. (pos (size n U * size n W) *ℤ x) ≤ℤ (pos (size n P * size n Q) *ℤ y)) (sym (sum_between n s P Q)) (sym (sum_between n s U W)) le

-- a list of which each slot merges so, from the blocks left on
module _ (linkage : Linkage) (n : ℕ) (s : Similarity) where
  -- the slot behind those done merges two of the blocks left
  record Next (done bs : List ℕ) (X : ℕ) : Type 0 where
    U : ℕ
    W : ℕ
    merges : Greatest (link linkage n s) bs U W
    is : X ≡ U ∪ W

  next_slot : (done bs : List ℕ) (X : ℕ) (rest : List ℕ) → Left n done bs → X < 2 ^ n → SlotMerges linkage n s (done ++ (X ∷ rest)) (length done) → Next done bs X
  next_slot done bs X rest l low m =
      let U = m.U in
      let W = m.W in
      let mu = is_left l U (stands U m.one.stands) (λ Y y sub. m.one.largest Y (back Y y) sub) in
      let mw = is_left l W (stands W m.other.stands) (λ Y y sub. m.other.largest Y (back Y y) sub) in
      record {
        U = U;
        W = W;
        merges = record {
          left = mu;
          right = mw;
          apart = m.apart;
          most = λ P Q p q d. link_below linkage n s U W P Q (l.part.some P p) (l.part.some Q q) (m.greatest P Q (left_at P p) (left_at Q q) d);
        };
        is = subset_antisymm n X (U ∪ W) low (∪_lt n (l.part.small U mu) (l.part.small W mw))
            (record { all = λ i h k. either i ((m.union i h).0 (here i k)) })
            (record { all = λ i h k. there i ((m.union i h).1 (∪_cases U W k)) });
      }
    where
      front : take (length done) (done ++ (X ∷ rest)) ≡ done
      front = take-append_seam done (X ∷ rest)

      slot : get_or (done ++ (X ∷ rest)) (length done) 0 ≡ X
      slot = get_or_at done X rest 0 (length done) refl

      stands : (Y : ℕ) → Standing n (take (length done) (done ++ (X ∷ rest))) Y → Standing n done Y
      stands Y y = subst (λ (d : List ℕ). Standing n d Y) front y

      back : (Y : ℕ) → Standing n done Y → Standing n (take (length done) (done ++ (X ∷ rest))) Y
      back Y y = subst (λ (d : List ℕ). Standing n d Y) (sym front) y

      left_at : (P : ℕ) → P ∈ bs → LeftBefore n (done ++ (X ∷ rest)) (length done) P
      left_at P p = record { stands = back P (l.stand P p); largest = λ Y y sub. largest l P p Y (stands Y y) sub }

      here : (i : ℕ) → X ∋ i → get_or (done ++ (X ∷ rest)) (length done) 0 ∋ i
      here i k = subst (λ (Y : ℕ). Y ∋ i) (sym slot) k

      there : (i : ℕ) → get_or (done ++ (X ∷ rest)) (length done) 0 ∋ i → X ∋ i
      there i k = subst (λ (Y : ℕ). Y ∋ i) slot k

      either : (i : ℕ) → (m.U ∋ i) ⊎ (m.W ∋ i) → (m.U ∪ m.W) ∋ i
      either i (inl k) = ∪_left m.U m.W k
      either i (inr k) = ∪_right m.U m.W k

  down : (done bs rest : List ℕ) → Left n done bs → length rest + 1 ≡ length bs → ((X : ℕ) → X ∈ rest → X < 2 ^ n)
      → ((k : ℕ) → k < length rest → SlotMerges linkage n s (done ++ rest) (length done + k))
      → (ms : List (ℕ × ℕ)) × Merges (link linkage n s) bs ms × (merged_blocks ms ≡ rest)
  unfolding merged_blocks
  down done bs [] l e low f = ([], sym e, refl)
  down done bs (X ∷ rest) l e low f =
      let z : length done + 0 ≡ length done = omega arith in
      let x = next_slot done bs X rest l (low X (Memᴰ.head refl)) (subst (SlotMerges linkage n s (done ++ (X ∷ rest))) z (f 0 (omega arith))) in
      let U = x.U in
      let W = x.W in
      let g = x.merges in
      let done' = done ++ (X ∷ []) in
      let l' : Left n done' (merged U W bs) = subst (λ (Y : ℕ). Left n (done ++ (Y ∷ [])) (merged U W bs)) (sym x.is) (one_more l U W g.left g.right g.apart) in
      let fewer = length_merged U W bs g.left g.right g.apart in
      let (ms, t, is) = down done' (merged U W bs) rest l' (omega (arith, fewer)) (λ Y m. low Y (Memᴰ.tail m)) (λ k h.
      let q : length done + suc k ≡ length done' + k = omega (arith, length-append done (X ∷ [])) in
      subst₂ (λ (slots : List ℕ) (k : ℕ). SlotMerges linkage n s slots k) (sym (append_assoc done (X ∷ []) rest)) q (f (suc k) (omega arith))) in
      ((U, W) ∷ ms, (g, t), ap₂ (λ (y : ℕ) (r : List ℕ). y ∷ r) (sym x.is) is)

-- of a call
ordered : {linkage : Linkage} {n : ℕ} {l : List ℤ} {lent after : List ℕ} {r : Answer} (c : LinkageCall linkage n l lent r after) → number_of r ≡ 0
    → (k : ℕ) → k < count_of r → SlotMerges linkage n (score l) (take (count_of r) after) k
ordered {linkage} {n} {l} c none k h =
    let m = merged_slots c none in
    let e : 0 + k ≡ k = omega arith in
    subst₂ (λ (slots : List ℕ) (k : ℕ). SlotMerges linkage n (score l) slots k) (sym m.slots) e
    (walk linkage n (score l) [] (singles n) c.merges (single_entries n) m.tree k (omega (arith, m.many)))

-- four entries with one tree: of any two blocks left, only the pair that gives the next blocks has a link as great as that of X and Y
abbrev four_link : Linkage → ℕ → ℕ → Quotient
four_link linkage = link linkage 4 (score four_scores)

as_great : Linkage → (X Y U W : ℕ) → Bool
as_great linkage X Y U W =
    le_z (pos (four_link linkage U W).den *ℤ (four_link linkage X Y).num) (pos (four_link linkage X Y).den *ℤ (four_link linkage U W).num)

pair_test : Linkage → (X Y : ℕ) → (bs next : List ℕ) → (U W : ℕ) → Bool
pair_test linkage X Y bs next U W = eqb U W || (same_bytes (merged U W bs) next || not (as_great linkage X Y U W))

one_way : (linkage : Linkage) (X Y : ℕ) (bs next : List ℕ) → T (all (λ U. all (pair_test linkage X Y bs next U) bs) bs) → X ∈ bs → Y ∈ bs → X ≢ Y
    → (U W : ℕ) → Greatest (four_link linkage) bs U W → merged U W bs ≡ next
unfolding pair_test as_great ◌≼◌
one_way linkage X Y bs next t mx my d U W g = go (or_T (eqb U W) (same_bytes (merged U W bs) next || not (as_great linkage X Y U W))
    (all_in (pair_test linkage X Y bs next U) bs (all_in (λ U. all (pair_test linkage X Y bs next U) bs) bs t g.left) g.right))
  where
    rest : T (same_bytes (merged U W bs) next) ⊎ T (not (as_great linkage X Y U W)) → merged U W bs ≡ next
    rest (inl t) = same_bytes_lem (merged U W bs) next t
    rest (inr t) = absurd (T_not (as_great linkage X Y U W) t (g.most X Y mx my d).le)

    go : T (eqb U W) ⊎ T (same_bytes (merged U W bs) next || not (as_great linkage X Y U W)) → merged U W bs ≡ next
    go (inl t) = absurd (g.apart (eqb→eq U W t))
    go (inr t) = rest (or_T (same_bytes (merged U W bs) next) (not (as_great linkage X Y U W)) t)

-- the merges from these blocks on
then : (linkage : Linkage) (X Y M : ℕ) (bs next slots : List ℕ) → T (all (λ U. all (pair_test linkage X Y bs (M ∷ next) U) bs) bs) → X ∈ bs → Y ∈ bs → X ≢ Y → 2 ≤ length bs
    → ((ms : List (ℕ × ℕ)) → Merges (four_link linkage) (M ∷ next) ms → merged_blocks ms ≡ slots)
    → (ms : List (ℕ × ℕ)) → Merges (four_link linkage) bs ms → merged_blocks ms ≡ M ∷ slots
unfolding merged_blocks merged
then linkage X Y M bs next slots t mx my d long f [] m = absurd (omega arith)
then linkage X Y M bs next slots t mx my d long f (m ∷ ms) (g, r) =
    let e = one_way linkage X Y bs (M ∷ next) t mx my d m.0 m.1 g in
    ap₂ (λ (x : ℕ) (l : List ℕ). x ∷ l) (head-eq_of_cons-eq e) (f ms (subst (λ (b : List ℕ). Merges (four_link linkage) b ms) e r))

no_more : (linkage : Linkage) (X : ℕ) (ms : List (ℕ × ℕ)) → Merges (four_link linkage) (X ∷ []) ms → merged_blocks ms ≡ []
unfolding merged_blocks
no_more linkage X [] m = refl
no_more linkage X (m ∷ ms) (g, r) = absurd (g.apart (Memᴰ.eq_of_singleton g.left ∙ sym (Memᴰ.eq_of_singleton g.right)))

tests : (linkage : Linkage)
    → T (all (λ U. all (pair_test linkage 4 8 (1 ∷ 2 ∷ 4 ∷ 8 ∷ []) (12 ∷ 1 ∷ 2 ∷ []) U) (1 ∷ 2 ∷ 4 ∷ 8 ∷ [])) (1 ∷ 2 ∷ 4 ∷ 8 ∷ []))
    × T (all (λ U. all (pair_test linkage 1 2 (12 ∷ 1 ∷ 2 ∷ []) (3 ∷ 12 ∷ []) U) (12 ∷ 1 ∷ 2 ∷ [])) (12 ∷ 1 ∷ 2 ∷ []))
    × T (all (λ U. all (pair_test linkage 3 12 (3 ∷ 12 ∷ []) (15 ∷ []) U) (3 ∷ 12 ∷ [])) (3 ∷ 12 ∷ []))
unfolding pair_test as_great link between four_scores score place row_start below each keep has members size greatest max_z sum sum_of merged erase ◌∪◌ all same_bytes
tests single = (tt, tt, tt)
tests average = (tt, tt, tt)

one_tree : (linkage : Linkage) (ms : List (ℕ × ℕ)) → Tree linkage 4 (score four_scores) ms → merged_blocks ms ≡ 12 ∷ 3 ∷ 15 ∷ []
unfolding singles below
one_tree linkage =
    let (a, b, c) = tests linkage in
    then linkage 4 8 12 (1 ∷ 2 ∷ 4 ∷ 8 ∷ []) (1 ∷ 2 ∷ []) (3 ∷ 15 ∷ []) a
    (Memᴰ.tail (Memᴰ.tail (Memᴰ.head refl))) (Memᴰ.tail (Memᴰ.tail (Memᴰ.tail (Memᴰ.head refl)))) (λ e. omega arith) (omega arith)
    (then linkage 1 2 3 (12 ∷ 1 ∷ 2 ∷ []) (12 ∷ []) (15 ∷ []) b
    (Memᴰ.tail (Memᴰ.head refl)) (Memᴰ.tail (Memᴰ.tail (Memᴰ.head refl))) (λ e. omega arith) (omega arith)
    (then linkage 3 12 15 (3 ∷ 12 ∷ []) [] [] c (Memᴰ.head refl) (Memᴰ.tail (Memᴰ.head refl)) (λ e. omega arith) (omega arith)
    (no_more linkage 15)))

four_fit : FitsList 4 four_scores
unfolding four_scores in_range is_in_range score_limit one_point point_limit all
four_fit = record {
  count = (lit≤ tt, lit≤ tt);
  long = refl;
  range = λ z m. inr ((in_range_says four_scores).to tt z m);
}

four_scored : HasMark four_scores → ⊥
unfolding four_scores has_unscored carried is_scored eq_z mark all
four_scored m = T_not (has_unscored four_scores) tt ((marked_says four_scores).from m)

pub in_order : InOrder
in_order = record {
  slots = λ c none. let e = (merged_slots c none).count in (omega arith, ordered c none);
  every_tree = λ linkage n s slots e low f.
      down linkage n s [] (singles n) slots (single_entries n) (omega (arith, count_singles n)) low (λ k h.
      let z : k ≡ 0 + k = omega arith in subst (SlotMerges linkage n s slots) z (f k h));
  four = λ {linkage} {lent} {after} {r} c h.
      let none = (whatever_fits.linked four_fit four_scored c).0 h in
      let m = merged_slots c none in
      let three : count_of r ≡ 3 = omega (arith, m.count) in
      (none, ap (λ (k : ℕ). take k after) (sym three) ∙ m.slots ∙ one_tree linkage c.merges m.tree);
}
