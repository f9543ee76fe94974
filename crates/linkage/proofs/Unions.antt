-- Links: of single entries, of a union of two blocks, and their size.
use mathlib.Core.Path.{◌≡◌, refl, sym, ap, ap₂, ◌∙◌, subst}
use mathlib.Core.Bool.{cond}
use mathlib.Core.Logic.{◌⊎◌, inl, inr}
use mathlib.Core.List.Memᴰ
use mathlib.Core.List.{List, [], ◌∷◌}
use Prim.Native.Nat.{ℕ, ◌*◌, ◌^◌, ◌≤◌, ◌<◌}
use native.Mathlib.Nat.{mul-le-mul}
use native.Mathlib.Omega.{arith}
use lib.Dec.{eqb, eqb→eq, lit≤}
use lib.IntN.{ℤ, pos, ◌+ℤ◌, +ℤ_idl, +ℤ_idr}
use lib.Signed.{◌≤ℤ◌}
use lib.ListN.{length}
use Rattle.lists.specs.Lists.{◌∈◌, below}
use Rattle.lists.proofs.Tests.{T_true, T_false, T_same, eqb_yes}
use Rattle.lists.proofs.Lists.{below_lt}
use Rattle.integers.specs.Integers.{max_z, greatest, sum_of}
use Rattle.integers.specs.Range.{Within}
use Rattle.integers.proofs.Linear.{up, dn, zarith}
use Rattle.integers.proofs.Least.{max_left, max_right, max_is, greatest_ge, greatest_of}
use Rattle.integers.proofs.Range.{within, within_grow, within_sum}
use Rattle.integers.proofs.Sums.{sum_cong, sum_add, sum_keep, sum_one}
use Rattle.sets.specs.Sets.{has, ◌∋◌, ◌∌◌, members, size, ◌∪◌}
use Rattle.sets.proofs.Sets.{has_yes, yes_has, no_has, in_or_out, clash, ∪_left, ∪_right, ∪_cases, one_in, one_only, of_members, size_le}
use Rattle.clusters.specs.PairList.{Similarity}
use Rattle.clusters.specs.Linkage.{between, link}
use Rattle.clusters.proofs.Links.{in_between, of_between, sum_between}
use Rattle.links.specs.declared.Method.{Method}
use Rattle.links.specs.declared.Method.TheVariants.{Single, Average}
use Rattle.links.specs.Table.{joined}
use Rattle.linkage.specs.Blocks.{linkage_of}

-- a block has an entry
abbrev pub Some : ℕ → ℕ → Type 0
Some n U = (i : ℕ) × (i < n) × (U ∋ i)

-- a sum over the members as a sum over all entries
sum_members : (n A : ℕ) (f : ℕ → ℤ) → sum_of (members n A) f ≡ sum_of (below n) (λ i. cond (has A i) (f i) (pos 0))
unfolding members
sum_members n A f = sum_keep (has A) (below n) f

has_single : (a i : ℕ) → has (2 ^ a) i ≡ eqb i a
has_single a i = T_same (has (2 ^ a) i) (eqb i a) (λ t. eqb_yes i a (one_only a (has_yes (2 ^ a) i t)))
    (λ t. yes_has (2 ^ a) i (subst (λ (j : ℕ). (2 ^ a) ∋ j) (sym (eqb→eq i a t)) (one_in a)))

sum_single : (n a : ℕ) → a < n → (f : ℕ → ℤ) → sum_of (members n (2 ^ a)) f ≡ f a
sum_single n a h f =
    sum_members n (2 ^ a) f
    ∙ sum_cong (below n) (λ i. cond (has (2 ^ a) i) (f i) (pos 0)) (λ i. cond (eqb i a) (f i) (pos 0)) (λ i _. ap (λ b. cond b (f i) (pos 0)) (has_single a i))
    ∙ sum_one n a h f

-- the link of two single entries is their score
pub link_single : (method : Method) (n : ℕ) (s : Similarity) (a b : ℕ) → a < n → b < n → (link (linkage_of method) n s (2 ^ a) (2 ^ b)).num ≡ s a b
unfolding link linkage_of
link_single Average n s a b ha hb = sum_between n s (2 ^ a) (2 ^ b) ∙ sum_single n a ha (λ u. sum_of (members n (2 ^ b)) (s u)) ∙ sum_single n b hb (s a)
link_single Single n s a b ha hb =
    let (u, w, _, _, ku, kw, e) = of_between n s (2 ^ a) (2 ^ b)
    (greatest_of (between n s (2 ^ a) (2 ^ b)) (in_between n s (2 ^ a) (2 ^ b) ha hb (one_in a) (one_in b))) in
    e ∙ ap₂ s (one_only a ku) (one_only b kw)

module _ (n A B : ℕ) (apart : (i : ℕ) → i < n → A ∋ i → B ∌ i) where
  part : (i : ℕ) (z : ℤ) → i < n → cond (has (A ∪ B) i) z (pos 0) ≡ cond (has A i) z (pos 0) +ℤ cond (has B i) z (pos 0)
  part i z h = go (in_or_out A i) (in_or_out B i)
    where
      take_in : (C : ℕ) → C ∋ i → cond (has C i) z (pos 0) ≡ z
      take_in C k = ap (λ b. cond b z (pos 0)) (T_true {b = has C i} (yes_has C i k))

      leave_out : (C : ℕ) → C ∌ i → cond (has C i) z (pos 0) ≡ pos 0
      leave_out C k = ap (λ b. cond b z (pos 0)) (T_false {b = has C i} (no_has C i k))

      neither : A ∌ i → B ∌ i → (A ∪ B) ∌ i
      neither k l = at (in_or_out (A ∪ B) i)
        where
          at : ((A ∪ B) ∋ i) ⊎ ((A ∪ B) ∌ i) → (A ∪ B) ∌ i
          at (inl m) = one (∪_cases A B m)
            where
              one : (A ∋ i) ⊎ (B ∋ i) → (A ∪ B) ∌ i
              one (inl a) = clash a k
              one (inr b) = clash b l
          at (inr m) = m

      go : (A ∋ i) ⊎ (A ∌ i) → (B ∋ i) ⊎ (B ∌ i) → cond (has (A ∪ B) i) z (pos 0) ≡ cond (has A i) z (pos 0) +ℤ cond (has B i) z (pos 0)
      go (inl a) (inl b) = clash b (apart i h a)
      go (inl a) (inr b) = take_in (A ∪ B) (∪_left A B a) ∙ sym (ap₂ ◌+ℤ◌ (take_in A a) (leave_out B b) ∙ +ℤ_idr z)
      go (inr a) (inl b) = take_in (A ∪ B) (∪_right A B b) ∙ sym (ap₂ ◌+ℤ◌ (leave_out A a) (take_in B b) ∙ +ℤ_idl z)
      go (inr a) (inr b) = leave_out (A ∪ B) (neither a b) ∙ sym (ap₂ ◌+ℤ◌ (leave_out A a) (leave_out B b))

  sum_union : (f : ℕ → ℤ) → sum_of (members n (A ∪ B)) f ≡ sum_of (members n A) f +ℤ sum_of (members n B) f
  sum_union f =
      sum_members n (A ∪ B) f
      ∙ sum_cong (below n) (λ i. cond (has (A ∪ B) i) (f i) (pos 0))
      (λ i. cond (has A i) (f i) (pos 0) +ℤ cond (has B i) (f i) (pos 0)) (λ i m. part i (f i) (below_lt n m))
      ∙ sum_add (below n) (λ i. cond (has A i) (f i) (pos 0)) (λ i. cond (has B i) (f i) (pos 0))
      ∙ sym (ap₂ ◌+ℤ◌ (sum_members n A f) (sum_members n B f))

greatest_union : (n : ℕ) (s : Similarity) (A B W : ℕ) → Some n A → Some n B → Some n W
    → greatest (between n s (A ∪ B) W) ≡ max_z (greatest (between n s A W)) (greatest (between n s B W))
greatest_union n s A B W (a, ha, ka) (b, hb, kb) (w, hw, kw) =
    let (u, v, hu, hv, ku, kv, e) = of_between n s (A ∪ B) W (greatest_of (between n s (A ∪ B) W) (in_between n s (A ∪ B) W ha hw (∪_left A B ka) kw)) in
    let (x, y, hx, hy, kx, ky, f) = of_between n s A W (greatest_of (between n s A W) (in_between n s A W ha hw ka kw)) in
    let (p, q, hp, hq, kp, kq, g) = of_between n s B W (greatest_of (between n s B W) (in_between n s B W hb hw kb kw)) in
    let l = greatest_ge (between n s (A ∪ B) W) (in_between n s (A ∪ B) W hx hy (∪_left A B kx) ky) in
    let m = greatest_ge (between n s (A ∪ B) W) (in_between n s (A ∪ B) W hp hq (∪_right A B kp) kq) in
    let most : max_z (greatest (between n s A W)) (greatest (between n s B W)) ≤ℤ greatest (between n s (A ∪ B) W) =
    either (max_is (greatest (between n s A W)) (greatest (between n s B W))) (omega zarith) (omega zarith) in
    let least : greatest (between n s (A ∪ B) W) ≤ℤ max_z (greatest (between n s A W)) (greatest (between n s B W)) = low u v hu hv kv e (∪_cases A B ku) in
    omega zarith
  where
    G : ℤ
    G = greatest (between n s A W)

    H : ℤ
    H = greatest (between n s B W)

    either : (max_z G H ≡ G) ⊎ (max_z G H ≡ H) → G ≤ℤ greatest (between n s (A ∪ B) W)
        → H ≤ℤ greatest (between n s (A ∪ B) W) → max_z G H ≤ℤ greatest (between n s (A ∪ B) W)
    either (inl e) h k = omega zarith
    either (inr e) h k = omega zarith

    low : (u v : ℕ) → u < n → v < n → W ∋ v → greatest (between n s (A ∪ B) W) ≡ s u v → (A ∋ u) ⊎ (B ∋ u) → greatest (between n s (A ∪ B) W) ≤ℤ max_z G H
    low u v hu hv kv e (inl k) = omega (zarith, e, greatest_ge (between n s A W) (in_between n s A W hu hv k kv), max_left G H)
    low u v hu hv kv e (inr k) = omega (zarith, e, greatest_ge (between n s B W) (in_between n s B W hu hv k kv), max_right G H)

-- the link of a union of two blocks that share no entry
pub link_union : (method : Method) (n : ℕ) (s : Similarity) (A B W : ℕ) → ((i : ℕ) → i < n → A ∋ i → B ∌ i) → Some n A → Some n B → Some n W
    → (link (linkage_of method) n s (A ∪ B) W).num ≡ joined method (link (linkage_of method) n s A W).num (link (linkage_of method) n s B W).num
unfolding link linkage_of joined
link_union Average n s A B W apart _ _ _ =
    sum_between n s (A ∪ B) W ∙ sum_union n A B apart (λ u. sum_of (members n W) (s u)) ∙ sym (ap₂ ◌+ℤ◌ (sum_between n s A W) (sum_between n s B W))
link_union Single n s A B W apart a b w = greatest_union n s A B W a b w

-- a sum of bounded numbers
within_sum_of : {k : ℕ} (l : List ℕ) (f : ℕ → ℤ) → ((x : ℕ) → x ∈ l → Within k (f x)) → Within (length l * k) (sum_of l f)
unfolding sum_of up dn
within_sum_of [] f h = within (omega arith) (omega arith)
within_sum_of (x ∷ l) f h = within_grow (omega arith) (within_sum (h x (Memᴰ.head refl)) (within_sum_of l f (λ y m. h y (Memᴰ.tail m))))

-- with scores of up to 2 ^ 31, the numerators of the links of 32 entries stay far below what 64 bits hold
pub link_within : (method : Method) (n : ℕ) (s : Similarity) (U W : ℕ) → n ≤ 32 → ((a b : ℕ) → a < n → b < n → Within (2 ^ 31) (s a b)) → Some n U → Some n W
    → Within (2 ^ 42) (link (linkage_of method) n s U W).num
unfolding link linkage_of size
link_within Average n s U W h k _ _ =
    let hu : size n U ≤ 32 = omega (arith, size_le n U) in
    let hw : size n W ≤ 32 = omega (arith, size_le n W) in
    let one : 2 ^ 31 ≤ 2 ^ 31 = lit≤ tt in
    rw sum_between (within_grow (omega (arith, mul-le-mul hu (mul-le-mul hw one)))
    (within_sum_of (members n U) (λ u. sum_of (members n W) (s u))
    (λ u m. within_sum_of (members n W) (s u) (λ w l. k u w (of_members n U m).0 (of_members n W l).0))))
link_within Single n s U W h k (u, hu, ku) (w, hw, kw) =
    let (a, b, ha, hb, _, _, e) = of_between n s U W (greatest_of (between n s U W) (in_between n s U W hu hw ku kw)) in
    rw e (within_grow (lit≤ tt) (k a b ha hb))
