-- Laws of the links: symmetric in the two blocks, and compared by a total order.
use mathlib.Core.Path.{◌≡◌, sym, ap, ap₂, ◌∙◌}
use mathlib.Core.Logic.{◌⊎◌}
use mathlib.Core.List.Memᴰ
use mathlib.Core.List.{map}
use Prim.Native.Nat.{ℕ, zero, suc, ◌*◌, ◌≤◌, ◌<◌}
use native.Mathlib.Nat.{mul_comm}
use native.Mathlib.Omega.{arith}
use lib.IntN.{ℤ, pos, ◌*ℤ◌}
use lib.Signed.{◌<ℤ◌}
use Rattle.lists.specs.Lists.{◌∈◌}
use Rattle.lists.proofs.Lists.{in_each, of_each, in_map, of_map}
use Rattle.integers.specs.Integers.{sum_of, sum}
use Rattle.integers.proofs.Linear.{zarith, up, dn, *at, le_or_le, quotient_trans}
use Rattle.integers.proofs.Least.{greatest_same}
use Rattle.integers.proofs.Sums.{sum_cong, sum_swap, sum_each, sum_map}
use Rattle.sets.specs.Sets.{◌∋◌, members, size}
use Rattle.sets.proofs.Sets.{in_members, of_members}
use Rattle.clusters.specs.PairList.{Similarity, Symmetric}
use Rattle.clusters.specs.Linkage.{Quotient, ◌≼◌, between, Linkage, single, average, link}
use Rattle.clusters.proofs.Trees.{◌≺◌}

-- what is between two blocks
module _ (n : ℕ) (s : Similarity) (U W : ℕ) where
  pub in_between : {u w : ℕ} → u < n → w < n → U ∋ u → W ∋ w → s u w ∈ between n s U W
  unfolding between
  in_between {u} {w} hu hw ku kw = in_each (λ u. map (s u) (members n W)) (in_members n U hu ku) (in_map (s u) (in_members n W hw kw))

  pub of_between : {z : ℤ} → z ∈ between n s U W → (u w : ℕ) × (u < n) × (w < n) × (U ∋ u) × (W ∋ w) × (z ≡ s u w)
  unfolding between
  of_between m =
      let (u, mu, k) = of_each (members n U) (λ u. map (s u) (members n W)) m in
      let (w, mw, e) = of_map (s u) (members n W) k in
      let (hu, ku) = of_members n U mu in
      let (hw, kw) = of_members n W mw in
      (u, w, hu, hw, ku, kw, e)

  pub sum_between : sum (between n s U W) ≡ sum_of (members n U) (λ u. sum_of (members n W) (s u))
  unfolding between sum
  sum_between =
      sum_each (members n U) (λ u. map (s u) (members n W)) (λ x. x)
      ∙ sum_cong (members n U) (λ u. sum_of (map (s u) (members n W)) (λ x. x)) (λ u. sum_of (members n W) (s u)) (λ u _. sum_map (s u) (members n W) (λ x. x))

module _ (n : ℕ) (s : Similarity) (symm : Symmetric s) where
  between_flip : (U W : ℕ) (z : ℤ) → z ∈ between n s U W → z ∈ between n s W U
  between_flip U W z m = let (u, w, hu, hw, ku, kw, e) = of_between n s U W m in Memᴰ.cast (e ∙ symm u w) (in_between n s W U hw hu kw ku)

  pub link_symm : (linkage : Linkage) (U W : ℕ) → link linkage n s U W ≡ link linkage n s W U
  unfolding link
  link_symm single U W = ap (λ z. record { num = z; den = 1 }) (greatest_same (between n s U W) (between n s W U) (between_flip U W) (between_flip W U))
  link_symm average U W = ap₂ (λ z k. record { num = z; den = k }) sums (mul_comm (size n U) (size n W))
    where
      sums : sum (between n s U W) ≡ sum (between n s W U)
      sums = sum_between n s U W ∙ sum_swap (members n U) (members n W) s
          ∙ sum_cong (members n W) _ _ (λ w _. sum_cong (members n U) _ _ (λ u _. symm u w)) ∙ sym (sum_between n s W U)

-- of two quotients one is at most the other, and the order is transitive where the middle one's denominator is not 0
pub quotient_total : (p q : Quotient) → (p ≼ q) ⊎ (q ≼ p)
unfolding ◌≼◌
quotient_total p q = le_or_le (pos q.den *ℤ p.num) (pos p.den *ℤ q.num)

pub ≼_trans : (p q r : Quotient) → 0 < q.den → p ≼ q → q ≼ r → p ≼ r
unfolding ◌≼◌
≼_trans p q r l h k = quotient_trans p.num q.num r.num p.den q.den r.den l h k

-- the denominator of the link of two blocks that are not empty
pub link_den : (linkage : Linkage) (n : ℕ) (s : Similarity) (U W : ℕ) → 1 ≤ size n U → 1 ≤ size n W → 0 < (link linkage n s U W).den
unfolding link
link_den single n s U W h k = omega arith
link_den average n s U W h k = product (size n U) (size n W) h k
  where
    product : (a b : ℕ) → 1 ≤ a → 1 ≤ b → 0 < a * b
    product zero b h k = absurd (omega arith)
    product (suc a) zero h k = absurd (omega arith)
    product (suc a) (suc b) h k = omega arith

-- links with the denominator 1 are compared by their numerators
pub single_less : (a b : ℤ) → a <ℤ b → record { num = a; den = 1 } ≺ record { num = b; den = 1 }
unfolding ◌≺◌ up dn
single_less a b h = omega (zarith, *at (pos 1) a, *at (pos 1) b)
