-- Every tree has among its blocks each set that repels what lies outside it; for any link.
use mathlib.Core.Path.{◌≡◌, refl, sym, subst}
use mathlib.Core.Logic.{◌≢◌, ◌⊎◌, inl, inr}
use mathlib.Core.List.Memᴰ
use mathlib.Core.List.{List, [], ◌∷◌, ◌++◌}
use Prim.Native.Nat.{ℕ, ◌^◌, ◌<◌}
use native.Mathlib.Omega.{arith}
use lib.IntN.{pos, ◌*ℤ◌}
use lib.Signed.{◌<ℤ◌}
use Rattle.lists.specs.Lists.{◌∈◌}
use Rattle.lists.proofs.Lists.{in_or_none}
use Rattle.integers.proofs.Linear.{zarith}
use Rattle.sets.specs.Sets.{◌∋◌, ◌∌◌, ◌∪◌, Subset, Disjoint}
use Rattle.sets.proofs.Sets.{clash}
use Rattle.clusters.specs.Linkage.{Quotient, ◌≼◌, Greatest, merged, Merges, singles, merged_blocks, blocks}
use Rattle.clusters.proofs.Blocks.{
  Partition,
  Uncrossed,
  cover,
  of_merged,
  partition_merged,
  uncrossed_merged,
  partition_singles,
  uncrossed_singles,
  both_in,
  both_out,
}

-- the quotient p is less than q
infix 50 ◌≺◌
unfoldable pub ◌≺◌ : Quotient → Quotient → Type 0
p ≺ q = (pos q.den *ℤ p.num) <ℤ (pos p.den *ℤ q.num)

pub less_not_most : (p q : Quotient) → p ≺ q → q ≼ p → ⊥
unfolding ◌≺◌ ◌≼◌
less_not_most p q h k = omega zarith

-- A repels: of blocks left that do not cross it, each one inside it, but not all of it, has a greater link to another block than to
-- any block outside
pub record Repels (link : ℕ → ℕ → Quotient) (n A : ℕ) : Type 0 where
  pub low : A < 2 ^ n
  pub inside : (a : ℕ) × (a < n) × (A ∋ a)
  pub outside : (x : ℕ) × (x < n) × (A ∌ x)
  pub away : (bs : List ℕ) → Partition n bs → Uncrossed n A bs → (U Z : ℕ) → U ∈ bs → Z ∈ bs → U ≢ A → Subset n U A → Disjoint n Z A
      → (B : ℕ) × (B ∈ bs) × (U ≢ B) × (link U Z ≺ link U B)

module _ (link : ℕ → ℕ → Quotient) (symm : (P Q : ℕ) → link P Q ≡ link Q P) (n A : ℕ) (r : Repels link n A) where
  -- no greatest link goes from inside A to outside
  no_crossing : (bs : List ℕ) → Partition n bs → Uncrossed n A bs → ((B : ℕ) → B ∈ bs → B ≢ A) → (U Z : ℕ) → Greatest link bs U Z → Subset n U A
      → Disjoint n Z A → ⊥
  no_crossing bs p u absent U Z g iu oz =
      let (B, m, d, h) = r.away bs p u U Z g.left g.right (absent U g.left) iu oz in
      less_not_most (link U Z) (link U B) h (g.most U B g.left m d)

  flipped : {bs : List ℕ} {U W : ℕ} → Greatest link bs U W → Greatest link bs W U
  flipped {bs} {U} {W} g =
      record { left = g.right; right = g.left; apart = λ e. g.apart (sym e); most = λ P Q hp hq ne. subst (λ z. link P Q ≼ z) (symm U W) (g.most P Q hp hq ne) }

  walk : (bs : List ℕ) (ms : List (ℕ × ℕ)) → Partition n bs → Uncrossed n A bs → Merges link bs ms → (A ∈ bs) ⊎ (A ∈ merged_blocks ms)
  unfolding merged_blocks
  walk [] [] p u t = absurd (omega arith)
  walk (B ∷ []) [] p u t = absurd (end (u.side B (Memᴰ.head refl)))
    where
      at : (i : ℕ) → i < n → B ∋ i
      at i k = let c = cover p i k in go (Memᴰ.cases_cons c.1) c.2
        where
          go : {C : ℕ} → (C ≡ B) ⊎ (C ∈ []) → C ∋ i → B ∋ i
          go (inl e) m = rw e at m
          go (inr e) m = absurd (Memᴰ.not-nil e)

      end : Subset n B A ⊎ Disjoint n B A → ⊥
      end (inl i) = let (x, hx, kx) = r.outside in clash (i.all x hx (at x hx)) kx
      end (inr o) = let (a, ha, ka) = r.inside in clash ka (o.all a ha (at a ha))
  walk (B ∷ C ∷ bs) [] p u t = absurd (omega arith)
  walk bs (m ∷ ms) p u t = step m.0 m.1 t.0 (λ q v. walk (merged m.0 m.1 bs) ms q v t.1)
    where
      step : (U W : ℕ) → Greatest link bs U W
          → (Partition n (merged U W bs) → Uncrossed n A (merged U W bs) → (A ∈ merged U W bs) ⊎ (A ∈ merged_blocks ms)) → (A ∈ bs) ⊎ (A ∈ (U ∪ W) ∷ merged_blocks ms)
      step U W g ih = go (in_or_none A bs) (u.side U g.left) (u.side W g.right)
        where
          home : (A ∈ merged U W bs) ⊎ (A ∈ merged_blocks ms) → (A ∈ bs) ⊎ (A ∈ (U ∪ W) ∷ merged_blocks ms)
          home (inr k) = inr (Memᴰ.tail k)
          home (inl k) = at (of_merged U W bs k)
            where
              at : (A ≡ U ∪ W) ⊎ (A ∈ bs) → (A ∈ bs) ⊎ (A ∈ (U ∪ W) ∷ merged_blocks ms)
              at (inl e) = inr (Memᴰ.head e)
              at (inr k) = inl k

          next : Subset n (U ∪ W) A ⊎ Disjoint n (U ∪ W) A → (A ∈ bs) ⊎ (A ∈ (U ∪ W) ∷ merged_blocks ms)
          next sd = home (ih (partition_merged U W bs n p g.left g.right g.apart) (uncrossed_merged U W bs n A u sd))

          go : (A ∈ bs) ⊎ ((B : ℕ) → B ∈ bs → B ≢ A) → Subset n U A ⊎ Disjoint n U A → Subset n W A ⊎ Disjoint n W A
              → (A ∈ bs) ⊎ (A ∈ (U ∪ W) ∷ merged_blocks ms)
          go (inl k) _ _ = inl k
          go (inr f) (inl iu) (inl iw) = next (inl (both_in n A U W iu iw))
          go (inr f) (inr ou) (inr ow) = next (inr (both_out n A U W ou ow))
          go (inr f) (inl iu) (inr ow) = absurd (no_crossing bs p u f U W g iu ow)
          go (inr f) (inr ou) (inl iw) = absurd (no_crossing bs p u f W U (flipped g) iw ou)

  pub repels_in_tree : (ms : List (ℕ × ℕ)) → Merges link (singles n) ms → A ∈ blocks n ms
  unfolding blocks
  repels_in_tree ms t = go (walk (singles n) ms (partition_singles n) (uncrossed_singles n A) t)
    where
      go : (A ∈ singles n) ⊎ (A ∈ merged_blocks ms) → A ∈ (singles n ++ merged_blocks ms)
      go (inl m) = Memᴰ.append_left (merged_blocks ms) m
      go (inr m) = Memᴰ.append_right (singles n) m
