-- In which order the blocks left stand in a list is all one: the trees are the same.
use mathlib.Core.Path.{◌≡◌, refl, sym, ap, ◌∙◌}
use mathlib.Core.Bool.{cond}
use mathlib.Core.Logic.{◌≢◌}
use mathlib.Core.List.Memᴰ
use mathlib.Core.List.{List, [], ◌∷◌}
use Prim.Native.Nat.{ℕ}
use lib.IntN.{ℤ, pos, ◌+ℤ◌}
use lib.Signed.{◌≤ℤ◌, ◌<ℤ◌}
use lib.Dec.{eqb, eqb→eq, eqb_refl}
use lib.ListN.{length}
use Rattle.lists.specs.Lists.{◌∈◌, erase}
use Rattle.lists.proofs.Tests.{T_true, cond_elim}
use Rattle.integers.specs.Integers.{sum_of}
use Rattle.integers.proofs.Linear.{up, dn, zarith, +at, *at}
use Rattle.integers.proofs.Sums.{sum_const, sum_erase, sum_two, sum_nonneg, some_pos}
use Rattle.sets.specs.Sets.{◌∪◌}
use Rattle.clusters.specs.Linkage.{Quotient, Greatest, merged, Merges}
use Rattle.clusters.proofs.Blocks.{Partition, holds}

-- the same blocks, each as often
pub record SameBlocks (bs cs : List ℕ) : Type 0 where
  pub sums : (f : ℕ → ℤ) → sum_of bs f ≡ sum_of cs f

pub same_refl : (bs : List ℕ) → SameBlocks bs bs
same_refl bs = record { sums = λ f. refl }

pub same_symm : {bs cs : List ℕ} → SameBlocks bs cs → SameBlocks cs bs
same_symm e = record { sums = λ f. sym (e.sums f) }

pub same_trans : {bs cs ds : List ℕ} → SameBlocks bs cs → SameBlocks cs ds → SameBlocks bs ds
same_trans e g = record { sums = λ f. e.sums f ∙ g.sums f }

pub same_length : {bs cs : List ℕ} → SameBlocks bs cs → length bs ≡ length cs
unfolding up dn
same_length {bs} {cs} e =
    omega (zarith, e.sums (λ B. pos 1), sum_const bs (pos 1), sum_const cs (pos 1), *at (pos (length bs)) (pos 1), *at (pos (length cs)) (pos 1))

-- 1 at B, else 0
mark : ℕ → ℕ → ℤ
mark B C = cond (eqb C B) (pos 1) (pos 0)

mark_nonneg : (B C : ℕ) → pos 0 ≤ℤ mark B C
unfolding mark
mark_nonneg B C = cond_elim (eqb C B) (pos 1) (pos 0) (λ z. pos 0 ≤ℤ z) (λ t. record { le = tt }) (λ t. record { le = tt })

mark_pos : (B C : ℕ) → pos 0 <ℤ mark B C → C ≡ B
unfolding mark
mark_pos B C = cond_elim (eqb C B) (pos 1) (pos 0) (λ z. pos 0 <ℤ z → C ≡ B) (λ t h. eqb→eq C B t) (λ t h. absurd h.lt)

pub same_in : {bs cs : List ℕ} → SameBlocks bs cs → {B : ℕ} → B ∈ bs → B ∈ cs
unfolding mark up dn
same_in {bs} {cs} e {B} m =
    let one : mark B B ≡ pos 1 = ap (λ b. cond b (pos 1) (pos 0)) (T_true {b = eqb B B} (eqb_refl B)) in
    let rest = sum_nonneg (erase B bs) (mark B) (λ C _. mark_nonneg B C) in
    let more : pos 0 <ℤ sum_of cs (mark B) = omega (zarith, e.sums (mark B), sum_erase B bs (mark B) m, +at (mark B B) (sum_of (erase B bs) (mark B))) in
    let (C, k, h) = some_pos cs (mark B) more in
    Memᴰ.cast (sym (mark_pos B C h)) k

-- what a merge leaves, by its sums
pub sum_merged : (U W : ℕ) (bs : List ℕ) (f : ℕ → ℤ) → U ∈ bs → W ∈ bs → U ≢ W → sum_of (merged U W bs) f +ℤ (f U +ℤ f W) ≡ f (U ∪ W) +ℤ sum_of bs f
unfolding merged sum_of
sum_merged U W bs f hu hw ne = end (f (U ∪ W)) (f U +ℤ f W) (sum_of (erase U (erase W bs)) f) (sum_of bs f) (sum_two U W bs f hu hw ne)
  where
    end : (j uw r b : ℤ) → b ≡ uw +ℤ r → (j +ℤ r) +ℤ uw ≡ j +ℤ b
    end j uw r b p = omega (zarith, +at uw r, +at j r, +at (j +ℤ r) uw, +at j b)

pub same_merged : {bs cs : List ℕ} → SameBlocks bs cs → (U W : ℕ) → U ∈ bs → W ∈ bs → U ≢ W → SameBlocks (merged U W bs) (merged U W cs)
same_merged {bs} {cs} e U W hu hw ne = record { sums = λ f. end f (sum_merged U W bs f hu hw ne) (sum_merged U W cs f (same_in e hu) (same_in e hw) ne) }
  where
    end : (f : ℕ → ℤ) → sum_of (merged U W bs) f +ℤ (f U +ℤ f W) ≡ f (U ∪ W) +ℤ sum_of bs f
        → sum_of (merged U W cs) f +ℤ (f U +ℤ f W) ≡ f (U ∪ W) +ℤ sum_of cs f → sum_of (merged U W bs) f ≡ sum_of (merged U W cs) f
    end f p q = omega (
      zarith,
      e.sums f,
      p,
      q,
      +at (sum_of (merged U W bs) f) (f U +ℤ f W),
      +at (sum_of (merged U W cs) f) (f U +ℤ f W),
      +at (f (U ∪ W)) (sum_of bs f),
      +at (f (U ∪ W)) (sum_of cs f),
    )

pub same_partition : {n : ℕ} {bs cs : List ℕ} → SameBlocks bs cs → Partition n bs → Partition n cs
same_partition e p = record {
  once = λ i h. sym (e.sums (holds i)) ∙ p.once i h;
  some = λ B m. p.some B (same_in (same_symm e) m);
  small = λ B m. p.small B (same_in (same_symm e) m);
}

pub same_greatest : {link : ℕ → ℕ → Quotient} {bs cs : List ℕ} → SameBlocks bs cs → {U W : ℕ} → Greatest link bs U W → Greatest link cs U W
same_greatest e g = record {
  left = same_in e g.left;
  right = same_in e g.right;
  apart = g.apart;
  most = λ P Q hp hq ne. g.most P Q (same_in (same_symm e) hp) (same_in (same_symm e) hq) ne;
}

pub same_merges : (link : ℕ → ℕ → Quotient) (bs cs : List ℕ) (ms : List (ℕ × ℕ)) → SameBlocks bs cs → Merges link bs ms → Merges link cs ms
same_merges link bs cs [] e t = sym (same_length e) ∙ t
same_merges link bs cs (m ∷ ms) e t =
    let g = t.0 in
    (same_greatest e g, same_merges link (merged m.0 m.1 bs) (merged m.0 m.1 cs) ms (same_merged e m.0 m.1 g.left g.right g.apart) t.1)
