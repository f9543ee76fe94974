-- A strong set repels by the single link.
use mathlib.Core.Logic.{◌≢◌}
use mathlib.Core.List.{List}
use Prim.Native.Nat.{ℕ, ◌^◌, ◌<◌}
use lib.IntN.{pos}
use lib.Signed.{◌≤ℤ◌}
use Rattle.lists.specs.Lists.{◌∈◌}
use Rattle.integers.specs.Integers.{greatest}
use Rattle.integers.proofs.Linear.{zarith}
use Rattle.integers.proofs.Least.{greatest_ge, greatest_of}
use Rattle.sets.specs.Sets.{◌∋◌, ◌∌◌, Subset, Disjoint}
use Rattle.sets.proofs.Sets.{clash, left_out}
use Rattle.clusters.specs.PairList.{Similarity}
use Rattle.clusters.specs.Indices.{strong_index}
use Rattle.clusters.specs.Linkage.{between, single, link}
use Rattle.clusters.proofs.Blocks.{Partition, cover}
use Rattle.clusters.proofs.Trees.{◌≺◌, Repels}
use Rattle.clusters.proofs.Links.{in_between, of_between, single_less}
use Rattle.clusters.proofs.Strong.{strong_lt}

pub strong_repels : (n : ℕ) (s : Similarity) (A : ℕ) → A < 2 ^ n → ((a : ℕ) × (a < n) × (A ∋ a)) → ((x : ℕ) × (x < n) × (A ∌ x))
    → pos 1 ≤ℤ strong_index n s A → Repels (link single n s) n A
unfolding link
strong_repels n s A low some out h = record { low = low; inside = some; outside = out; away = λ bs p _ U Z hu hz ne iu oz. away bs p U Z hu hz ne iu oz }
  where
    -- the member of A that U leaves out is in another block; the greatest score to it is more than the greatest one to Z
    away : (bs : List ℕ) → Partition n bs → (U Z : ℕ) → U ∈ bs → Z ∈ bs → U ≢ A → Subset n U A → Disjoint n Z A
        → (B : ℕ) × (B ∈ bs) × (U ≢ B) × (link single n s U Z ≺ link single n s U B)
    away bs p U Z hu hz ne iu oz =
        let (w, hw, kw, ow) = left_out n A U low (p.small U hu) ne iu in
        let (B, mb, kb) = cover p w hw in
        let (u₀, hu₀, ku₀) = p.some U hu in
        let (z₀, hz₀, kz₀) = p.some Z hz in
        let (u, z, lu, lz, ku, kz, e) = of_between n s U Z (greatest_of (between n s U Z) (in_between n s U Z hu₀ hz₀ ku₀ kz₀)) in
        let k₁ = greatest_ge (between n s U B) (in_between n s U B lu hw ku kb) in
        let k₂ = strong_lt n s A h u w z lu hw lz (iu.all u lu ku) kw (oz.all z lz kz) in
        (B, mb, λ q. clash (rw (← q) at kb) ow, single_less (greatest (between n s U Z)) (greatest (between n s U B)) (omega zarith))
