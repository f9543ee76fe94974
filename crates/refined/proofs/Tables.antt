-- A table of distances: sums of its numbers are far from the machine's limits.
use mathlib.Core.Path.{◌≡◌, ap, ap₂, ◌∙◌}
use mathlib.Core.List.{List}
use Prim.Native.Nat.{ℕ, ◌^◌, ◌<◌}
use lib.IntN.{ℤ, ◌+ℤ◌}
use mir.Facts.{to_z-of_z}
use mir.Syntax.{w64}
use mir.Val.{to_z, of_z}
use lib.Dec.{lit<}
use Rattle.integers.specs.Range.{Within}
use Rattle.integers.proofs.Range.{within_sum, within_fits}
use Rattle.links.specs.Table.{entry}
use Rattle.refined.specs.Kept.{DistanceTable}

module _ {n : ℕ} {t : List ℤ} (d : DistanceTable n t) where
  pub sum_safe : {a b x y : ℕ} → a < n → b < n → x < n → y < n → Within (2 ^ 23) (entry t a b +ℤ entry t x y)
  sum_safe {a} {b} {x} {y} h k i j = within_sum (d.small a b h k) (d.small x y i j)

-- a sum of two numbers, as the code makes it
pub added : {x y u v : ℤ} → x ≡ u → y ≡ v → Within (2 ^ 23) (u +ℤ v) → to_z w64 (of_z w64 (x +ℤ y)) ≡ u +ℤ v
added e f h = ap (λ z. to_z w64 (of_z w64 z)) (ap₂ ◌+ℤ◌ e f) ∙ to_z-of_z (within_fits w64 (lit< tt) h)
