-- What the checks leave.
use mathlib.Core.Path.{◌≡◌, refl}
use mathlib.Core.List.{List}
use Prim.Native.Nat.{ℕ, ◌+◌, ◌^◌, ◌≤◌}
use lib.IntN.{ℤ}
use lib.ListN.{length}
use Rattle.lists.specs.Lists.{all}
use Rattle.lists.proofs.Tests.{T_false}
use Rattle.integers.specs.Range.{Bounded}
use Rattle.sets.specs.Sets.{size}
use Rattle.clusters.specs.PairList.{row_start}
use Rattle.clusters.proofs.Scored.{scored_in_range}
use Rattle.interface.specs.Refusals.{wrong_side, refined_checks, refined_refusal}
use Rattle.interface.proofs.Refusals.{under, passes}
use Rattle.interface.proofs.Sides.{sides}
use Rattle.matrix.proofs.Checks.{checked}
use Rattle.matrix.proofs.Scores.{range_bounded}

pub weight_pass : (n : ℕ) (l : List ℤ) (A : ℕ) → refined_refusal n l A ≡ 0
    → (n ≤ 32) × (length l ≡ row_start n) × Bounded (2 ^ 22) l × (2 ≤ size n A) × (size n A + 2 ≤ n)
unfolding refined_refusal refined_checks under all
weight_pass n l A e =
    let checks = refined_checks n l A in
    let c = checked n l checks tt e refl refl refl in
    let s = sides {n = n} {A = A} (T_false {b = wrong_side n A} (passes 19 checks tt e)) in
    (c.few, c.long, range_bounded l (scored_in_range l c.range (passes 16 checks tt e)), s.two, s.rest)
