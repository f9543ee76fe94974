-- What the anchored and the way-back call may rely on once no check refuses them.
use mathlib.Core.Path.{◌≡◌, refl, sym}
use mathlib.Core.Bool.{◌||◌}
use mathlib.Core.List.{List}
use Prim.Native.Nat.{ℕ, ◌≤◌, ◌<◌}
use borrow.Author.Tests.{not-false}
use lib.Dec.{T}
use lib.IntN.{ℤ}
use lib.ListN.{length}
use Rattle.lists.proofs.Tests.{true_T, or_none, T_false}
use Rattle.lists.specs.Lists.{all}
use Rattle.clusters.specs.PairList.{row_start, in_range}
use Rattle.clusters.specs.Farris.{distances_back, is_anchored}
use Rattle.interface.specs.Refusals.{wrong_anchor, short_slice, not_anchored, anchored_refusal, back_checks, back_refusal}
use Rattle.interface.proofs.Refusals.{under, passes, right_count}
use Rattle.interface.proofs.Anchored.{in_place, anchored_passes}
use Rattle.matrix.proofs.Checks.{sized}
use Rattle.farris.proofs.Distances.{anchored_ranged}

pub anchor_passes : (n x : ℕ) (l : List ℤ) (room : ℕ) → 0 ≡ anchored_refusal n x l room
    → (n ≤ 32) × (length l ≡ row_start n) × (x < n) × T (in_range l) × (row_start n ≤ room)
anchor_passes n x l room e = let p = anchored_passes n x l room (sym e) in (right_count n p.count, p.long, p.anchor, p.range, p.room)

pub back_passes : (n x : ℕ) (l : List ℤ) (room : ℕ) → 0 ≡ back_refusal n x l room
    → (n ≤ 32) × (length l ≡ row_start n) × T (in_range (distances_back n l)) × (row_start n ≤ room)
unfolding back_refusal back_checks not_anchored under all
back_passes n x l room z =
    let e = sym z in
    let checks = back_checks n x l room in
    let (few, long) = sized n l checks tt e refl refl in
    let c₁₅ = T_false {b = wrong_anchor n x || short_slice room (row_start n) || not_anchored n x l} (passes 15 checks tt e) in
    let (c, t) = or_none (wrong_anchor n x || short_slice room (row_start n)) (not_anchored n x l) c₁₅ in
    (few, long, anchored_ranged n x l (true_T (not-false (is_anchored n x l) t)), (in_place n x room c).1)
