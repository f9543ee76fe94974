use mathlib.Core.Path.{◌≡◌, ap₂, ◌∙◌}
use lib.Dec.{lit<}
use lib.IntN.{◌+ℤ◌, ◌-ℤ◌}
use mir.Facts.{to_z-of_z}
use mir.Syntax.{w64}
use mir.Val.{SFits, to_z, of_z}
use Rattle.integers.specs.Integers.{min_z}
use Rattle.integers.proofs.Held.{passed}
use Rattle.integers.proofs.Operators.{min_is}
use Rattle.integers.proofs.Range.{within_min, within_difference, within_fits}
use Rattle.clusters.specs.Refined.{quartet, doubled_score}
use Rattle.links.specs.Table.{entry}
use Rattle.refined.proofs.Tables.{sum_safe, added}
use Rattle.refined.proofs.Split.doubled_score.Goals.{After-min}
use Rattle.refined.proofs.Split.doubled_score.Goals as goal

-- the smaller of the first two sums
least : (c : After-min) → let x = c.args in
    let d = entry x.self.now.table.now in
    to_z w64 (of_z w64 c.min.result) ≡ min_z (d x.a x.b +ℤ d x.a2 x.b2) (d x.a x.b2 +ℤ d x.a2 x.b)
least c = let d = c.args.self.now.distances in
    let (ha, ha2, hb, hb2) = c.requires in
    passed w64 c.min.type_inv (c.min.ensures.value ∙ min_is _ _ ∙ ap₂ min_z
    (added (passed w64 c.get.type_inv c.get.ensures) (passed w64 c.get-2.type_inv c.get-2.ensures) (sum_safe d ha hb ha2 hb2))
    (added (passed w64 c.get-3.type_inv c.get-3.ensures) (passed w64 c.get-4.type_inv c.get-4.ensures) (sum_safe d ha hb2 ha2 hb)))

-- the third
within : (c : After-min) → let x = c.args in
    let d = entry x.self.now.table.now in
    to_z w64 (of_z w64 (to_z w64 (of_z w64 c.get-5.result) +ℤ to_z w64 (of_z w64 c.get-6.result))) ≡ d x.a x.a2 +ℤ d x.b x.b2
within c = let (ha, ha2, hb, hb2) = c.requires in
    added (passed w64 c.get-5.type_inv c.get-5.ensures) (passed w64 c.get-6.type_inv c.get-6.ensures) (sum_safe c.args.self.now.distances ha ha2 hb hb2)

fits : (c : After-min) → let x = c.args in
    let d = entry x.self.now.table.now in
    SFits w64 (min_z (d x.a x.b +ℤ d x.a2 x.b2) (d x.a x.b2 +ℤ d x.a2 x.b) -ℤ (d x.a x.a2 +ℤ d x.b x.b2))
fits c = let d = c.args.self.now.distances in
    let (ha, ha2, hb, hb2) = c.requires in
    within_fits w64 (lit< tt) (within_difference (within_min (sum_safe d ha hb ha2 hb2) (sum_safe d ha hb2 ha2 hb)) (sum_safe d ha ha2 hb hb2))

pub overflow_sub-result : goal.overflow_sub-result
overflow_sub-result c = let m = (goal.at.overflow_sub-result c).After-min in
    rw (least m, within m) (fits m)

pub returns : goal.returns
unfolding doubled_score quartet
returns c = let m = (goal.at.returns c).After-min in
    rw (least m, within m) (to_z-of_z (fits m))
