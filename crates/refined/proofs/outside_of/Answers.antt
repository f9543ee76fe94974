use mathlib.Core.Path.{◌≡◌, sym, ap, ◌∙◌}
use mathlib.Core.Bool.{not}
use lib.ListN.{length}
use Prim.Native.Nat.{ℕ}
use native.Mathlib.Omega.{arith}
use Rattle.lists.specs.Lists.{below, keep}
use Rattle.sets.specs.Sets.{others}
use Rattle.arrayvec.specs.ArrayVec.{ArrayVec}
use Rattle.refined.proofs.Outside.{listed_next, listed_same}
use Rattle.refined.proofs.outside_of.Goals.{then-not-has, else-not-has}
use Rattle.refined.proofs.outside_of.Goals as goal

pub loop-b-init : goal.loop-b-init
unfolding others below keep
loop-b-init c = (omega arith, omega (arith, ap length c.new-outside.ensures), c.new-outside.ensures)

-- the entries of a vector that is another
items : {v w : ArrayVec ℕ} → v ≡ w → v.items ≡ w.items
items e = ap (λ (v : ArrayVec ℕ). v.items) e

pub loop-b-preserved : goal.loop-b-preserved
loop-b-preserved c =
    let i = c.loop-b.invariant in
    let t = sym (ap not c.has.ensures) in
    elim c.if-not-has.branch [
      | then-not-has w ↦ (
        omega arith,
        omega (arith, ap length (items w.outside-is), w.push.ensures.len),
        listed_next c.args.side c.loop-b.b i.2 (t ∙ ap not w.if-not-has.true) (items w.outside-is ∙ w.push.ensures.items),
      )
      | else-not-has w ↦ (
        omega arith,
        omega (arith, ap length (items w.outside-is)),
        listed_same c.args.side c.loop-b.b i.2 (t ∙ ap not w.if-not-has.false) (items w.outside-is),
      )
    ]
