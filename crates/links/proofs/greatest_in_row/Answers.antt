use mathlib.Core.Path.{◌≡◌, refl, ap, ◌∙◌}
use Prim.Native.Nat.{◌^◌}
use native.Mathlib.Nat.{mul-le-mul}
use native.Mathlib.Omega.{arith}
use lib.Dec.{lit≤}
use lib.IntN.{pos, ◌*ℤ◌}
use lib.ListN.{get_or}
use mir.Syntax.{w64}
use mir.Val.{of_z, to_z}
use Rattle.integers.specs.Range.{Within}
use Rattle.integers.proofs.Held.{passed}
use Rattle.integers.proofs.Range.{within_grow, within_times}
use Rattle.links.specs.Table.{entry}
use Rattle.links.proofs.Search.{found_within, found_den, found_keep, found_new}
use Rattle.links.proofs.greatest_in_row.Goals.{After-get-num, After-times-right}
use Rattle.links.proofs.greatest_in_row.Goals as goal

-- the link that is next
num : (c : After-get-num) → to_z w64 (of_z w64 c.get-num.result) ≡ entry c.args.t.now c.args.j c.loop-i.i
num c = passed w64 c.get-num.type_inv c.get-num.ensures

small : (c : After-get-num) → Within (2 ^ 47) (to_z w64 (of_z w64 c.get-num.result))
small c = rw (num c) (within_grow (lit≤ tt) (c.requires.1.within c.args.j c.loop-i.i (omega arith) (omega arith) (λ e. omega arith)))

-- both sides of the comparison
left : (c : After-times-right) → to_z w64 (of_z w64 c.times-left.result) ≡ pos c.loop-i.best.den *ℤ entry c.args.t.now c.args.j c.loop-i.i
left c = let p = c.times-left in
    passed w64 p.type_inv (p.ensures ∙ ap (λ z. pos c.loop-i.best.den *ℤ z) (passed w64 c.get-num.type_inv c.get-num.ensures))

right : (c : After-times-right) → let w = c.args.weights.now in
    to_z w64 (of_z w64 c.times-right.result) ≡ pos (get_or w c.loop-i.i 0) *ℤ (pos (get_or w c.args.j 0) *ℤ c.loop-i.best.num)
right c = let p = c.times-right in
    passed w64 p.type_inv (p.ensures ∙ ap (λ z. pos (get_or c.args.weights.now c.loop-i.i 0) *ℤ z) c.loop-i.invariant.2)

pub times-right-requires : goal.times-right-requires
times-right-requires c = (
  omega (arith, c.requires.2 c.loop-i.i (omega arith)),
  rw c.loop-i.invariant.2 (within_times (get_or c.args.weights.now c.args.j 0)
      (c.requires.2 c.args.j (omega arith)).1 (found_within c.loop-i.invariant.1 c.requires.1 (omega arith))),
)

pub loop-i-preserved-then-left-right : goal.loop-i-preserved-then-left-right
loop-i-preserved-then-left-right c = (
  omega arith,
  found_keep c.loop-i.i c.args.j (omega arith) (omega arith) c.loop-i.invariant.1 (left (goal.at.loop-i-preserved-then-left-right c).After-times-right) (right (goal.at.loop-i-preserved-then-left-right c).After-times-right) c.if-left-right.true,
  c.loop-i.invariant.2,
)

pub overflow_mul-den : goal.overflow_mul-den
overflow_mul-den c = record { fits = omega (arith, mul-le-mul (c.requires.2 c.args.j (omega arith)).1 (c.requires.2 c.loop-i.i (omega arith)).1) }

pub times-scaled-requires-in-loop-i : goal.times-scaled-requires-in-loop-i
times-scaled-requires-in-loop-i c = (omega (arith, c.requires.2 c.args.j (omega arith)), small (goal.at.times-scaled-requires-in-loop-i c).After-get-num)

pub loop-i-preserved : goal.loop-i-preserved
loop-i-preserved c = (
  omega arith,
  found_new c.loop-i.i c.args.j (omega arith) (omega arith) c.loop-i.invariant.1 (left (goal.at.loop-i-preserved c).After-times-right) (right (goal.at.loop-i-preserved c).After-times-right)
      (found_den c.loop-i.invariant.1 c.requires.2 (omega arith)).0 c.if-left-right.false (num (goal.at.loop-i-preserved c).After-get-num) refl,
  passed w64 c.times-scaled-in-loop-i.type_inv c.times-scaled-in-loop-i.ensures,
)
