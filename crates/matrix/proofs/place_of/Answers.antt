use mathlib.Core.Path.{ap, ◌≡◌}
use Prim.Native.Nat.{max}
use native.Mathlib.Omega.{arith}
use Rattle.clusters.specs.PairList.{row_start, place}
use Rattle.clusters.proofs.PairList.{row_start_le}
use Rattle.matrix.proofs.place_of.Goals as goal

pub overflow_add-result : goal.overflow_add-result
overflow_add-result c = omega (arith, row_start_le c.args.b (omega arith))

pub overflow_add-result-else-a-b : goal.overflow_add-result-else-a-b
overflow_add-result-else-a-b c = omega (arith, row_start_le c.args.a (omega arith))

pub returns-then-a-b : goal.returns-then-a-b
unfolding place
returns-then-a-b c = let a = c.args in let e : max a.a a.b ≡ a.b = omega arith in omega (arith, ap row_start e)

pub returns-else-a-b : goal.returns-else-a-b
unfolding place
returns-else-a-b c = let a = c.args in let e : max a.a a.b ≡ a.a = omega arith in omega (arith, ap row_start e)
