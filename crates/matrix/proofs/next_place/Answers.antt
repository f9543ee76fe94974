use native.Mathlib.Omega.{arith}
use Rattle.matrix.proofs.Places.{next_row, next_column, place_few}
use Rattle.matrix.proofs.next_place.Goals as goal

pub overflow_add-result : goal.overflow_add-result
overflow_add-result c = omega (arith, place_few c.requires.1 c.requires.2)

pub overflow_add-result-else-b-a : goal.overflow_add-result-else-b-a
overflow_add-result-else-b-a c = omega (arith, place_few c.requires.1 c.requires.2)

pub overflow_add-result-else-b-a-2 : goal.overflow_add-result-else-b-a-2
overflow_add-result-else-b-a-2 c = omega (arith, place_few c.requires.1 c.requires.2)

pub returns-then-b-a : goal.returns-then-b-a
returns-then-b-a c = let g = c.before in omega (arith, next_row g.args.a g.args.b (omega arith))

pub returns-else-b-a : goal.returns-else-b-a
returns-else-b-a c = let g = c.before in omega (arith, next_column g.args.a g.args.b (omega arith))
