use native.Mathlib.Omega.{arith}
use Rattle.integers.proofs.Operators.{operators}
use Rattle.indices.proofs.Nearest.least_weight.Goals as goal

pub overflow_sub-result : goal.overflow_sub-result
overflow_sub-result c = let s = c.score.ensures.narrow in grind (arith, operators, s.low, s.top, c.from.ensures)

pub returns : goal.returns
returns c = let s = c.score.ensures.narrow in grind (arith, operators, s.low, s.top, c.score.ensures.value, c.from.ensures, c.max.ensures.value)
