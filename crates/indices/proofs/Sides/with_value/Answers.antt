use native.Mathlib.Omega.{arith}
use Rattle.integers.proofs.Operators.{operators}
use Rattle.indices.proofs.Seen.{less_fits, less_read}
use Rattle.indices.proofs.Sides.with_value.Goals as goal

pub overflow_sub-value : goal.overflow_sub-value
overflow_sub-value g c = less_fits c.requires.0 (c.args.self.now.tables.0.small c.args.y c.requires.1)

pub overflow_sub-value-2 : goal.overflow_sub-value-2
overflow_sub-value-2 g c = less_fits c.requires.0 (c.args.self.now.tables.1.small c.args.y c.requires.1)

pub returns : goal.returns
returns g c =
    let inner = less_read c.requires.0 (c.args.self.now.tables.0.small c.args.y c.requires.1) in
    let outer = less_read c.requires.0 (c.args.self.now.tables.1.small c.args.y c.requires.1) in (
      grind (arith, operators, inner, c.min.ensures.value),
      grind (arith, operators, outer, c.max.ensures.value),
    )
