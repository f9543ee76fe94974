use native.Mathlib.Omega.{arith}
use Rattle.integers.proofs.Operators.{operators}
use Rattle.indices.proofs.Seen.{seen_greatest}
use Rattle.indices.proofs.Sides.greatest_of.Goals as goal

pub returns : goal.returns
returns g c y h =
    let (inside, outside) = c.args.self.now.tables in
    let e = seen_greatest c.requires.2 (omega arith) c.requires.1 inside outside c.extremes_of.ensures y h in
    grind (arith, operators, e)
