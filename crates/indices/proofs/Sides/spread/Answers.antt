use native.Mathlib.Omega.{arith}
use Rattle.integers.proofs.Operators.{operators}
use Rattle.indices.proofs.Seen.{seen_spread}
use Rattle.indices.proofs.Sides.spread.Goals as goal

pub returns : goal.returns
returns g c =
    let (inside, outside) = c.args.self.now.tables in
    let e = seen_spread c.requires.2 (omega arith) c.requires.1 inside outside c.extremes_of-seen.ensures in
    grind (arith, operators, e, c.from.ensures, c.from-2.ensures)
