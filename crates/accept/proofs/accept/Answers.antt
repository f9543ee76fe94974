use native.Mathlib.Omega.{arith}
use Rattle.clusters.proofs.PairList.{row_start_le}
use Rattle.accept.proofs.accept.Goals as goal

pub read_rows-requires : goal.read_rows-requires
read_rows-requires c =
    let n = c.in_ok-names.ensures in
    (n, omega (arith, row_start_le _ n.line.few))
