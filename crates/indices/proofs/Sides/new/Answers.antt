use Rattle.indices.proofs.Parted.{table_none}
use Rattle.indices.proofs.Sides.new.Goals as goal

pub invariant_of-result : goal.invariant_of-result
invariant_of-result g c = record { tables = (table_none g.row.N, table_none g.row.N) }
