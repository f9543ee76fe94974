use native.Mathlib.Omega.{arith}
use Rattle.indices.proofs.Sides.extremes_of.Goals as goal

pub along_row-requires : goal.along_row-requires
along_row-requires g c = (omega arith, c.requires)

pub down_column-requires : goal.down_column-requires
down_column-requires g c = let (x, fit, small) = c.requires in (omega arith, (x, fit, small, c.along_row.ensures))

pub returns : goal.returns
returns g c = c.down_column.ensures
