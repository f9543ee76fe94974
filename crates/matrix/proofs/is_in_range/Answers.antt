use mir.Facts.{to_z-of_z}
use Rattle.clusters.specs.PairList.{one_point, point_limit, score_limit, is_in_range}
use Rattle.matrix.proofs.is_in_range.Goals as goal

pub returns : goal.returns
unfolding is_in_range one_point point_limit score_limit
returns c = simp (to_z-of_z c.ranges.v)
