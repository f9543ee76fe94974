-- The code's own vocabulary, which nobody need believe: what 11 and 12 ask of one distance.
use Rattle.std.specs.Prelude.{Bool, ◌&&◌, ℤ, pos}
use Rattle.std.specs.Int.Signed.{le_z}
use Rattle.clusters.specs.PairList.{score_limit, is_in_range}

unfoldable pub is_distance : ℤ → Bool
is_distance v = le_z (pos 0) v && is_in_range score_limit v
