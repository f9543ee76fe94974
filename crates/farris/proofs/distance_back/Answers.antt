use mathlib.Core.Path.{sym}
use Rattle.clusters.specs.Farris.{unfarris}
use Rattle.farris.proofs.Bounds.{back_value}
use Rattle.farris.proofs.distance_back.Goals as goal

pub returns : goal.returns
unfolding unfarris
returns c = let u = c.score.ensures in let v = c.score-2.ensures in let w = c.score-between.ensures in
    rw (sym u.value, sym v.value, sym w.value) (back_value u.narrow v.narrow w.narrow)
