use mathlib.Core.Path.{refl, ◌∙◌}
use native.Mathlib.Omega.{arith}
use Rattle.clusters.proofs.Rows.{rows_none, rows_row, rows_all}
use Rattle.farris.proofs.fill.Goals as goal

pub loop-a-init : goal.loop-a-init
loop-a-init g c = (omega arith, refl, λ S h. rows_none)

pub loop-a-preserved : goal.loop-a-preserved
loop-a-preserved g c = let v = c.loop-a.invariant in let r = c.fill_row in
    (omega arith, r.auto.out ∙ v.1, λ S h. rows_row (v.2 S h) (r.ensures S h))

pub returns : goal.returns
returns g c S h = rows_all c.args.n (c.loop-a.invariant.2 S h) (omega arith) c.requires.room.1
