use mathlib.Core.Path.{refl, ap, ◌∙◌}
use mathlib.Core.List.{foldl}
use native.Mathlib.Omega.{arith}
use lib.ListN.{length}
use lib.Seq.{take_all}
use mir.Syntax.{w64}
use Rattle.lists.specs.Lists.{below}
use Rattle.lists.proofs.Lists.{keep_true}
use Rattle.integers.proofs.Running.{foldl_at}
use Rattle.clusters.specs.Refined.{quartet, doubled_score}
use Rattle.links.specs.Table.{entry}
use Rattle.integers.proofs.Held.{passed}
use Rattle.smallest.specs.Smallest.{kept_with}
use Rattle.smallest.proofs.Kept.{kept_start, kept_yes, kept_end}
use Rattle.refined.specs.Kept.{keep_beside}
use Rattle.refined.proofs.Split.keep_beside.Goals as goal

pub loop-b2-init : goal.loop-b2-init
loop-b2-init c = (omega arith, kept_start)

pub loop-b2-preserved : goal.loop-b2-preserved
loop-b2-preserved c = (
  omega arith,
  kept_yes c.loop-b2.invariant.1 refl refl
      (c.keep.ensures ∙ ap (kept_with _) (passed w64 c.doubled_score.type_inv c.doubled_score.ensures)),
)

pub returns : goal.returns
unfolding keep_beside
returns c =
    let a = c.args in
    kept_end c.loop-b2.invariant.1 (omega arith) ∙ ap (foldl _ _) (keep_true (below (length a.before.now)))
    ∙ foldl_at (λ l b'. kept_with l (doubled_score (entry a.self.now.table.now) (quartet (a.a, a.a2) (a.b, b')))) a.before.now a.kept.now (length a.before.now) (omega arith)
    ∙ ap (foldl _ _) (take_all (length a.before.now) a.before.now (omega arith))
