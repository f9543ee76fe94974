use mathlib.Core.Path.{sym, ap, ◌∙◌}
use mathlib.Core.Bool.{not}
use Prim.Native.Nat.{ℕ}
use native.Mathlib.Omega.{arith}
use Rattle.lists.proofs.Tests.{true_T}
use Rattle.clusters.specs.PairList.{score}
use Rattle.clusters.specs.Touched.{touched_entries}
use Rattle.clusters.proofs.Scored.{list_scored}
use Rattle.sets.specs.Sets.{◌∪◌}
use Rattle.matrix.proofs.Touched.{join_started, join_less, join_more, join_ended, none_touched}
use Rattle.matrix.proofs.PairList.touched_entries.Goals.{then-not-is_row_scored, else-not-is_row_scored}
use Rattle.matrix.proofs.PairList.touched_entries.Goals as goal

pub returns-then-not-has_unscored : goal.returns-then-not-has_unscored
returns-then-not-has_unscored c = let s = c.before.before in
    none_touched s.args.self.now.n (score s.args.self.now.pairs.now)
    (list_scored s.args.self.now.n s.args.self.now.pairs.now s.args.self.now.fits.long (true_T (ap not (sym c.has_unscored.ensures) ∙ (ap not c.if-not-has_unscored.true))))

pub loop-a-init : goal.loop-a-init
loop-a-init c = (omega arith, join_started)

pub loop-a-preserved : goal.loop-a-preserved
loop-a-preserved c =
    let l = c.loop-a in
    let e = sym c.is_row_scored.ensures in
    elim c.if-not-is_row_scored.branch [
      | then-not-is_row_scored w ↦ (
        omega arith,
        join_more l.invariant.1 (omega arith) (ap not (e ∙ w.if-not-is_row_scored.true))
            (w.touched-is ∙ w.union-touched.ensures ∙ ap (λ (B : ℕ). l.touched ∪ B) w.single.ensures),
      )
      | else-not-is_row_scored w ↦ (omega arith, rw (w.touched-is) (join_less l.invariant.1 (ap not (e ∙ w.if-not-is_row_scored.false))))
    ]

pub returns : goal.returns
unfolding touched_entries
returns c = join_ended c.loop-a.invariant.1 (omega arith)
