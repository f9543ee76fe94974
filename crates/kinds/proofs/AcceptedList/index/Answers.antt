use mathlib.Core.Path.{sym, subst, ◌∙◌}
use mathlib.Core.Bool.{not}
use mathlib.Core.List.{List}
use Prim.Native.Nat.{ℕ, ◌^◌}
use lib.IntN.{ℤ}
use lib.Dec.{T}
use mir.Syntax.{w64}
use Rattle.integers.specs.Range.{Bounded}
use Rattle.integers.proofs.Held.{passed}
use Rattle.clusters.specs.PairList.{score, score_limit, has_unscored}
use Rattle.clusters.specs.Groups.{index}
use Rattle.clusters.proofs.Untouched.{untouched_index}
use Rattle.matrix.specs.Checks.{Checked}
use Rattle.matrix.proofs.Scores.{range_bounded}
use Rattle.kinds.specs.Kinds.{kind_for, scored_for}
use Rattle.kinds.specs.declared.Kind.{Kind}
use Rattle.kinds.proofs.Listed.{accepted_range, untouched_small, spoken}
use Rattle.kinds.proofs.AcceptedList.index.Goals as goal

-- where every pair is scored
small : {n : ℕ} {l : List ℤ} → Checked n l → T (not (has_unscored l)) → Bounded (2 ^ 22) l
small {l} checked t = range_bounded l (accepted_range checked t)

pub strong_index-requires : goal.strong_index-requires
strong_index-requires c = let s = c.args.self.now in let r = c.requires in (
  spoken s.list.n c.args.set r.fits (kind_for s.kind) r.spoken,
  untouched_small s.accepted.checked c.args.set r.untouched,
)

pub clean_index-requires : goal.clean_index-requires
unfolding kind_for
clean_index-requires c = let s = c.args.self.now in let r = c.requires in (
  spoken s.list.n c.args.set r.fits (kind_for s.kind) r.spoken,
  small s.accepted.checked (subst (λ (k : Kind). T (scored_for (kind_for k) s.list.pairs.now)) c.in-Clean.is s.accepted.scored),
)

pub separation_index-requires : goal.separation_index-requires
unfolding kind_for
separation_index-requires c = let s = c.args.self.now in let r = c.requires in (
  spoken s.list.n c.args.set r.fits (kind_for s.kind) r.spoken,
  small s.accepted.checked (subst (λ (k : Kind). T (scored_for (kind_for k) s.list.pairs.now)) c.in-Splits.is s.accepted.scored),
)

pub returns-in-Strong : goal.returns-in-Strong
unfolding index kind_for
returns-in-Strong c = let s = c.args.self.now in rw c.in-Strong.is
    (passed w64 c.strong_index.type_inv c.strong_index.ensures
    ∙ sym (untouched_index score_limit s.list.n (score s.list.pairs.now) c.args.set c.requires.untouched))

pub returns-in-Clean : goal.returns-in-Clean
unfolding index kind_for
returns-in-Clean c = rw c.in-Clean.is (passed w64 c.clean_index.type_inv c.clean_index.ensures)

pub returns-in-Splits : goal.returns-in-Splits
unfolding index kind_for
returns-in-Splits c = rw c.in-Splits.is (passed w64 c.separation_index.type_inv c.separation_index.ensures)
