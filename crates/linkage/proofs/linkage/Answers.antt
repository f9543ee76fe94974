use mathlib.Core.Path.{◌≡◌, sym, refl}
use mathlib.Core.Bool.{true, false}
use Prim.Native.Nat.{◌-◌}
use borrow.Author.Tests.{lt-ltb, le-ltb}
use lib.ListN.{length}
use Rattle.std.proofs.lemmas.Result.{err_from_is_err_and}
use Rattle.lists.specs.Lists.{all}
use Rattle.interface.specs.Refusals.{short_slice, linkage_checks, scored_checks}
use Rattle.interface.proofs.Refusals.{first_yes, first_no, no_more, under, refused_front, passed_back}
use Rattle.matrix.specs.Checks.{Checked}
use Rattle.matrix.proofs.Scores.{lent_bounded}
use Rattle.matrix.proofs.Checks.{checked}
use Rattle.linkage.proofs.Answered.{refused, accepted}
use Rattle.linkage.proofs.linkage.Goals.{Else-blocks-count, In_ok-check_scored, Then-blocks-count}
use Rattle.linkage.proofs.linkage.Goals as goal

-- what the first checks leave
left : (c : In_ok-check_scored) → Checked c.args.n c.args.pairs.now
unfolding under all
left c = checked _ _ (scored_checks _ _) tt (sym c.in_ok-check_scored.ensures) refl refl refl

-- whether the slots are too few
short : (c : Then-blocks-count) → short_slice (length c.args.blocks.now) (c.args.n - 1) ≡ true
unfolding short_slice
short c = lt-ltb _ _ c.if-blocks-count.true

enough : (c : Else-blocks-count) → short_slice (length c.args.blocks.now) (c.args.n - 1) ≡ false
unfolding short_slice
enough c = le-ltb _ _ c.if-blocks-count.false

pub returns-in_err-check_scored : goal.returns-in_err-check_scored
unfolding linkage_checks all
returns-in_err-check_scored c = let p = err_from_is_err_and c.from_residual.result c.from_residual.ensures.1 in
    rw (p.1, p.2) (refused (record { is = refused_front (scored_checks _ _) _ tt _ c.in_err-check_scored.ensures }))

pub overflow_sub-count : goal.overflow_sub-count
overflow_sub-count c = (left c).some

pub returns-then-blocks-count : goal.returns-then-blocks-count
unfolding linkage_checks all
returns-then-blocks-count c = refused (record { is = passed_back (scored_checks _ _) _ tt c.in_ok-check_scored.ensures (first_yes (short c)) })

pub merge_all-requires : goal.merge_all-requires
merge_all-requires c = let l = left (goal.at.merge_all-requires c).In_ok-check_scored in
    (l.some, l.few, l.long, lent_bounded _ l.range, c.if-blocks-count.false)

pub returns : goal.returns
unfolding linkage_checks all
returns c = accepted (record {
  is = passed_back (scored_checks _ _) _ tt c.in_ok-check_scored.ensures
      (first_no (enough (goal.at.returns c).Else-blocks-count) no_more);
}) c.merge_all.ensures
