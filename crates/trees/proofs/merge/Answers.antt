use mathlib.Core.Path.{subst}
use Rattle.matrix.proofs.Scores.{lent_bounded}
use Rattle.linkage.specs.Blocks.{linkage_of}
use Rattle.linkage.specs.Steps.{Mergeable}
use Rattle.kinds.specs.Kinds.{kind_for, Accepted}
use Rattle.kinds.specs.declared.Kind.{Kind}
use Rattle.trees.proofs.Merging.{merged_strong, merged_clean}
use Rattle.trees.proofs.merge.Goals.{Start}
use Rattle.trees.proofs.merge.Goals as goal

-- what the merges ask
mergeable : (c : Start) → Mergeable c.args.accepted.now.list.n c.args.accepted.now.list.pairs.now c.args.out.now
mergeable c = let p = c.args.accepted.now.accepted.checked in (p.some, p.few, p.long, lent_bounded _ p.range, c.requires)

pub merge_all-requires : goal.merge_all-requires
merge_all-requires c = mergeable (goal.at.merge_all-requires c).Start

pub merge_all-requires-in-Clean : goal.merge_all-requires-in-Clean
merge_all-requires-in-Clean c = mergeable (goal.at.merge_all-requires-in-Clean c).Start

pub merge_anchored-requires : goal.merge_anchored-requires
unfolding kind_for
merge_anchored-requires c = let a = c.args.accepted.now in
    (subst (λ (k : Kind). Accepted (kind_for k) a.list.n a.list.pairs.now) c.in-Splits.is a.accepted, c.requires)

pub returns-in-Strong : goal.returns-in-Strong
unfolding kind_for linkage_of
returns-in-Strong c = rw c.in-Strong.is (merged_strong c.merge_all.ensures)

pub returns-in-Clean : goal.returns-in-Clean
unfolding kind_for linkage_of
returns-in-Clean c = rw c.in-Clean.is (merged_clean c.merge_all-in-Clean.ensures)

pub returns-in-Splits : goal.returns-in-Splits
unfolding kind_for
returns-in-Splits c = rw c.in-Splits.is c.merge_anchored.ensures
