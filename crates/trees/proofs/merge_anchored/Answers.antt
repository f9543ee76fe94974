use mathlib.Core.Path.{sym}
use lib.Seq.{length-take-le}
use Rattle.clusters.proofs.PairList.{row_start_le}
use Rattle.linkage.specs.Blocks.{linkage_of}
use Rattle.kinds.proofs.Listed.{accepted_range}
use Rattle.trees.proofs.Merging.{in_front, front_fits, front_long, front_bounded, merged_splits}
use Rattle.trees.proofs.merge_anchored.Goals as goal

pub anchor-requires : goal.anchor-requires
anchor-requires c = let a = c.requires.0 in let p = a.checked in (p.some, accepted_range p a.scored, row_start_le _ p.few)

pub slice_bounds-anchored-end : goal.slice_bounds-anchored-end
slice_bounds-anchored-end c = front_fits (in_front _ c.pair_count-count.ensures c.anchor.ensures)

pub slice_bounds-merge_all-end : goal.slice_bounds-merge_all-end
slice_bounds-merge_all-end c = sym (length-take-le _ _ (front_fits (in_front _ c.pair_count-count.ensures c.anchor.ensures)))

pub merge_all-requires : goal.merge_all-requires
merge_all-requires c = let f = in_front _ c.pair_count-count.ensures c.anchor.ensures in let p = c.requires.0.checked in
    (p.some, p.few, front_long f, front_bounded f (accepted_range p c.requires.0.scored), c.requires.1)

pub returns : goal.returns
unfolding linkage_of
returns c = merged_splits (in_front _ c.pair_count-count.ensures c.anchor.ensures) c.merge_all.ensures
