use Rattle.trees.proofs.Merging.{blocks_written}
use Rattle.trees.proofs.put_blocks.Goals as goal

pub returns : goal.returns
returns c = blocks_written _ _ _ c.put_singles.ensures c.merge.ensures
