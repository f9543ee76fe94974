-- The code's own vocabulary, which nobody need believe: the blocks of a linkage as the code holds them.
use Rattle.std.specs.Prelude.{List, ℕ, ◌-◌, length, get_or, take, set}
use Rattle.sets.specs.Sets.{◌∪◌}
use Rattle.clusters.specs.Linkage.{Linkage, single, average}
use Rattle.links.specs.declared.Method.{Method}
use Rattle.links.specs.declared.Method.TheVariants.{Single, Average}
use Rattle.linkage.specs.declared.Blocks.{Blocks}

abbrev pub blocks_of : Blocks → List ℕ
blocks_of b = take b.count b.sets

-- "Merging two blocks yields the blocks that remain": their union stands at the first's place, the last block at the
-- second's
unfoldable pub merged_at : ℕ → ℕ → List ℕ → List ℕ
merged_at i j bs = take (length bs - 1) (set (set bs i (get_or bs i 0 ∪ get_or bs j 0)) j (get_or bs (length bs - 1) 0))

-- the linkage that the code's method stands for
unfoldable pub linkage_of : Method → Linkage
linkage_of Single = single
linkage_of Average = average
