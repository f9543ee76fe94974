-- The sets that no unscored pair touches (document 02, 2.2), which are the only ones listed: for theorems and for the
-- code; nobody need believe them.
use Rattle.std.specs.Prelude.{Bool, not, ℕ}
use Rattle.lists.specs.Lists.{below, all}
use Rattle.sets.specs.Sets.{members, mask}
use Rattle.pairs.specs.Pairs.{carried, is_scored}
use Rattle.clusters.specs.PairList.{Similarity}

-- every pair of the entry a is scored, its own pair too
unfoldable pub row_scored : ℕ → Similarity → ℕ → Bool
row_scored n s a = all (λ b. is_scored (carried (s a b))) (below n)

-- each pair with an end in A is scored
unfoldable pub untouched : ℕ → Similarity → ℕ → Bool
untouched n s A = all (row_scored n s) (members n A)

-- the entries that an unscored pair touches
unfoldable pub touched_entries : ℕ → Similarity → ℕ
touched_entries n s = mask n (λ a. not (row_scored n s a))
