-- The code's own vocabulary, which nobody need believe: the sets that are looked at, and those that are found among
-- them.
use Rattle.std.specs.Prelude.{Bool, ◌&&◌, List, map, ℕ, eqb}
use Rattle.std.specs.Int.Bits.{bit_and}
use Rattle.lists.specs.Lists.{keep}
use Rattle.clusters.specs.PairList.{Similarity}
use Rattle.clusters.specs.Groups.{Kind, strong, clean, splits, speaks_of, index, listed}
use Rattle.clusters.specs.declared.Group.{Group}

-- a set that may be listed: the kind speaks of it, and a strong group shares no entry with those touched
unfoldable pub is_candidate : Kind → ℕ → (touched : ℕ) → ℕ → Bool
is_candidate strong n touched A = speaks_of strong n A && eqb (bit_and A touched) 0
is_candidate clean n touched A = speaks_of clean n A
is_candidate splits n touched A = speaks_of splits n A

-- the group that a listed set is
abbrev pub group_of : Kind → ℕ → Similarity → ℕ → Group
group_of kind n s A = record { set = A; index = index kind n s A }

-- the listed ones of these sets, each with its index
abbrev pub listed_among : Kind → ℕ → Similarity → List ℕ → List Group
listed_among kind n s sets = map (group_of kind n s) (keep (listed kind n s) sets)
