-- What the writer asks of the groups that it is lent: its own vocabulary, which nobody need believe.
use Rattle.std.specs.Prelude.{List, pos, ◌≤ℤ◌}
use Rattle.lists.specs.Lists.{◌∈◌}
use Rattle.clusters.specs.declared.Group.{Group}

-- no negative index ("A group or split is listed if its index is 1 or more")
abbrev pub Natural : List Group → Type 0
Natural groups = (g : Group) → g ∈ groups → pos 0 ≤ℤ g.index
