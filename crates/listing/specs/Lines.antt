-- A line as the code puts it, with its line feed: the writer's own vocabulary, which nobody need believe.
use Rattle.std.specs.Prelude.{List, [], ◌∷◌, ◌++◌, ℕ}
use Rattle.clusters.specs.declared.Group.{Group}
use Rattle.interface.specs.Sheet.{line_feed}
use Rattle.interface.specs.Listing.{line_of, line_text}

unfoldable pub line : ℕ → Group → List ℕ
line n g = line_text (line_of n g) ++ (line_feed ∷ [])
