use mathlib.Core.Path.{◌∙◌}
use Rattle.integers.proofs.Tests.{and_second, and_first}
use Rattle.farris.proofs.Distances.{anchored_parts}
use Rattle.farris.proofs.is_anchored.Goals as goal

pub returns-then-are_anchored_entries : goal.returns-then-are_anchored_entries
returns-then-are_anchored_entries c = let a = c.args in
    and_second c.are_anchored_entries.ensures c.if-are_anchored_entries.true c.are_distances_back.ensures
    ∙ anchored_parts a.scores.now.n a.x a.scores.now.pairs.now

pub returns-else-are_anchored_entries : goal.returns-else-are_anchored_entries
returns-else-are_anchored_entries c = let a = c.args in
    and_first _ c.are_anchored_entries.ensures c.if-are_anchored_entries.false ∙ anchored_parts a.scores.now.n a.x a.scores.now.pairs.now
