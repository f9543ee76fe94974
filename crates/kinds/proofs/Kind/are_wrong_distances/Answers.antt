use mathlib.Core.Path.{sym, ap, ◌∙◌}
use mathlib.Core.Bool.{not}
use Rattle.integers.proofs.Tests.{and_second, and_first}
use Rattle.kinds.proofs.Read.{distances_tested}
use Rattle.kinds.proofs.Kind.are_wrong_distances.Goals as goal

pub returns-then-eq : goal.returns-then-eq
returns-then-eq c = and_second c.eq.ensures c.if-eq.true (ap not c.are_distances.ensures) ∙ sym (distances_tested _ _ _)

pub returns-else-eq : goal.returns-else-eq
returns-else-eq c = and_first _ c.eq.ensures c.if-eq.false ∙ sym (distances_tested _ _ _)
