use mathlib.Core.Path.{sym, ◌∙◌}
use Rattle.integers.proofs.Tests.{and_second, and_first}
use Rattle.kinds.proofs.Read.{unscored_tested}
use Rattle.kinds.proofs.Kind.has_wrong_unscored.Goals as goal

pub returns-then-ne : goal.returns-then-ne
returns-then-ne c = and_second c.ne.ensures c.if-ne.true c.has_unscored.ensures ∙ sym (unscored_tested _ _)

pub returns-else-ne : goal.returns-else-ne
returns-else-ne c = and_first _ c.ne.ensures c.if-ne.false ∙ sym (unscored_tested _ _)
