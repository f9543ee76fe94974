use Rattle.accept.specs.Names.{NameRun}
use Rattle.accept.proofs.read_name.Given as goal

abbrev pub invariant-loop-size : goal.invariant-loop-size
invariant-loop-size l = NameRun l.sheet l.p l.packed l.size
