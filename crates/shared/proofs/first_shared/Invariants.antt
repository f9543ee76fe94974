use Rattle.shared.proofs.Answers.{Passed}
use Rattle.shared.proofs.first_shared.Given as goal

abbrev pub invariant-loop-i : goal.invariant-loop-i
invariant-loop-i l = Passed l.n l.a l.b l.groups l.i
