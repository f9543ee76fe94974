use Rattle.accept.specs.Places.{Run}
use Rattle.accept.proofs.read_digits.Given as goal

abbrev pub invariant-loop-size : goal.invariant-loop-size
invariant-loop-size g l = Run l.sheet l.p l.q l.number l.size
