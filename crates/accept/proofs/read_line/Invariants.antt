use Prim.Native.Nat.{◌-◌}
use lib.ListN.{length}
use Rattle.accept.proofs.Named.{NamesState}
use Rattle.accept.proofs.read_line.Given as goal

abbrev pub invariant-loop-known : goal.invariant-loop-known
invariant-loop-known l = NamesState l.sheet l.known.items l.at

abbrev pub decreases-loop-known : goal.decreases-loop-known
decreases-loop-known l = length l.sheet - l.at
