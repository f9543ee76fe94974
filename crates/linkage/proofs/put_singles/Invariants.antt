use Prim.Native.Nat.{◌^◌}
use Rattle.lists.proofs.Written.{Written}
use Rattle.linkage.proofs.put_singles.Given as goal

abbrev pub invariant-loop-i : goal.invariant-loop-i
invariant-loop-i l = Written (λ i'. 2 ^ i') l.initial.slot-items l.slot-items l.i
