use mathlib.Core.List.{map}
use Rattle.interface.specs.Sheet.{cut}
use Rattle.pooling.specs.Pools.{Placed}
use Rattle.pooling.proofs.places_on.Given as goal

abbrev pub invariant-loop-name : goal.invariant-loop-name
invariant-loop-name l = Placed (map (λ w. w.now) l.yielded) (cut 32 l.second) l.places.items
