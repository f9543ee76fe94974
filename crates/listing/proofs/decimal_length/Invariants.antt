use mathlib.Core.Path.{◌≡◌}
use Prim.Native.Nat.{◌^◌, ◌≤◌}
use lib.ListN.{length}
use Rattle.interface.specs.Listing.{decimal}
use Rattle.listing.proofs.decimal_length.Given as goal

abbrev pub invariant-loop-k : goal.invariant-loop-k
invariant-loop-k l = (l.top ≡ 10 ^ l.k) × (l.k ≤ length (decimal l.n))
