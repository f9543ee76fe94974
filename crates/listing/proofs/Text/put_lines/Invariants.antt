use Prim.Native.Nat.{◌+◌, ◌*◌, ◌≤◌}
use lib.ListN.{take}
use Rattle.lists.specs.Lists.{each}
use Rattle.listing.specs.Lines.{line}
use Rattle.listing.specs.Put.{Put}
use Rattle.listing.proofs.Text.put_lines.Given as goal

abbrev pub invariant-loop-group : goal.invariant-loop-group
invariant-loop-group l = record {
  near : l.self.at ≤ l.initial.self.at + 34 * l.group-index;
  put : Put l.initial.self (each (take l.group-index l.groups) (line 32)) l.self;
}
