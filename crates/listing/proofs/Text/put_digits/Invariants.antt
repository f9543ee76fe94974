use mathlib.Core.Path.{◌≡◌}
use lib.ListN.{length}
use lib.Seq.{sets}
use Rattle.interface.specs.Listing.{digits}
use Rattle.listing.proofs.Text.put_digits.Given as goal

abbrev pub invariant-loop-i : goal.invariant-loop-i
invariant-loop-i l = let before = l.initial.self in record {
  same_reference : l.self.out.ghost_name ≡ before.out.ghost_name;
  place : l.self.at ≡ before.at;
  size : length l.self.out.now ≡ length before.out.now;
  stored : sets l.self.out.now before.at (digits l.base l.i l.rest) ≡ sets before.out.now before.at (digits l.base l.count l.n);
}
