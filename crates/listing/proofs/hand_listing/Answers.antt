use mathlib.Core.List.{map}
use Rattle.interface.specs.Listing.{line_of, listing}
use Rattle.listing.proofs.Over.{wrote_over}
use Rattle.listing.proofs.hand_listing.Goals as goal

pub returns-then-room-out : goal.returns-then-room-out
returns-then-room-out c = let a = c.args in
    let w = c.write-length in
    wrote_over (listing (map (line_of 32) a.groups.now)) a.out.now w.ensures.value w.ensures.out_after w.auto.out
