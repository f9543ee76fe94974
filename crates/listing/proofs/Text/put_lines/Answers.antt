use native.Mathlib.Omega.{arith}
use lib.IntN.{pos}
use Rattle.lists.specs.Lists.{each}
use Rattle.lists.proofs.Lists.{get_d_in}
use Rattle.clusters.specs.declared.Group.{Group}
use Rattle.listing.proofs.Lines.{lines_next}
use Rattle.listing.proofs.Puts.{nothing_put, then}
use Rattle.listing.proofs.Text.put_lines.Goals as goal

abbrev none : Group
none = record { set = 0; index = pos 0 }

pub loop-group-init : goal.loop-group-init
unfolding each
loop-group-init c = record { near = omega arith; put = nothing_put c.args.self.now }

pub put_line-requires-clause-natural : goal.put_line-requires-clause-natural
put_line-requires-clause-natural c = c.requires.natural _ (get_d_in c.args.groups.now _ _ (omega arith))

pub loop-group-preserved : goal.loop-group-preserved
loop-group-preserved c = let l = c.loop-group in
    let p = c.put_line.ensures in record {
      near = omega (arith, p.upper_bound, l.invariant.near);
      put = rw (lines_next c.args.groups.now l.group-index none (omega arith)) (then l.invariant.put p.put);
    }
