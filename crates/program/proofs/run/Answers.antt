use Rattle.std.proofs.Common.{◌≤◌, ℕ, ℤ, List, Ok, length, sym, arith}
use lib.Seq.{length-take-le}
use Rattle.answers.specs.Answers.{count_of}
use Rattle.interface.specs.Calls.{SheetCall}
use Rattle.farzhudyl.proofs.Numbers.{count_le}
use Rattle.program.proofs.run.Goals as goal

-- the buffer holds the listing
few : {kind : ℤ} {sheet lent after : List ℕ} {k : ℕ} → SheetCall kind sheet lent (Ok k) after → k ≤ 1503
unfolding count_of
few {kind} {sheet} {lent} s = count_le kind sheet (length lent) s.answered

pub slice_bounds-output-end : goal.slice_bounds-output-end
slice_bounds-output-end g c = omega (arith, few c.in-Ok.ensures, c.listing.auto.out)

pub slice_bounds-write_all-end : goal.slice_bounds-write_all-end
slice_bounds-write_all-end g c =
    let h : c.in-Ok.length ≤ length c.listing.new.out = omega (arith, few c.in-Ok.ensures, c.listing.auto.out) in
    sym (length-take-le _ _ h)
