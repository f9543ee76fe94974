use mathlib.Core.Bool.{◌&&◌}
use Prim.Native.Nat.{◌+◌}
use lib.Dec.{eqb, eqb→eq}
use lib.ListN.{get_or}
use Rattle.lists.proofs.Tests.{true_T, and_T}
use Rattle.accept.proofs.is_half.Goals as goal

pub returns : goal.returns
returns c = let a = c.args in
    let s = a.sheet.now in
    λ e.
    let (front, third) = and_T (eqb (get_or s a.at 0) 46 && eqb (get_or s (a.at + 1) 0) 53) (eqb (get_or s (a.at + 2) 0) a.stop) (true_T e) in
    let (first, second) = and_T (eqb (get_or s a.at 0) 46) (eqb (get_or s (a.at + 1) 0) 53) front in
    record { point = eqb→eq _ 46 first; five = eqb→eq _ 53 second; ended = eqb→eq _ a.stop third }
