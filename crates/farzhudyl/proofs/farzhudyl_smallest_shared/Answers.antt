use borrow.Author.Rules.{rules}
use mir.Syntax.{w32, w64}
use mir.Facts.{to_z-of_z, to_z_pos}
use Rattle.integers.proofs.Held.{passed}
use Rattle.farzhudyl.proofs.InC.{shared_small, shared_put, shared_refused}
use Rattle.farzhudyl.proofs.farzhudyl_smallest_shared.Goals as goal

pub overflow_cast-result : goal.overflow_cast-result
overflow_cast-result c = let h = shared_small _ _ _ _ _ c.in-Ok.ensures in search rules

pub returns-in-Ok : goal.returns-in-Ok
returns-in-Ok c = shared_put _ _ _ _ _ (rw (to_z-of_z {w = w32} c.ranges.kind) at c.in-Ok.ensures) (to_z_pos w64 (shared_small _ _ _ _ _ c.in-Ok.ensures))

pub returns-in-Err : goal.returns-in-Err
returns-in-Err c =
    shared_refused _ _ _ _ _ (rw (to_z-of_z {w = w32} c.ranges.kind) at c.in-Err.ensures) (passed w64 c.minus_number.type_inv c.minus_number.ensures)
