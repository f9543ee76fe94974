use mathlib.Core.Path.{sym}
use native.Mathlib.Omega.{arith}
use Rattle.sets.proofs.Sets.{size_le}
use Rattle.refined.proofs.Sides.{wrong_member, by_size}
use Rattle.refined.proofs.is_wrong_side.Goals as goal

pub returns-then-all_entries-side : goal.returns-then-all_entries-side
returns-then-all_entries-side c = sym (wrong_member c.args.n c.args.side (omega (arith, c.all_entries.ensures)))

pub overflow_add-result : goal.overflow_add-result
overflow_add-result c = record { fits = omega (arith, c.size-members.ensures, size_le 32 c.args.side) }

pub returns : goal.returns
returns c = by_size c.args.n c.args.side (omega arith) (omega (arith, c.all_entries.ensures)) c.size-members.ensures
