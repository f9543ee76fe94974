use mathlib.Core.Path.{◌≡◌}
use Prim.Native.Nat.{ℕ, ◌≤◌}
use native.Mathlib.Omega.{arith}
use borrow.Author.Rules.{rules}
use mir.Syntax.{w64}
use mir.Val.{of_z, to_z}
use lib.ListN.{length}
use Rattle.sets.specs.Sets.{size}
use Rattle.sets.proofs.Sets.{size_le}
use Rattle.interface.specs.Listing.{decimal}
use Rattle.interface.proofs.Digits.{length_digits, length_decimal}
use Rattle.listing.proofs.Lines.{line_fields, few_points}
use Rattle.listing.proofs.Puts.{then}
use Rattle.listing.proofs.Text.put_line.Goals as goal

pub returns-clause-put : goal.returns-clause-put
returns-clause-put c =
    let e : to_z w64 (of_z w64 c.args.group.index) ≡ c.args.group.index = search rules in
    rw (line_fields c.args.group c.requires.natural c.size.ensures e)
    (then (then (then (then (then c.put_digits.ensures c.put_byte.ensures) c.put_number.ensures) c.put_byte-2.ensures) c.put_points.ensures) c.put_byte-3.ensures)

-- a size has at most two digits
short : (A : ℕ) {s : ℕ} → s ≡ size 32 A → length (decimal s) ≤ 2
short A {s} e = omega (arith, length_decimal 1 s (omega (arith, size_le 32 A)))

pub put_byte-requires : goal.put_byte-requires
put_byte-requires c = omega (arith, length_digits 16 8 c.args.group.set)

pub put_number-requires : goal.put_number-requires
put_number-requires c = omega (arith, length_digits 16 8 c.args.group.set)

pub put_byte-requires-2 : goal.put_byte-requires-2
put_byte-requires-2 c = omega (arith, length_digits 16 8 c.args.group.set, short c.args.group.set c.size.ensures)

pub put_points-requires : goal.put_points-requires
put_points-requires c = omega (arith, length_digits 16 8 c.args.group.set, short c.args.group.set c.size.ensures)

pub put_byte-requires-3 : goal.put_byte-requires-3
put_byte-requires-3 c = omega (arith, length_digits 16 8 c.args.group.set, short c.args.group.set c.size.ensures, few_points c.put_points.ensures (search rules))

pub returns-clause-upper_bound : goal.returns-clause-upper_bound
returns-clause-upper_bound c =
    omega (arith, length_digits 16 8 c.args.group.set, short c.args.group.set c.size.ensures, few_points c.put_points.ensures (search rules))
