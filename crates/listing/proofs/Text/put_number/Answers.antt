use Prim.Native.Nat.{ℕ, ◌^◌, ◌≤◌, ◌<◌}
use native.Mathlib.Omega.{arith}
use lib.ListN.{length}
use Rattle.interface.specs.Listing.{decimal}
use Rattle.interface.proofs.Digits.{decimal_digits, length_decimal}
use Rattle.listing.proofs.Text.put_number.Goals as goal

-- a number has at most 20 digits
few : (n : ℕ) → n < 2 ^ 64 → length (decimal n) ≤ 20
few n h = omega (arith, length_decimal 19 n (omega arith))

pub put_digits-requires : goal.put_digits-requires
put_digits-requires c = (omega arith, omega arith, omega (arith, few c.args.n (omega arith), c.decimal_length.ensures))

pub returns : goal.returns
returns c = rw (decimal_digits c.args.n, ← c.decimal_length.ensures) c.put_digits.ensures
