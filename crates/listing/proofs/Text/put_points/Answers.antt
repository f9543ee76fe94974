use Prim.Native.Nat.{ℕ, ◌/◌, ◌^◌, ◌≤◌, ◌<◌}
use native.Mathlib.Omega.{arith}
use lib.ListN.{length}
use Rattle.interface.specs.Listing.{decimal}
use Rattle.interface.proofs.Digits.{length_decimal}
use Rattle.listing.proofs.Numbers.{whole_points, half_points}
use Rattle.listing.proofs.Puts.{then}
use Rattle.listing.proofs.Text.put_points.Goals as goal

-- the whole points have at most 19 digits
few : (k : ℕ) → k < 2 ^ 64 → length (decimal (k / 2)) ≤ 19
few k h = omega (arith, length_decimal 18 (k / 2) (omega arith))

pub returns-then-k-ne0 : goal.returns-then-k-ne0
returns-then-k-ne0 c = rw (half_points c.args.k c.if-k-ne0.true) (then c.put_number.ensures c.put_bytes.ensures)

pub returns-else-k-ne0 : goal.returns-else-k-ne0
returns-else-k-ne0 c = rw (whole_points c.args.k c.if-k-ne0.false) c.put_number.ensures

pub put_bytes-requires : goal.put_bytes-requires
put_bytes-requires c = let p = c.put_number.ensures in omega (arith, few c.args.k (omega arith), p.place, p.size)
