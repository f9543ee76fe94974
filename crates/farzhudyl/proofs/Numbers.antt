-- What the sheet call can answer: a listing's length is at most 1,503.
use mathlib.Core.Path.{◌≡◌, sym}
use mathlib.Core.List.{List}
use Prim.Native.Nat.{ℕ, ◌≤◌}
use native.Mathlib.Omega.{arith}
use lib.IntN.{ℤ}
use lib.ListN.{length}
use Rattle.lists.specs.Lists.{all}
use Rattle.lists.proofs.Tests.{T_false}
use Rattle.interface.specs.Refusals.{wrong_count, reader_checks, sheet_checks, sheet_call_checks, sheet_refusal}
use Rattle.interface.proofs.Refusals.{under, passes, right_count}
use Rattle.interface.proofs.Accepted.{sheet_passed}
use Rattle.interface.proofs.Room.{listing_room}
use Rattle.std.specs.Prelude.{Ok, Err}
use Rattle.answers.specs.Answers.{Answer, count_of, Answered}
use Rattle.answers.proofs.Answers.{found_count}
use Rattle.interface.specs.Sheet.{entries}
use Rattle.interface.specs.Listing.{sheet_listing}

-- the count is 0 on refusal
pub count_most : {k c most : ℕ} {r : Answer} → Answered k c r → (k ≡ 0 → c ≤ most) → count_of r ≤ most
unfolding count_of
count_most {r = Ok n} a h = let z = sym a.number in omega (arith, found_count a z, h z)
count_most {r = Err e} a h = omega arith

module _ (kind : ℤ) (s : List ℕ) (room : ℕ) where
  -- a sheet that is not refused passes checks 6, 11 and 16
  length_le : sheet_refusal kind s room ≡ 0 → length (sheet_listing kind s) ≤ 1503
  unfolding sheet_refusal sheet_call_checks sheet_checks reader_checks sheet_listing under all
  length_le e =
      let six = T_false {b = wrong_count (entries s)} (passes 6 (sheet_call_checks kind s room) tt e) in
      listing_room (right_count (entries s) six) (sheet_passed kind s room e)

  pub count_le : {r : Answer} → Answered (sheet_refusal kind s room) (length (sheet_listing kind s)) r → count_of r ≤ 1503
  count_le a = count_most a length_le
