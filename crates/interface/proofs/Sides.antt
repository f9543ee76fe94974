-- A split with two entries or more on each side: what 19 leaves.
use mathlib.Core.Path.{◌≡◌}
use mathlib.Core.Bool.{false, ◌||◌}
use Prim.Native.Nat.{ℕ, ◌+◌, ◌^◌, ◌<◌, ◌≤◌}
use native.Mathlib.Omega.{arith}
use borrow.Author.Tests.{lt-leb, le-ltb, ltb-false, leb-false}
use lib.Dec.{leb, ltb}
use Rattle.lists.proofs.Tests.{or_none, or_second}
use Rattle.sets.specs.Sets.{size, complement}
use Rattle.sets.proofs.Sets.{size_complement}
use Rattle.interface.specs.Refusals.{wrong_side}

-- what 19 leaves: two entries or more on each side, and no other
pub record Sides (n A : ℕ) : Type 0 where
  pub fits : A < 2 ^ n
  pub two : 2 ≤ size n A
  pub rest : size n A + 2 ≤ n

pub sides : {n A : ℕ} → wrong_side n A ≡ false → Sides n A
unfolding wrong_side
sides {n} {A} e =
    let (e₁, high) = or_none (ltb (size n A) 2 || ltb (size n (complement n A)) 2) (leb (2 ^ n) A) e in
    let (one, other) = or_none (ltb (size n A) 2) (ltb (size n (complement n A)) 2) e₁ in
    let few = ltb-false (size n (complement n A)) 2 other in
    record {
      fits = leb-false (2 ^ n) A high;
      two = ltb-false (size n A) 2 one;
      rest = omega (arith, few, size_complement n A);
    }

pub right_side : {n A : ℕ} → Sides n A → wrong_side n A ≡ false
unfolding wrong_side
right_side {n} {A} s =
    or_second (or_second (le-ltb (size n A) 2 s.two) (le-ltb (size n (complement n A)) 2 (omega (arith, s.rest, size_complement n A))))
    (lt-leb (2 ^ n) A s.fits)
