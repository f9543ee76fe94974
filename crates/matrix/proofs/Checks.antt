-- What a table that gives 0 leaves of the pair list, by the numbers of its checks.
use mathlib.Core.Path.{◌≡◌, sym, ◌∙◌}
use mathlib.Core.Bool.{Bool, false, not}
use mathlib.Core.List.{List}
use Prim.Native.Nat.{ℕ, ◌≤◌}
use borrow.Author.Tests.{not-false}
use lib.Dec.{T}
use lib.IntN.{ℤ}
use lib.ListN.{length}
use Rattle.lists.proofs.Tests.{true_T, T_false}
use Rattle.clusters.specs.PairList.{row_start, has_length, scores_in_range}
use Rattle.interface.specs.Refusals.{Check, first_of, wrong_count}
use Rattle.interface.proofs.Refusals.{numbered, under, passes, some_count, right_count, right_length}
use Rattle.matrix.specs.Checks.{Checked}

module _ (n : ℕ) (l : List ℤ) (checks : List Check) (t : T (numbered checks)) (z : first_of checks ≡ 0) where
  off : (k : ℕ) {b : Bool} → under k checks ≡ b → b ≡ false
  off k e = sym e ∙ T_false {b = under k checks} (passes k checks t z)

  pub sized : under 6 checks ≡ wrong_count n → under 10 checks ≡ not (has_length n l) → (n ≤ 32) × (length l ≡ row_start n)
  sized e₆ e₁₀ = (right_count n (off 6 e₆), right_length n l (off 10 e₁₀))

  pub checked : under 6 checks ≡ wrong_count n → under 10 checks ≡ not (has_length n l) → under 11 checks ≡ not (scores_in_range l) → Checked n l
  checked e₆ e₁₀ e₁₁ =
      let (few, long) = sized e₆ e₁₀ in
      record { some = some_count n (off 6 e₆); few = few; long = long; range = true_T (not-false (scores_in_range l) (off 11 e₁₁)) }
