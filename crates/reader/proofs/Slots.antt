-- Room for a row of slots.
use Prim.Native.Nat.{ℕ, ◌+◌, ◌≤◌, ◌<◌}
use native.Mathlib.Omega.{arith}
use Rattle.clusters.specs.PairList.{row_start}
use Rattle.clusters.proofs.PairList.{row_start_le, row_lt}

pub row_room : (i : ℕ) → i ≤ 31 → row_start i + i < 528
row_room i h = omega (arith, row_lt 32 i i (omega arith) (omega arith), row_start_le 32 (omega arith))
