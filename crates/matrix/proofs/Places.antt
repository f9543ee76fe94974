-- Row starts and places of pairs, as the code computes with them.
use mathlib.Core.Path.{◌≡◌, ap, ◌∙◌}
use mathlib.Core.List.{List}
use Prim.Native.Nat.{ℕ, zero, suc, ◌+◌, ◌-◌, ◌≤◌, ◌<◌}
use native.Mathlib.Numerals.{add-one}
use native.Mathlib.Omega.{arith}
use lib.IntN.{ℤ}
use lib.ListN.{length}
use Rattle.clusters.specs.PairList.{row_start, place}
use Rattle.clusters.proofs.PairList.{row_start_suc, row_start_le, place_row, place_comm, place_lt}
use Rattle.matrix.specs.Rows.{Scores}

-- the row before n ends where row n starts
pub row_start_before : (n : ℕ) → 0 < n → row_start (n - 1) + n ≡ row_start n
row_start_before zero h = absurd (omega arith)
row_start_before (suc n) h = let e : suc n - 1 ≡ n = omega arith in omega (arith, row_start_suc n, ap row_start e)

-- what the lookup of a score asks, in a pair list of n entries
pub score_asks : {n a b : ℕ} (l : List ℤ) → n ≤ 32 → length l ≡ row_start n → a < n → b < n → (a < 32) × (b < 32) × (place a b < length l)
score_asks {n} {a} {b} l m e h k = (omega arith, omega arith, omega (arith, place_lt n a b h k))

pub score_asked : {n : ℕ} {l : List ℤ} → Scores n l → {a b : ℕ} → a < n → b < n → (a < 32) × (b < 32) × (place a b < length l)
score_asked {l = l} s h k = score_asks l s.few s.long h k

-- along the row of a up to the own pair, then down its column
pub place_column : (a b : ℕ) → a ≤ b → place a b ≡ row_start b + a
place_column a b h = place_comm a b ∙ place_row b a h

pub next_row : (a b : ℕ) → b < a → place a b + 1 ≡ place a (b + 1)
next_row a b h = omega (arith, place_row a b (omega arith), place_row a (b + 1) (omega arith))

pub next_column : (a b : ℕ) → a ≤ b → place a b + b + 1 ≡ place a (b + 1)
next_column a b h = omega (arith, place_column a b h, place_column a (b + 1) (omega arith), row_start_suc b, ap row_start (add-one b))

pub place_few : {a b : ℕ} → a < 32 → b < 32 → place a b < 528
place_few {a} {b} h k = omega (arith, place_lt 32 a b h k, row_start_le 32 (omega arith))
