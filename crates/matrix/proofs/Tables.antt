-- Tables of numbers.
use mathlib.Core.Path.{◌≡◌, ap, ◌∙◌}
use mathlib.Core.List.{List}
use Prim.Native.Nat.{ℕ}
use lib.IntN.{ℤ, pos}
use lib.ListN.{length}
use Rattle.lists.proofs.Written.{get_d_default}
use Rattle.matrix.specs.Rows.{number, Cleared}

pub cleared_at : {t : List ℤ} → Cleared t → (y : ℕ) → number t y ≡ pos 0
cleared_at {t} e y = ap (λ (l : List ℤ). number l y) e ∙ get_d_default (pos 0) (length t) y
