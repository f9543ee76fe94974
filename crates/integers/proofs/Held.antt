-- A signed number in a local of the machine. The local holds bits: those of z, which fits the width. So an invariant says
-- `Held w64 best z` of a local `best: i64`.
use mathlib.Core.Path.{◌≡◌, ap, subst, ◌∙◌}
use Prim.Native.Nat.{ℕ, ◌<◌, ◌^◌}
use lib.IntN.{ℤ}
use lib.Signed.{mag}
use mir.Syntax.{Width}
use mir.Val.{SFits, of_z, to_z, hbits}
use mir.Facts.{to_z-of_z}

pub record Held (w : Width) (b : ℕ) (z : ℤ) : Type 0 where
  pub bits : b ≡ of_z w z
  pub fits : SFits w z

-- what the code reads from the local
pub held_value : {w : Width} {b : ℕ} {z : ℤ} → Held w b z → to_z w b ≡ z
held_value {w} h = ap (to_z w) h.bits ∙ to_z-of_z h.fits

-- the local holds the result r of a call, by the call's `.ok` and what it ensures of r
pub held_result : {w : Width} {b : ℕ} {r z : ℤ} → b ≡ of_z w r → mag r < 2 ^ hbits w → r ≡ z → Held w b z
held_result {w} e h p = record { bits = e ∙ ap (of_z w) p; fits = subst (SFits w) p (record { sfits = h }) }

-- the result r of a call, read as an argument of the next
pub passed : (w : Width) {r z : ℤ} → mag r < 2 ^ hbits w → r ≡ z → to_z w (of_z w r) ≡ z
passed w h p = to_z-of_z {w = w} (record { sfits = h }) ∙ p

-- the same bits, of an equal number
pub held_equal : {w : Width} {b b' : ℕ} {z z' : ℤ} → Held w b z → b' ≡ b → z ≡ z' → Held w b' z'
held_equal {w} h e p = record { bits = e ∙ h.bits ∙ ap (of_z w) p; fits = subst (SFits w) p h.fits }
