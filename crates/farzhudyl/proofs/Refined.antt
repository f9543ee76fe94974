-- The face in C of the refined weight, which goes to a slot.
use mathlib.Core.Path.{◌≡◌, refl}
use mathlib.Core.List.{List}
use Prim.Native.Nat.{ℕ}
use lib.IntN.{ℤ, pos}
use Rattle.std.specs.Prelude.{Ok, Err}
use Rattle.answers.specs.declared.Refusal.{Refusal}
use Rattle.answers.specs.Answers.{number}
use Rattle.answers.specs.Refined.{answered_weight}
use Rattle.interface.specs.Calls.{RefinedCall, RefinedInC}

module _ (n : ℕ) (l : List ℤ) (A : ℕ) where
  pub weight_put : {w after : ℤ} → RefinedCall n l A (Ok w) → after ≡ w → RefinedInC n l A (pos 0) after
  unfolding answered_weight
  weight_put {w} c e = record { given = Ok w; outcome = c; answered = refl; written = e }

  pub weight_refused : {e : Refusal} {r : ℤ} → RefinedCall n l A (Err e) → r ≡ pos (number e) → RefinedInC n l A r (pos 0)
  unfolding answered_weight
  weight_refused {e} c h = record { given = Err e; outcome = c; answered = h; written = refl }
