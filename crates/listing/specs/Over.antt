-- A text handed over to a buffer that was lent, which check 14 measures: the code's own vocabulary, which nobody need
-- believe.
use Rattle.std.specs.Prelude.{◌≡◌, List, [], ◌∷◌, ℕ, length}
use Rattle.answers.specs.Answers.{Answer, Answered, slots}
use Rattle.interface.specs.Refusals.{first_of, check14}

unfoldable pub over_refusal : (text : List ℕ) → (buffer : ℕ) → ℕ
over_refusal text buffer = first_of (check14 buffer text ∷ [])

pub record HandedOver (text lent : List ℕ) (r : Answer) (after : List ℕ) : Type 0 where
  pub answered : Answered (over_refusal text (length lent)) (length text) r
  pub written : after ≡ slots (over_refusal text (length lent)) text lent
