-- What the answer of the call for the refined weight of a split says (document 02, 2.5).
use Rattle.std.specs.Prelude.{Result, Ok, Err, ℤ, pos}
use Rattle.answers.specs.declared.Refusal.{Refusal}

abbrev pub Refined : Type 0
Refined = Result ℤ Refusal

-- the weight: "Refused, the weight is 0."
unfoldable pub answered_weight : Refined → ℤ
answered_weight (Ok weight) = weight
answered_weight (Err refusal) = pos 0
