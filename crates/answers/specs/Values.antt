-- What the answer of the value reader says (document 01, The sheet).
use Rattle.std.specs.Prelude.{Result, Ok, Err, ℕ, pos}
use Rattle.pairs.specs.declared.Carried.TheVariants.{Scored}
use Rattle.pairs.specs.declared.Pair.{Pair}
use Rattle.answers.specs.declared.Cursor.{Cursor}
use Rattle.answers.specs.declared.Refusal.{Refusal}

abbrev pub ValueRead : Type 0
ValueRead = Result (Pair × Cursor) Refusal

-- "a value is read with the place after it, or the line is refused": the pair; and the place after it, on refusal a
-- score of 0 and the place 0
unfoldable pub read_pair : ValueRead → Pair
read_pair (Ok (pair, next)) = pair
read_pair (Err refusal) = record { carries = Scored (pos 0) }

unfoldable pub read_place : ValueRead → ℕ
read_place (Ok (pair, next)) = next.at
read_place (Err refusal) = 0
