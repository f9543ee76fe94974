-- What the answer of the call for the smallest group that two entries share says (document 02, 2.1).
use Rattle.std.specs.Prelude.{Result, Ok, Err, ℕ}
use Rattle.clusters.specs.declared.Hit.{Hit}
use Rattle.answers.specs.declared.Refusal.{Refusal}

abbrev pub Shared : Type 0
Shared = Result Hit Refusal

-- the set, and its line: "A refusal answers set 0, line 0."
unfoldable pub shared_set : Shared → ℕ
shared_set (Ok found) = found.set
shared_set (Err refusal) = 0

unfoldable pub shared_line : Shared → ℕ
shared_line (Ok found) = found.line
shared_line (Err refusal) = 0
