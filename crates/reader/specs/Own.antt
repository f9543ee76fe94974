-- A sheet read into slots of the caller's own: the code's own vocabulary, which nobody need believe.
use Rattle.std.specs.Prelude.{◌≡◌, List, ℕ, ℤ, take}
use Rattle.answers.specs.Answers.{Answer, Answered}
use Rattle.clusters.specs.PairList.{row_start}
use Rattle.interface.specs.Sheet.{entries, pairs}
use Rattle.interface.specs.Refusals.{reader_refusal}

-- the answer, and the pair list in the first slots if it was accepted
pub record SheetRead (s : List ℕ) (r : Answer) (after : List ℤ) : Type 0 where
  pub answered : Answered (reader_refusal s) (entries s) r
  pub first : reader_refusal s ≡ 0 → take (row_start (entries s)) after ≡ pairs s
