use Rattle.reader.proofs.Answers.{part_call}
use Rattle.reader.proofs.name.Goals as goal

pub returns : goal.returns
returns c = part_call _ _ _ _ _ c.name_part-part.ensures
