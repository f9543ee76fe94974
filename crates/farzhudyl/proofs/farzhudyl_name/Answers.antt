use Rattle.farzhudyl.proofs.InC.{name_told}
use Rattle.farzhudyl.proofs.farzhudyl_name.Goals as goal

pub returns : goal.returns
returns c = name_told _ _ _ _ c.name_part-part.ensures
