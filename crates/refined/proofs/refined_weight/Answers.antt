use mathlib.Core.Path.{sym}
use Rattle.refined.proofs.Answers.{weight_pass}
use Rattle.refined.proofs.refined_weight.Goals as goal

pub weight_of-requires : goal.weight_of-requires
weight_of-requires c = weight_pass _ _ _ (sym c.in_ok-check_weight.ensures)
