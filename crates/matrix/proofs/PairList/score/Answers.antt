use Rattle.matrix.proofs.Places.{score_asked}
use Rattle.matrix.proofs.PairList.score.Goals as goal

pub score-requires : goal.score-requires
score-requires c = score_asked c.args.self.now.fits c.requires.0 c.requires.1
