use Rattle.std.proofs.lemmas.Result.{err_from_is_err_and}
use Rattle.reader.proofs.check.Goals as goal

pub returns-in_err-read_own : goal.returns-in_err-read_own
returns-in_err-read_own c = let p = err_from_is_err_and c.from_residual.result c.from_residual.ensures.1 in
    rw (p.1, p.2) c.in_err-read_own.ensures.answered.number
