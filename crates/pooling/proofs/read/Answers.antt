use mathlib.Core.Path.{refl, ap, ◌∙◌}
use mathlib.Core.Bool.{not}
use Rattle.std.proofs.lemmas.Result.{err_from_is_err_and}
use Rattle.clusters.specs.PairList.{scores_in_range}
use Rattle.reader.proofs.Answers.{few_entries, pairs_own, pairs_fit}
use Rattle.pooling.proofs.Readings.{read_refused, read_out_of_range, read_accepted}
use Rattle.pooling.proofs.read.Goals as goal

pub returns-in_err-n : goal.returns-in_err-n
returns-in_err-n c = let p = err_from_is_err_and c.from_residual.result c.from_residual.ensures.1 in
    rw (p.1, p.2) (read_refused _ _ _ c.in_err-n.ensures.answered)

pub are_in_range-requires : goal.are_in_range-requires
are_in_range-requires c = let r = c.in_ok-n.ensures in
    (few_entries _ r.answered, pairs_fit _ r.answered _ refl (pairs_own r refl refl))

pub returns-then-not-are_in_range : goal.returns-then-not-are_in_range
returns-then-not-are_in_range c = let r = c.in_ok-n.ensures in
    let asked = c.are_in_range.ensures ∙ ap scores_in_range (pairs_own r refl refl) in
    read_out_of_range _ _ r.answered asked (ap not c.if-not-are_in_range.true)

pub returns : goal.returns
returns c = let r = c.in_ok-n.ensures in
    let its-pairs = pairs_own r refl refl in
    let asked = c.are_in_range.ensures ∙ ap scores_in_range its-pairs in
    read_accepted _ _ r.answered asked (ap not c.if-not-are_in_range.false) its-pairs
