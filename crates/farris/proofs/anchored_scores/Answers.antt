use mathlib.Core.Path.{sym}
use lib.ListN.{length}
use Rattle.std.proofs.lemmas.Result.{err_from_is_err_and}
use Rattle.answers.proofs.WaysOut.{refused, counted}
use Rattle.clusters.specs.Farris.{farris, anchored_scores}
use Rattle.clusters.specs.PairList.{row_start, score}
use Rattle.clusters.proofs.PairList.{length_pair_list}
use Rattle.farris.proofs.Refusals.{anchor_passes}
use Rattle.farris.proofs.anchored_scores.Goals as goal

pub returns-in_err-check_anchored : goal.returns-in_err-check_anchored
returns-in_err-check_anchored c =
    let a = c.args in
    let p = err_from_is_err_and c.from_residual.result c.from_residual.ensures.1 in
    let (answered, written) = refused (row_start a.n) (anchored_scores a.n a.x a.pairs.now) a.out.now c.in_err-check_anchored.ensures in
    rw (p.1, p.2) (record { answered = answered; written = written })

pub invariant_of-anchor : goal.invariant_of-anchor
invariant_of-anchor c = let a = c.args in
    let (few, long, anchor, range, room) = anchor_passes a.n a.x a.pairs.now (length a.out.now) c.in_ok-check_anchored.ensures in
    record { fits = record { few = few; long = long } }

pub anchor-requires : goal.anchor-requires
anchor-requires c = let a = c.args in
    let (few, long, anchor, range, room) = anchor_passes a.n a.x a.pairs.now (length a.out.now) c.in_ok-check_anchored.ensures in (anchor, range, room)

pub pair_count-requires : goal.pair_count-requires
pair_count-requires c = let a = c.args in
    (anchor_passes a.n a.x a.pairs.now (length a.out.now) c.in_ok-check_anchored.ensures).0

pub returns : goal.returns
unfolding anchored_scores
returns c = let a = c.args in
    let (answered, written) = counted (row_start a.n) (anchored_scores a.n a.x a.pairs.now) a.out.now (sym c.in_ok-check_anchored.ensures) c.pair_count.ensures
    (length_pair_list a.n (farris (score a.pairs.now) a.x)) c.anchor.ensures in
    record { answered = answered; written = written }
