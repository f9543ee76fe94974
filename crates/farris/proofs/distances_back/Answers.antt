use mathlib.Core.Path.{◌≡◌, sym}
use borrow.Author.Rules.{rules}
use lib.ListN.{length}
use Rattle.std.proofs.lemmas.Result.{err_from_is_err_and}
use Rattle.answers.proofs.WaysOut.{refused, counted}
use Rattle.clusters.specs.Farris.{unfarris, distances_back}
use Rattle.clusters.specs.PairList.{row_start, score}
use Rattle.clusters.proofs.PairList.{length_pair_list}
use Rattle.farris.proofs.Bounds.{back_small}
use Rattle.farris.proofs.Refusals.{back_passes}
use Rattle.farris.proofs.distances_back.Goals as goal

pub returns-in_err-check_back : goal.returns-in_err-check_back
returns-in_err-check_back c =
    let a = c.args in
    let p = err_from_is_err_and c.from_residual.result c.from_residual.ensures.1 in
    let (answered, written) = refused (row_start a.n) (distances_back a.n a.scores.now) a.out.now c.in_err-check_back.ensures in
    rw (p.1, p.2) (record { answered = answered; written = written })

pub invariant_of-list : goal.invariant_of-list
invariant_of-list c = let a = c.args in
    let (few, long, anchored, room) = back_passes a.n a.x a.scores.now (length a.out.now) c.in_ok-check_back.ensures in
    record { fits = record { few = few; long = long } }

pub fill-requires : goal.fill-requires
fill-requires c = let a = c.args in
    let (few, long, anchored, room) = back_passes a.n a.x a.scores.now (length a.out.now) c.in_ok-check_back.ensures in
    record {
      room = (few, room);
      callable = λ p q h k. search rules;
      fitting = λ p q r h k o.
          let e : r ≡ unfarris (score a.scores.now) p q = search rules in
          rw e (back_small a.n a.scores.now p q anchored h k);
    }

pub pair_count-requires : goal.pair_count-requires
pair_count-requires c = let a = c.args in
    (back_passes a.n a.x a.scores.now (length a.out.now) c.in_ok-check_back.ensures).0

pub returns : goal.returns
unfolding distances_back
returns c = let a = c.args in
    let (answered, written) = counted (row_start a.n) (distances_back a.n a.scores.now) a.out.now (sym c.in_ok-check_back.ensures) c.pair_count.ensures
    (length_pair_list a.n (unfarris (score a.scores.now)))
    (c.fill.ensures (unfarris (score a.scores.now)) (λ p q r h k o. search rules)) in
    record { answered = answered; written = written }
