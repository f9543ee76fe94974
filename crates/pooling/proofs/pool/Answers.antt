use mathlib.Core.Path.{refl}
use Rattle.std.proofs.lemmas.Result.{err_from_is_err_and}
use Rattle.pooling.proofs.Sheets.{few, lent_long, lent_fit, refused_first, refused_second, both_accepted}
use Rattle.pooling.proofs.pool.Goals as goal

pub returns-in_err-n : goal.returns-in_err-n
returns-in_err-n c = let p = err_from_is_err_and c.from_residual.result c.from_residual.ensures.1 in
    rw (p.1, p.2) (refused_first _ _ _ _ c.in_err-n.ensures.answered)

pub returns-in_err-m : goal.returns-in_err-m
returns-in_err-m c = let p = err_from_is_err_and c.from_residual-in_err-m.result c.from_residual-in_err-m.ensures.1 in
    rw (p.1, p.2) (refused_second _ _ _ (c.in_ok-n.ensures.accepted _ refl) _ c.in_err-m.ensures.answered)

pub pair_count-count-requires : goal.pair_count-count-requires
pair_count-count-requires c = few (c.in_ok-n.ensures.accepted _ refl)

pub pair_count-count2-requires : goal.pair_count-count2-requires
pair_count-count2-requires c = few (c.in_ok-m.ensures.accepted _ refl)

pub slice_bounds-scores-end : goal.slice_bounds-scores-end
slice_bounds-scores-end c = lent_fit _ (c.in_ok-n.ensures.accepted _ refl) c.pair_count-count.ensures

pub slice_bounds-pool_pairs-end : goal.slice_bounds-pool_pairs-end
slice_bounds-pool_pairs-end c = lent_long _ (c.in_ok-n.ensures.accepted _ refl) c.pair_count-count.ensures

pub slice_bounds-others-end : goal.slice_bounds-others-end
slice_bounds-others-end c = lent_fit _ (c.in_ok-m.ensures.accepted _ refl) c.pair_count-count2.ensures

pub slice_bounds-pool_pairs-end-2 : goal.slice_bounds-pool_pairs-end-2
slice_bounds-pool_pairs-end-2 c = lent_long _ (c.in_ok-m.ensures.accepted _ refl) c.pair_count-count2.ensures

pub returns : goal.returns
returns c = both_accepted _ _ _ (c.in_ok-n.ensures.accepted _ refl) (c.in_ok-m.ensures.accepted _ refl) c.pool_pairs.ensures
