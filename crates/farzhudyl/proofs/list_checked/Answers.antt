use mathlib.Core.Path.{refl, sym, ◌∙◌}
use Rattle.std.proofs.lemmas.Result.{err_from_is_err_and}
use Rattle.kinds.proofs.Read.{is_of}
use Rattle.reader.proofs.Answers.{few_entries, some_entries, pairs_read, pairs_long, pairs_fit}
use Rattle.farzhudyl.proofs.Sheets.{refused_sheet, read_sheet}
use Rattle.farzhudyl.proofs.list_checked.Goals as goal

pub returns-in_err-n : goal.returns-in_err-n
returns-in_err-n c = let p = err_from_is_err_and c.from_residual.result c.from_residual.ensures.1 in
    rw (p.1, p.2) (refused_sheet _ _ _ (is_of c.args.kind refl).0 c.in_err-n.ensures.answered)

pub pair_count-count-requires : goal.pair_count-count-requires
pair_count-count-requires c = few_entries _ c.in_ok-n.ensures.answered

pub slice_bounds-pairs-end : goal.slice_bounds-pairs-end
slice_bounds-pairs-end c = let r = c.in_ok-n.ensures in
    pairs_fit _ r.answered _ c.pair_count-count.ensures (pairs_read _ r.answered _ r.written c.pair_count-count.ensures)

pub slice_bounds-list-end : goal.slice_bounds-list-end
slice_bounds-list-end c = let r = c.in_ok-n.ensures in
    c.pair_count-count.ensures ∙ sym (pairs_long _ r.answered (pairs_read _ r.answered _ r.written c.pair_count-count.ensures))

pub invariant_of-list : goal.invariant_of-list
invariant_of-list c = let r = c.in_ok-n.ensures in
    let p = pairs_read _ r.answered _ r.written c.pair_count-count.ensures in
    record { fits = record { few = few_entries _ r.answered; long = pairs_long _ r.answered p } }

pub list_pairs-requires : goal.list_pairs-requires
list_pairs-requires c = some_entries _ c.in_ok-n.ensures.answered

pub returns : goal.returns
returns c = let r = c.in_ok-n.ensures in
    read_sheet _ _ c.args.out.now (is_of c.args.kind refl).0 r.answered (pairs_read _ r.answered _ r.written c.pair_count-count.ensures) c.list_pairs.ensures
