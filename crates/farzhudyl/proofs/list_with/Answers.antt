use mathlib.Core.Path.{◌≡◌, refl, sym, ◌∙◌}
use lib.ListN.{take}
use Rattle.kinds.proofs.Read.{is_of}
use Rattle.interface.specs.Sheet.{pairs}
use Rattle.reader.proofs.Answers.{accepted_answer, accepted_pairs, few_entries, some_entries, pairs_long, pairs_fit}
use Rattle.farzhudyl.proofs.Sheets.{read_sheet}
use Rattle.farzhudyl.proofs.list_with.Goals as goal

pub pair_count-count-requires : goal.pair_count-count-requires
pair_count-count-requires c =
    let r = c.in-Some.ensures in
    let f = accepted_answer r in
    few_entries _ f

pub slice_bounds-list-end : goal.slice_bounds-list-end
slice_bounds-list-end c =
    let r = c.in-Some.ensures in
    let f = accepted_answer r in
    let p : take c.pair_count-count.result c.read_rows.new.pairs ≡ pairs c.args.sheet.now = accepted_pairs r c.pair_count-count.ensures in
    pairs_fit _ f _ c.pair_count-count.ensures p

pub slice_bounds-list-end-2 : goal.slice_bounds-list-end-2
slice_bounds-list-end-2 c =
    let r = c.in-Some.ensures in
    let f = accepted_answer r in
    let p : take c.pair_count-count.result c.read_rows.new.pairs ≡ pairs c.args.sheet.now = accepted_pairs r c.pair_count-count.ensures in
    c.pair_count-count.ensures ∙ sym (pairs_long _ f p)

pub invariant_of-list : goal.invariant_of-list
invariant_of-list c =
    let r = c.in-Some.ensures in
    let f = accepted_answer r in
    let p : take c.pair_count-count.result c.read_rows.new.pairs ≡ pairs c.args.sheet.now = accepted_pairs r c.pair_count-count.ensures in
    record { fits = record { few = few_entries _ f; long = pairs_long _ f p } }

pub list_pairs-requires : goal.list_pairs-requires
list_pairs-requires c = some_entries _ (accepted_answer (c.in-Some.ensures))

pub returns : goal.returns
returns c =
    let r = c.in-Some.ensures in
    let f = accepted_answer r in
    let p : take c.pair_count-count.result c.read_rows.new.pairs ≡ pairs c.args.sheet.now = accepted_pairs r c.pair_count-count.ensures in
    read_sheet _ _ c.args.out.now (is_of c.args.kind refl).0 f p c.list_pairs.ensures
