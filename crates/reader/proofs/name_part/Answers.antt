use native.Mathlib.Omega.{arith}
use Rattle.sheet.proofs.Lines.{line_length}
use Rattle.reader.proofs.Parts.{entry_in, name_start_lem, name_from, name_inside, name_bytes}
use Rattle.reader.proofs.Answers.{name_none, name_past, name_some, no_part, whole_part_lem}
use Rattle.answers.proofs.Answers.{found_is}
use Rattle.reader.proofs.name_part.Goals as goal

-- no name
pub returns-in_default : goal.returns-in_default
returns-in_default c = let e = c.in_default.ensures.answered in
    no_part c.args.sheet.now c.args.entry _ (name_none _ _ e) (omega arith)

pub returns-then-entry-n : goal.returns-then-entry-n
returns-then-entry-n c = let e = c.in-Ok.ensures.answered in
    no_part c.args.sheet.now c.args.entry _ (name_past _ _ e (omega arith)) (omega arith)

pub slice_bounds-line-end : goal.slice_bounds-line-end
slice_bounds-line-end c = line_length c.args.sheet.now _ c.line_end.ensures

-- line 1 has that many names
pub piece_start-start-requires : goal.piece_start-start-requires
piece_start-start-requires c = let e = c.in-Ok.ensures.answered in
    entry_in c.args.sheet.now _ c.args.entry _ c.line_end.ensures (found_is e).1 c.if-entry-n.false

pub piece_end-end-requires : goal.piece_end-end-requires
piece_end-end-requires c = let l = c.line_end.ensures in
    let e = c.in-Ok.ensures.answered in
    let has = entry_in c.args.sheet.now _ c.args.entry _ l (found_is e).1 c.if-entry-n.false in
    name_from c.args.sheet.now _ _ c.args.entry l has c.piece_start-start.ensures

pub returns : goal.returns
returns c = let s = c.args.sheet.now in
    let i = c.args.entry in
    let l = c.line_end.ensures in
    let f = c.piece_start-start.ensures in
    let t = c.piece_end-end.ensures in
    let e = c.in-Ok.ensures.answered in
    let has = entry_in s _ i _ l (found_is e).1 c.if-entry-n.false in
    whole_part_lem s i _ _ (name_some _ _ e c.if-entry-n.false) (omega (arith, t))
    (name_inside s _ _ i l has f _ _ t)
    (name_bytes s _ _ i l has f _ t)
    (name_start_lem s _ _ i l has f)
