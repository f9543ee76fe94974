use Rattle.sheet.proofs.Lines.{lines_wrong, lines_right}
use Rattle.sheet.proofs.wrong_lines.Goals as goal

pub returns-then-piece_count-n : goal.returns-then-piece_count-n
returns-then-piece_count-n c = lines_wrong c.args.sheet.now c.args.n _ c.requires.2 c.piece_count.ensures c.if-piece_count-n.true

pub returns : goal.returns
returns c = let n = c.piece_count.ensures in
    lines_right c.args.sheet.now c.args.n _ c.requires.2 n c.requires.0 c.if-piece_count-n.false
