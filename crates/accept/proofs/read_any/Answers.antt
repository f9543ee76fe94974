use mir.Syntax.{w32}
use Rattle.integers.proofs.Held.{passed}
use Rattle.accept.proofs.Found.{any_cell}
use Rattle.text.proofs.Values.{value_got}
use Rattle.accept.proofs.read_any.Goals as goal

pub returns : goal.returns
returns c =
    any_cell c.requires c.piece_end-end.ensures c.if-end-sheet.false
    (value_got _ _ c.read_value.ensures c.in-Ok.is) c.if-size-end.false (passed w32 c.from-number.type_inv c.from-number.ensures)
