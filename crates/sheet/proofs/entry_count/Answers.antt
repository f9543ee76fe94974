use mathlib.Core.Path.{ap, ◌∙◌}
use mathlib.Core.List.{List}
use Prim.Native.Nat.{ℕ}
use lib.ListN.{length}
use Rattle.interface.specs.Sheet.{cut, entries, names}
use Rattle.sheet.proofs.Lines.{line_length, first_line_lem}
use Rattle.sheet.proofs.entry_count.Goals as goal

pub slice_bounds-piece_count-end : goal.slice_bounds-piece_count-end
slice_bounds-piece_count-end c = line_length c.args.sheet.now _ c.line_end-end.ensures

pub returns : goal.returns
unfolding entries names
returns c = let s = c.args.sheet.now in
    c.piece_count.ensures ∙ ap (λ (l : List ℕ). length (cut 32 l)) (first_line_lem s _ c.line_end-end.ensures)
