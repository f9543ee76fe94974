use mathlib.Core.Path.{ap, ◌∙◌}
use mathlib.Core.List.{List}
use Prim.Native.Nat.{ℕ}
use Rattle.interface.specs.Sheet.{cut, names, has_equal}
use Rattle.interface.specs.Refusals.{equal_names}
use Rattle.sheet.proofs.Lines.{line_length, first_line_lem}
use Rattle.sheet.proofs.equal_names.Goals as goal

pub slice_bounds-has_equal-end : goal.slice_bounds-has_equal-end
slice_bounds-has_equal-end c = line_length c.args.sheet.now _ c.line_end-end.ensures

pub returns : goal.returns
unfolding names equal_names
returns c = let s = c.args.sheet.now in
    c.has_equal.ensures ∙ ap (λ (l : List ℕ). has_equal (cut 32 l)) (first_line_lem s _ c.line_end-end.ensures)
