use mathlib.Core.Path.{ap, ◌∙◌}
use mathlib.Core.List.{List}
use mathlib.Core.Bool.{not}
use Prim.Native.Nat.{ℕ}
use Rattle.lists.specs.Lists.{all}
use Rattle.interface.specs.Sheet.{cut, is_name, names}
use Rattle.sheet.proofs.Lines.{first_line_lem, no_feed, names_left}
use Rattle.sheet.proofs.wrong_names.Goals as goal

pub returns-then-end-sheet : goal.returns-then-end-sheet
returns-then-end-sheet c = no_feed c.args.sheet.now _ c.line_end-end.ensures c.if-end-sheet.true

pub returns : goal.returns
unfolding names
returns c = let s = c.args.sheet.now in
    let e = c.line_end-end.ensures in
    ap not (c.are_names.ensures ∙ ap (λ (l : List ℕ). all is_name (cut 32 l)) (first_line_lem s _ e))
    ∙ names_left s _ e c.if-end-sheet.false
