use mathlib.Core.Path.{◌≡◌, sym, ap, ◌∙◌}
use mathlib.Core.Bool.{Bool}
use mathlib.Core.List.{List, [], ◌∷◌}
use Prim.Native.Nat.{ℕ, ◌-◌}
use lib.Dec.{eqb}
use lib.ListN.{length, take, drop}
use Rattle.std.specs.Cmp.Lexicographic.{pointwise}
use Rattle.interface.specs.Sheet.{half_text}
use Rattle.text.proofs.Pieces.{rest}
use Rattle.text.proofs.Halves.{half_ahead}
use Rattle.text.proofs.is_half.Goals as goal

begins : (s : List ℕ) (at : ℕ) {r : Bool} → r ≡ pointwise eqb (46 ∷ 53 ∷ []) (take 2 (take (length s - at) (drop at s))) → r ≡ pointwise eqb half_text (take 2 (drop at s))
unfolding half_text
begins s at e = e ∙ ap (λ t. pointwise eqb half_text (take 2 t)) (rest s at)

pub returns-then-starts_with : goal.returns-then-starts_with
returns-then-starts_with c =
    let s = sym (begins c.args.line.now c.args.at c.starts_with.ensures.value) ∙ c.if-starts_with.true in
    c.is_end.ensures ∙ rw s at (half_ahead c.args.line.now c.args.at)

pub returns-else-starts_with : goal.returns-else-starts_with
returns-else-starts_with c =
    let s = sym (begins c.args.line.now c.args.at c.starts_with.ensures.value) ∙ c.if-starts_with.false in
    c.if-starts_with.false ∙ rw s at (half_ahead c.args.line.now c.args.at)
