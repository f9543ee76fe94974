use mathlib.Core.Path.{◌≡◌, refl, sym, ◌∙◌}
use mathlib.Core.Bool.{Bool, true, false, not, true≢false}
use mathlib.Core.List.{List}
use Prim.Native.Nat.{ℕ, ◌+◌, ◌-◌}
use lib.Dec.{eqb}
use lib.ListN.{take, drop}
use Rattle.std.specs.Cmp.Lexicographic.{pointwise}
use native.Mathlib.Omega.{arith}
use Rattle.lists.proofs.Tests.{true_T}
use Rattle.interface.proofs.Pieces.{same_bytes_lem}
use Rattle.sheet.proofs.Names.{bytes_same}
use Rattle.accept.proofs.Found.{both_of}
use Rattle.accept.proofs.read_any_both.Goals as goal

-- what is not unequal is equal
same : {r b : Bool} → r ≡ not b → r ≡ false → b ≡ true
same {b = true} e f = refl
same {b = false} e f = absurd (true≢false (sym e ∙ f))

equal_of : {s t : List ℕ} {r : Bool} → r ≡ not (pointwise eqb s t) → r ≡ false → s ≡ t
equal_of {s} {t} e f = same_bytes_lem s t (true_T (sym (bytes_same s t) ∙ same e f))

pub returns : goal.returns
returns c =
    let a = c.args in
    let k = c.in_ok-cell.cell.size in
    let near : a.p + k - a.p ≡ k = omega arith in
    let far : a.q + k - a.q ≡ k = omega arith in
    both_of c.in_ok-cell.ensures (omega arith) c.if-sheet-other.false
    (rw (near, far) at (equal_of {s = take (a.p + k - a.p) (drop a.p a.sheet.now)} {t = take (a.q + k - a.q) (drop a.q a.sheet.now)} c.ne.ensures c.if-ne.false))
