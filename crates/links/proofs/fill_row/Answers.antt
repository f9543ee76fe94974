use mir.Syntax.{w32}
use mathlib.Core.Path.{◌≡◌, sym, ap, ◌∙◌}
use Prim.Native.Nat.{ℕ, ◌+◌}
use native.Mathlib.Omega.{arith}
use borrow.Author.Rules.{rules}
use lib.IntN.{pos}
use lib.ListN.{get_or}
use mir.Facts.{to_z-of_z}
use mir.Syntax.{w64}
use Rattle.integers.proofs.Held.{passed}
use Rattle.clusters.specs.PairList.{score}
use Rattle.clusters.proofs.PairList.{score_row}
use Rattle.links.proofs.Rows.{written_next}
use Rattle.links.proofs.fill_row.Goals as goal

pub loop-b-preserved : goal.loop-b-preserved
loop-b-preserved c = let a = c.args in
    let w = c.from in
    let b = c.loop-b.b in
    let e : w.result ≡ score a.pairs.now a.a b = w.ensures
    ∙ to_z-of_z {w = w32} (search rules)
    ∙ ap (λ (i : ℕ). get_or a.pairs.now (i + b) (pos 0)) c.requires.1
    ∙ sym (score_row a.pairs.now a.a b (omega arith)) in
    (omega arith, rw c.put.ensures (written_next c.loop-b.invariant.1 (passed w64 w.type_inv e) (omega arith) (omega arith) (omega arith) (omega arith)))
