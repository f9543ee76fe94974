use mathlib.Core.Path.{◌≡◌, refl, ap, ◌∙◌, subst}
use mathlib.Core.List.{List, [], ◌∷◌, ◌++◌}
use Prim.Native.Nat.{ℕ}
use native.Mathlib.Omega.{arith}
use borrow.Author.Rules.{rules}
use Rattle.clusters.specs.PairList.{score}
use Rattle.listing.specs.Put.{Put}
use Rattle.listing.proofs.Puts.{nothing_put, then, from_start}
use Rattle.writer.proofs.Texts.{rows_before, no_rows, rows_next, all_rows}
use Rattle.writer.proofs.write.Goals as goal

pub loop-i-init : goal.loop-i-init
loop-i-init c = record { near = omega arith; put = rw no_rows (nothing_put c.put_byte.new.self) }

pub loop-i-preserved : goal.loop-i-preserved
loop-i-preserved c = let l = c.loop-i in
    let r = c.put_row.ensures in record {
      near = omega arith;
      put = rw (rows_next _ _ l.i) (then l.invariant.put r.put);
    }

pub returns : goal.returns
returns c = let a = c.args in
    let t = c.new-sheet.ensures in
    let l = c.loop-i in
    let e : l.i ≡ a.list.now.n = omega arith in
    let text = ap (λ (i : ℕ). (a.line.now ++ (10 ∷ [])) ++ rows_before a.list.now.n (score a.list.now.pairs.now) i) e
    ∙ all_rows a.line.now a.list.now.n (score a.list.now.pairs.now) c.requires.sheet.0 in
    let put = subst (λ (bytes : List ℕ). Put c.new-sheet.result bytes l.sheet) text (then (then c.put_bytes.ensures c.put_byte.ensures) l.invariant.put) in
    let p = from_start a.out.now t.bytes t.place put refl (omega (arith, put.place, l.invariant.near, t.place)) in
    record { value = p.0; out_after = search (rules, put.same_reference, t.same_reference) ∙ p.1 }
