use mathlib.Core.Path.{◌≡◌, sym, ap, ◌∙◌, subst}
use mathlib.Core.Bool.{Bool, true, false, not}
use mathlib.Core.List.{List}
use Prim.Native.Nat.{ℕ, ◌+◌, ◌≤◌, ◌<◌}
use native.Mathlib.Omega.{arith}
use borrow.Author.Tests.{eqb-false}
use lib.Dec.{T, eqb}
use Rattle.lists.specs.Lists.{all}
use Rattle.lists.proofs.Tests.{true_T}
use Rattle.accept.specs.Names.{LineRead}
use Rattle.accept.proofs.Named.{NamesState, names_start, names_next, names_end}
use Rattle.accept.proofs.read_line.Goals as goal

-- the name is new among the numbers, of which there are fewer than 32
fresh : {l known : List ℕ} (v : ℕ) {r : Bool} → l ≡ known → r ≡ all (λ x. not (eqb x v)) l → r ≡ true → T (all (λ x. not (eqb x v)) known)
fresh v e is t = true_T (ap (all (λ x. not (eqb x v))) (sym e) ∙ sym is ∙ t)

fewer : {n : ℕ} {r : Bool} → n ≤ 32 → r ≡ eqb n 32 → r ≡ false → n < 32
fewer {n} h is e = let f = eqb-false n 32 (sym is ∙ e) in omega arith

pub loop-known-init : goal.loop-known-init
loop-known-init c = subst (λ (l : List ℕ). NamesState c.args.sheet.now l 0) (sym c.new-known.ensures) (names_start _)

pub returns-then-sheet-end-eq10 : goal.returns-then-sheet-end-eq10
returns-then-sheet-end-eq10 c =
    let upper = sym c.is_upper.ensures ∙ c.if-not-is_upper.false in
    let new = fresh c.read_name-packed.result.packed c.as_slice.ensures.value c.is_new.ensures c.if-not-is_new.false in
    let few = fewer c.is_full.ensures.fits c.is_full.ensures.value c.if-is_full.false in
    let read = names_end c.loop-known.invariant c.read_name-packed.ensures (omega arith) (omega arith) upper new c.if-sheet-end-eq10.true few in
    subst (λ (n : ℕ). LineRead c.args.sheet.now n (c.loop-known.at + c.read_name-packed.result.size + 1)) (sym (c.len.ensures.value ∙ c.push.ensures.len)) read

pub loop-known-preserved : goal.loop-known-preserved
loop-known-preserved c =
    let upper = sym c.is_upper.ensures ∙ c.if-not-is_upper.false in
    let new = fresh c.read_name-packed.result.packed c.as_slice.ensures.value c.is_new.ensures c.if-not-is_new.false in
    subst (λ (l : List ℕ). NamesState c.args.sheet.now l (c.loop-known.at + c.read_name-packed.result.size + 1)) (sym c.push.ensures.items)
    (names_next c.loop-known.invariant c.read_name-packed.ensures (omega arith) (omega arith) upper new c.if-sheet-end-ne32.false)
