use mathlib.Core.Path.{refl, sym, ap, subst, ◌∙◌}
use mathlib.Core.List.{List}
use Prim.Native.Nat.{◌+◌}
use native.Mathlib.Omega.{arith}
use lib.Dec.{lit<}
use lib.IntN.{ℤ, pos}
use lib.ListN.{length, replicate, length-set}
use mir.Syntax.{w32}
use Rattle.lists.proofs.Tests.{false_T}
use Rattle.integers.proofs.Linear.{zarith}
use Rattle.integers.proofs.Held.{passed}
use Rattle.sets.proofs.Sets.{has_no}
use Rattle.clusters.specs.PairList.{score}
use Rattle.indices.specs.Triples.{Near}
use Rattle.indices.proofs.Parted.{zeros, near_most}
use Rattle.indices.proofs.Triples.{near_more, near_none}
use Rattle.indices.proofs.Values.{small_row}
use Rattle.indices.proofs.Nearest.new.Goals.{then-has, else-has}
use Rattle.indices.proofs.Nearest.new.Goals as goal

pub part-requires : goal.part-requires
part-requires c = let h = c.args.list.now.fits.few in (lit< tt, (h, h, omega arith, zeros _ {t = replicate 32 (pos 0)} refl))

pub loop-a-init : goal.loop-a-init
loop-a-init c = (omega arith, refl, λ a h. absurd (omega arith))

pub greatest_of-requires : goal.greatest_of-requires
greatest_of-requires c = (lit< tt, (omega arith, c.args.list.now.fits.few, small_row c.requires _))

pub loop-a-preserved : goal.loop-a-preserved
loop-a-preserved c =
    let l = c.loop-a in
    let i = l.invariant in
    let t = sym c.has.ensures in
    let near : List ℤ → Type 0 = Near c.args.list.now.n (score c.args.list.now.pairs.now) c.args.set (l.a + 1) in
    elim c.if-has.branch [
      | then-has w ↦ (
        omega arith,
        ap length w.near-is ∙ length-set l.near l.a _ ∙ i.1,
        subst near (sym w.near-is) (near_more l.near i.2 (omega (arith, i.1, c.args.list.now.fits.few)) λ c' k o.
            omega (zarith, passed w32 {z = w.greatest_of.result} w.greatest_of.type_inv refl, near_most c.args.list.now.pairs.now refl c.part.ensures l.a w.greatest_of.ensures c' k o)),
      )
      | else-has w ↦ (
        omega arith,
        ap length w.near-is ∙ i.1,
        subst near (sym w.near-is) (near_none l.near i.2 (has_no c.args.set l.a (false_T (t ∙ w.if-has.false)))),
      )
    ]

pub invariant_of-result : goal.invariant_of-result
invariant_of-result c = let l = c.loop-a in
    record { fits = (omega (arith, l.invariant.1, c.args.list.now.fits.few), λ a h. l.invariant.2 a (omega arith)) }
