use mir.Syntax.{w32}
use mathlib.Core.Path.{refl, ap, ◌∙◌}
use Prim.Native.Nat.{◌<◌}
use native.Mathlib.Omega.{arith}
use borrow.Author.Rules.{rules}
use lib.IntN.{pos}
use lib.ListN.{length-set}
use mir.Facts.{to_z-of_z}
use Rattle.lists.proofs.Written.{place_more}
use Rattle.clusters.specs.PairList.{score}
use Rattle.matrix.specs.Rows.{number}
use Rattle.matrix.proofs.Places.{score_asked, place_few}
use Rattle.matrix.proofs.PairList.put_row.Goals as goal

pub place_of-at-requires : goal.place_of-at-requires
place_of-at-requires c = (omega (arith, c.args.self.now.fits.few), omega arith)

pub loop-y-init : goal.loop-y-init
loop-y-init c = (omega arith, c.place_of-at.ensures, refl, λ y h. absurd (omega arith))

pub offset_bounds-self-at : goal.offset_bounds-self-at
offset_bounds-self-at c = let s = c.before in
    let g = s.before.before in
    let h = place_few {a = g.args.a} {b = s.loop-y.y} (omega (arith, g.args.self.now.fits.few)) (omega (arith, g.args.self.now.fits.few)) in
    let k : s.loop-y.at < 528 = omega (arith, h, s.loop-y.invariant.1) in
    search (rules, k)

pub bounds-self-at : goal.bounds-self-at
bounds-self-at c = let s = c.before in
    let g = s.before.before in
    omega (arith, (score_asked g.args.self.now.fits {a = g.args.a} {b = s.loop-y.y} (omega arith) (omega arith)).2)

pub next_place-at-requires : goal.next_place-at-requires
next_place-at-requires c = let s = c.before.before in
    let g = s.before.before in
    (s.loop-y.invariant.1, omega (arith, g.args.self.now.fits.few), omega (arith, g.args.self.now.fits.few))

pub loop-y-smaller : goal.loop-y-smaller
loop-y-smaller c = omega arith

pub loop-y-preserved : goal.loop-y-preserved
unfolding score
loop-y-preserved c = let s = c.before.before.before in
    let l = s.loop-y in
    let a = s.args in (
      omega arith,
      c.next_place-at.ensures,
      length-set l.row l.y _ ∙ l.invariant.2,
      place_more (pos 0) (score a.self.now.pairs.now a.a) l.row l.invariant.3 (omega (arith, l.invariant.2, s.requires.1))
          (to_z-of_z {w = w32} (search rules) ∙ ap (number a.self.now.pairs.now) l.invariant.1),
    )

pub shape_of-row : goal.shape_of-row
shape_of-row c = c.loop-y.invariant.2

pub returns : goal.returns
returns c = let l = c.loop-y in
    λ y h. l.invariant.3 y (omega arith)
