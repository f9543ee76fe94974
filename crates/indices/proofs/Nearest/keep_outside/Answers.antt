use mathlib.Core.Path.{◌≡◌, sym, ap, ap₂, ◌∙◌}
use mathlib.Core.Bool.{not}
use Prim.Native.Nat.{ℕ}
use native.Mathlib.Omega.{arith}
use lib.IntN.{◌-ℤ◌}
use mir.Syntax.{w64}
use mir.Val.{of_z, to_z}
use Rattle.integers.specs.Integers.{max_z}
use Rattle.integers.proofs.Operators.{operators}
use Rattle.sets.specs.Sets.{others}
use Rattle.smallest.specs.Smallest.{kept_with}
use Rattle.smallest.proofs.Kept.{kept_start, kept_yes, kept_no, kept_end}
use Rattle.clusters.specs.PairList.{score}
use Rattle.clusters.specs.Indices.{weight}
use Rattle.matrix.specs.Rows.{number}
use Rattle.indices.specs.Triples.{keep_outside}
use Rattle.indices.proofs.Values.{stands}
use Rattle.indices.proofs.Nearest.keep_outside.Goals.{then-not-has, else-not-has}
use Rattle.indices.proofs.Nearest.keep_outside.Goals as goal

pub loop-c-preserved : goal.loop-c-preserved
unfolding weight score
loop-c-preserved c =
    let own = c.score-own in
    let s = own.ensures.narrow in
    let i = c.loop-c.invariant in
    let at = number c.args.self.now.list.pairs.now in
    let t = sym (ap not c.has.ensures) in
    elim c.if-not-has.branch [
      | then-not-has w ↦
          let m : w.from.result ≡ max_z (at c.loop-c.of_a) (at c.loop-c.of_b) = grind (arith, operators, w.from.ensures, w.max-other.ensures.value) in
          let e : to_z w64 (of_z w64 (to_z w64 (of_z w64 own.result) -ℤ to_z w64 (of_z w64 w.from.result))) ≡ own.result -ℤ w.from.result =
          grind (arith, operators, s.low, s.top, w.from.ensures) in (
            omega arith,
            c.next_place-of_a.ensures,
            c.next_place-of_b.ensures,
            kept_yes i.3 (t ∙ ap not w.if-not-has.true) w.kept-is
                (w.keep.ensures ∙ ap (kept_with _) (e ∙ ap₂ ◌-ℤ◌ own.ensures.value (m ∙ ap₂ (λ (a b : ℕ). max_z (at a) (at b)) i.1 i.2))),
          )
      | else-not-has w ↦ (omega arith, c.next_place-of_a.ensures, c.next_place-of_b.ensures, kept_no i.3 (t ∙ ap not w.if-not-has.false) w.kept-is)
    ]

pub place_of-of_a-requires : goal.place_of-of_a-requires
place_of-of_a-requires c = (omega (arith, c.args.self.now.list.fits.few), omega arith)

pub place_of-of_b-requires : goal.place_of-of_b-requires
place_of-of_b-requires c = (omega (arith, c.args.self.now.list.fits.few), omega arith)

pub loop-c-init : goal.loop-c-init
loop-c-init c = (omega arith, c.place_of-of_a.ensures, c.place_of-of_b.ensures, kept_start)

pub bounds-list-of_a : goal.bounds-list-of_a
bounds-list-of_a c = (stands c.args.a c.loop-c.c c.args.self.now.list.fits (omega arith) (omega arith) c.loop-c.invariant.1).0

pub bounds-list-of_b : goal.bounds-list-of_b
bounds-list-of_b c = (stands c.args.b c.loop-c.c c.args.self.now.list.fits (omega arith) (omega arith) c.loop-c.invariant.2).0

pub offset_bounds-list-of_a : goal.offset_bounds-list-of_a
offset_bounds-list-of_a c = let (_, few) = stands c.args.a c.loop-c.c c.args.self.now.list.fits (omega arith) (omega arith) c.loop-c.invariant.1 in
    record { fits = omega (arith, few) }

pub offset_bounds-list-of_b : goal.offset_bounds-list-of_b
offset_bounds-list-of_b c = let (_, few) = stands c.args.b c.loop-c.c c.args.self.now.list.fits (omega arith) (omega arith) c.loop-c.invariant.2 in
    record { fits = omega (arith, few) }

pub next_place-of_a-requires : goal.next_place-of_a-requires
next_place-of_a-requires c = let few = c.args.self.now.list.fits.few in (c.loop-c.invariant.1, omega (arith, few), omega (arith, few))

pub next_place-of_b-requires : goal.next_place-of_b-requires
next_place-of_b-requires c = let few = c.args.self.now.list.fits.few in (c.loop-c.invariant.2, omega (arith, few), omega (arith, few))

pub overflow_sub-own : goal.overflow_sub-own
overflow_sub-own c = let s = c.score-own.ensures.narrow in grind (arith, operators, s.low, s.top, c.from.ensures)

pub returns : goal.returns
unfolding keep_outside others
returns c = kept_end c.loop-c.invariant.3 (omega arith)
