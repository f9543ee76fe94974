use mir.Syntax.{w32}
use mathlib.Core.Path.{◌≡◌, sym, ap, ◌∙◌}
use mathlib.Core.Bool.{Bool, not}
use mathlib.Core.List.{List}
use Prim.Native.Nat.{ℕ, ◌<◌}
use native.Mathlib.Omega.{arith}
use borrow.Author.Rules.{rules}
use borrow.Author.Tests.{not-true, not-false}
use lib.IntN.{ℤ, pos}
use lib.ListN.{length, get_or}
use mir.Facts.{to_z-of_z}
use mir.Val.{SFits, to_z, of_z}
use Rattle.lists.proofs.Walk.{started, next_below, failed_below, ended_below}
use Rattle.pairs.specs.Pairs.{carried, is_scored}
use Rattle.clusters.specs.PairList.{place, score}
use Rattle.clusters.specs.Touched.{row_scored}
use Rattle.clusters.proofs.PairList.{place_lt}
use Rattle.matrix.proofs.PairList.is_row_scored.Goals.{In-loop-b}
use Rattle.matrix.proofs.PairList.is_row_scored.Goals as goal

-- the test of what stands at the place of a and b
tested : (l : List ℤ) (a b : ℕ) {at : ℕ} {r : Bool} → SFits w32 (get_or l at (pos 0)) → at ≡ place a b
    → r ≡ is_scored (carried (to_z w32 (of_z w32 (get_or l at (pos 0))))) → is_scored (carried (score l a b)) ≡ r
unfolding score
tested l a b f e s = sym (s ∙ ap (λ z. is_scored (carried z)) (to_z-of_z f ∙ ap (λ (i : ℕ). get_or l i (pos 0)) e))

-- the place is in the list
in_list : (c : In-loop-b) → c.loop-b.at < length c.args.self.now.pairs.now
in_list c = let l = c.loop-b in
    omega (arith, c.args.self.now.fits.long, l.invariant.1, place_lt c.args.self.now.n c.args.a l.b c.requires (omega arith))

pub place_of-at-requires : goal.place_of-at-requires
place_of-at-requires c = (omega (arith, c.args.self.now.fits.few), omega arith)

pub loop-b-init : goal.loop-b-init
loop-b-init c = (omega arith, c.place_of-at.ensures, started)

pub offset_bounds-self-at : goal.offset_bounds-self-at
offset_bounds-self-at c = record { fits = omega (arith, in_list c) }

pub bounds-self-at : goal.bounds-self-at
bounds-self-at c = in_list c

pub returns-then-not-is_scored : goal.returns-then-not-is_scored
unfolding row_scored
returns-then-not-is_scored c = let l = c.loop-b in
    failed_below l.invariant.2 (omega arith) (tested _ _ _ (search rules) l.invariant.1 c.is_scored.ensures ∙ not-true _ (ap not c.if-not-is_scored.true))

pub next_place-at-requires : goal.next_place-at-requires
next_place-at-requires c = let l = c.loop-b in (l.invariant.1, omega arith, omega arith)

pub loop-b-preserved : goal.loop-b-preserved
loop-b-preserved c = let l = c.loop-b in (
  omega arith,
  c.next_place-at.ensures,
  next_below l.invariant.2 (omega arith)
      (tested _ _ _ (search rules) l.invariant.1 c.is_scored.ensures ∙ not-false _ (ap not c.if-not-is_scored.false)),
)

pub returns : goal.returns
unfolding row_scored
returns c = ended_below c.loop-b.invariant.2 (omega arith)
