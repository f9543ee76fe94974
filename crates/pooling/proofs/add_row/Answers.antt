use mathlib.Core.Path.{◌≡◌, refl, sym, ap, ap₂, ◌∙◌}
use Prim.Native.Nat.{ℕ, ◌+◌, ◌≤◌, ◌<◌}
use native.Mathlib.Omega.{arith}
use borrow.Author.Rules.{rules}
use lib.IntN.{pos}
use lib.ListN.{length-set, get_or}
use mir.Syntax.{w32}
use mir.Facts.{to_z-of_z}
use mir.Val.{SFits, to_z, of_z}
use Rattle.integers.proofs.Held.{passed}
use Rattle.pairs.specs.Pairs.{number_for, carried}
use Rattle.clusters.specs.PairList.{row_start, score}
use Rattle.clusters.specs.Pooling.{added, pooled}
use Rattle.clusters.proofs.PairList.{place_lt, row_lt, row_start_le, score_row}
use Rattle.clusters.proofs.Scored.{list_allowed}
use Rattle.clusters.proofs.Rows.{row_none, row_value}
use Rattle.pooling.proofs.add_row.Goals.{In-loop-j, After-place_of-at}
use Rattle.pooling.proofs.add_row.Goals as goal

-- the slot of the pair of i and j
slot : (c : In-loop-j) → (c.row_start-start.result + c.loop-j.j < row_start c.args.n) × (row_start c.args.n ≤ 528)
slot c = (
  omega (arith, c.row_start-start.ensures, row_lt c.args.n c.args.i c.loop-j.j (omega arith) (omega arith)),
  row_start_le c.args.n c.requires.0.few,
)

-- that of the same names in the second list
other_slot : (c : After-place_of-at) → c.place_of-at.result < row_start c.args.n
other_slot c = let q = c.requires.0 in
    let a = c.args in
    omega (arith, place_lt a.n (get_or a.places.now a.i 0) (get_or a.places.now c.loop-j.j 0) (q.placed a.i (omega arith)) (q.placed c.loop-j.j (omega arith)), c.place_of-at.ensures)

-- what stands there
here : (c : After-place_of-at) → let a = c.args in
    SFits w32 (get_or a.first.now (c.row_start-start.result + c.loop-j.j) (pos 0)) →
    to_z w32 (of_z w32 (get_or a.first.now (c.row_start-start.result + c.loop-j.j) (pos 0))) ≡ score a.first.now a.i c.loop-j.j
here c f = let l = c.args.first.now in
    let j = c.loop-j.j in
    to_z-of_z f ∙ ap (λ (m : ℕ). get_or l (m + j) (pos 0)) c.row_start-start.ensures ∙ sym (score_row l c.args.i j (omega arith))

there : (c : After-place_of-at) → let a = c.args in
    SFits w32 (get_or a.second.now c.place_of-at.result (pos 0)) →
    to_z w32 (of_z w32 (get_or a.second.now c.place_of-at.result (pos 0))) ≡ score a.second.now (get_or a.places.now a.i 0) (get_or a.places.now c.loop-j.j 0)
unfolding score
there c f = let l = c.args.second.now in
    to_z-of_z f ∙ ap (λ (m : ℕ). get_or l m (pos 0)) c.place_of-at.ensures

pub loop-j-init : goal.loop-j-init
loop-j-init c = (omega arith, refl, c.row_start-start.ensures, refl, row_none)

pub overflow_add-start : goal.overflow_add-start
overflow_add-start c = omega (arith, slot (goal.at.overflow_add-start c).In-loop-j)

pub offset_bounds-first-start : goal.offset_bounds-first-start
offset_bounds-first-start c = omega (arith, slot (goal.at.offset_bounds-first-start c).In-loop-j)

pub bounds-first-start : goal.bounds-first-start
bounds-first-start c = omega (arith, slot (goal.at.bounds-first-start c).In-loop-j)

pub offset_bounds-second-at : goal.offset_bounds-second-at
offset_bounds-second-at c = omega (arith, other_slot (goal.at.offset_bounds-second-at c).After-place_of-at, slot (goal.at.offset_bounds-second-at c).In-loop-j)

pub bounds-second-at : goal.bounds-second-at
bounds-second-at c = omega (arith, other_slot (goal.at.bounds-second-at c).After-place_of-at)

pub added-requires : goal.added-requires
added-requires c = let a = c.args in
    let q = c.requires.0 in
    let j = c.loop-j.j in
    let k : j < a.n = omega arith in (
      rw (here (goal.at.added-requires c).After-place_of-at (search rules)) (list_allowed a.n a.first.now q.first_long q.first_allowed a.i j c.requires.1 k),
      rw (there (goal.at.added-requires c).After-place_of-at (search rules)) (list_allowed a.n a.second.now q.second_long q.second_allowed _ _ (q.placed a.i c.requires.1) (q.placed j k)),
    )

pub overflow_add-start-in-loop-j : goal.overflow_add-start-in-loop-j
overflow_add-start-in-loop-j c = omega (arith, slot (goal.at.overflow_add-start-in-loop-j c).In-loop-j)

pub offset_bounds-out-start : goal.offset_bounds-out-start
offset_bounds-out-start c = omega (arith, slot (goal.at.offset_bounds-out-start c).In-loop-j)

pub bounds-out-start : goal.bounds-out-start
bounds-out-start c = omega (arith, slot (goal.at.bounds-out-start c).In-loop-j)

pub loop-j-preserved : goal.loop-j-preserved
unfolding pooled
loop-j-preserved c = let l = c.loop-j in
    let value = passed w32 c.added.type_inv (c.added.ensures ∙ ap₂ (λ u v. number_for (added (carried u) (carried v))) (here (goal.at.loop-j-preserved c).After-place_of-at (search rules)) (there (goal.at.loop-j-preserved c).After-place_of-at (search rules))) in
    (omega arith, refl, l.invariant.2, length-set l.out _ _ ∙ l.invariant.3, row_value l.invariant.4 refl value)
