use mathlib.Core.Path.{◌≡◌, refl, sym, ap, ◌∙◌, subst}
use Prim.Native.Nat.{◌^◌}
use mir.Syntax.{w64}
use Rattle.integers.specs.Integers.{sum}
use Rattle.integers.specs.Range.{Bounded}
use Rattle.integers.proofs.Held.{passed}
use Rattle.sets.specs.Sets.{others}
use Rattle.refined.specs.Kept.{Below, keep_quartets}
use Rattle.refined.proofs.Outside.{others_below}
use Rattle.refined.proofs.Weight.{kept_within, kept_weight, filled_table}
use Rattle.refined.proofs.weight_with.Goals.{After-as_slice}
use Rattle.refined.proofs.weight_with.Goals as goal

-- the entries that the loops are lent
is_outside : (c : After-as_slice) → c.as_slice.result.now ≡ others c.args.n c.args.side
is_outside c = c.as_slice.ensures.value ∙ c.outside_of-outside.ensures

pub invariant_of-split-clause-distances : goal.invariant_of-split-clause-distances
invariant_of-split-clause-distances c = let g = c.requires in
    filled_table g.0.0 g.0.2 c.fill.ensures.0 g.2 c.fill.ensures.1

pub invariant_of-split-clause-entries : goal.invariant_of-split-clause-entries
invariant_of-split-clause-entries c =
    subst (Below c.args.n) (sym (is_outside (goal.at.invariant_of-split-clause-entries c).After-as_slice)) (others_below c.args.n c.args.side)

pub total-requires : goal.total-requires
total-requires c =
    let small = kept_within c.args.pairs.now c.fill.ensures.0 _ c.requires.0.2 _ (is_outside (goal.at.total-requires c).After-as_slice) in
    subst (Bounded (2 ^ 30)) (sym (c.keep_quartets.ensures ∙ ap (keep_quartets _ _ _ _) c.new-kept.ensures)) small

-- the sum of what is kept is the weight
pub returns : goal.returns
returns c = let g = c.requires.0 in
    passed w64 c.total.type_inv
    (c.total.ensures ∙ ap sum (c.keep_quartets.ensures ∙ ap (keep_quartets _ _ _ _) c.new-kept.ensures)
    ∙ kept_weight c.args.pairs.now c.fill.ensures.0 _ g.2 _ (is_outside (goal.at.returns c).After-as_slice) g.3 g.4 refl)
