use mathlib.Core.Path.{◌≡◌, ◌∙◌, subst}
use mathlib.Core.List.{List}
use Prim.Native.Nat.{ℕ, ◌<◌}
use native.Mathlib.Omega.{arith}
use borrow.Author.Rules.{rules}
use borrow.Author.Tests.{tests}
use lib.Dec.{eqb}
use lib.ListN.{length, get_or, length-map}
use Rattle.std.proofs.lemmas.List.{map_push}
use Rattle.std.proofs.lemmas.Iterator.Consumers.{YieldsList-turn, YieldsList-end}
use Rattle.std.proofs.lemmas.Iterator.Splits.{YieldsList-from_slice_split}
use Rattle.interface.specs.Sheet.{cut}
use Rattle.sheet.proofs.Names.{split_cut}
use Rattle.pooling.specs.Pools.{Placed}
use Rattle.pooling.proofs.Places.{none_placed, as_many, one_more, one_missing}
use Rattle.pooling.proofs.places_on.Goals.{In-Some}
use Rattle.pooling.proofs.places_on.Goals as goal

pub loop-name-init : goal.loop-name-init
loop-name-init c = none_placed _ c.new-places.ensures

-- the name that the loop is at
turn : (c : In-Some) → let names = cut 32 c.args.first.now in
    (length c.loop-name.yielded < length names) × (c.in-Some.name.now ≡ get_or names (length c.loop-name.yielded) c.in-Some.name.now)
turn c = let first = c.args.first.now in
    let name = c.in-Some.name in
    let at = c.loop-name in
    subst (λ (ws : List (List ℕ)). (length at.yielded < length ws) × (name.now ≡ get_or ws (length at.yielded) name.now)) (split_cut 32 first)
    (YieldsList-turn (YieldsList-from_slice_split {s = c.into_iter-name-iterator.result} _ (λ (b : ℕ). eqb b 32) first (cc) (cc) (cc) (λ x b q k. search (rules, tests)))
    at.yielded at.name-iterator at.yielded_by c.next.result c.next.new.self name c.in-Some.is c.next.ensures.steps)

pub push-requires : goal.push-requires
push-requires c = let t = turn (goal.at.push-requires c).In-Some in
    omega (arith, t.0, as_many _ c.loop-name.invariant, length-map c.loop-name.yielded (λ w. w.now), c.requires)

pub returns-in_err-place_among : goal.returns-in_err-place_among
returns-in_err-place_among c = let (h, e) = turn (goal.at.returns-in_err-place_among c).In-Some in
    rw c.from_residual.ensures (one_missing _ (cut 32 c.args.first.now) _ h e (c.in_err-place_among.ensures))

pub loop-name-preserved : goal.loop-name-preserved
loop-name-preserved c = rw map_push (one_more _ c.loop-name.invariant _ c.in_ok-place_among.ensures c.push.ensures.items)

pub returns : goal.returns
returns c = let first = c.args.first.now in
    let second = c.args.second.now in
    let at = c.loop-name in
    let end = YieldsList-end (YieldsList-from_slice_split {s = c.into_iter-name-iterator.result} _ (λ (b : ℕ). eqb b 32) first (cc) (cc) (cc) (λ x b q k. search (rules, tests)))
    at.yielded at.name-iterator at.yielded_by c.next.result c.next.new.self c.in-None.is c.next.ensures.steps in
    subst (λ (ws : List (List ℕ)). Placed ws (cut 32 second) at.places.items) (end.0 ∙ split_cut 32 first) at.invariant
