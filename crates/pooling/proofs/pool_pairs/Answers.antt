use mathlib.Core.Path.{◌≡◌, refl, sym, subst, subst₂}
use Rattle.std.specs.Prelude.{Option, Some, None}
use mathlib.Core.List.{List}
use Prim.Native.Nat.{ℕ, ◌+◌}
use native.Mathlib.Omega.{arith}
use lib.IntN.{ℤ}
use lib.ListN.{length, take}
use Rattle.interface.specs.Sheet.{space, cut, names}
use Rattle.interface.specs.Calls.{piece_at}
use Rattle.sheet.proofs.Lines.{line_length}
use Rattle.pooling.specs.Pools.{AcceptedSheet, PlacesOn, Placed}
use Rattle.pooling.proofs.Sheets.{few, line_names, line_count, line_named, other_count, other_names, addable, pool_written}
use Rattle.arrayvec.specs.ArrayVec.{ArrayVec}
use Rattle.pooling.proofs.pool_pairs.Goals.{After-as_slice}
use Rattle.pooling.proofs.pool_pairs.Goals as goal

-- the places of the first's names on the second
found : {first second : List ℕ} {n m : ℕ} {scores others : List ℤ} (a : AcceptedSheet first n scores) (b : AcceptedSheet second m others)
    {end end2 : ℕ} → end ≡ 0 + length (piece_at 10 first 0) → end2 ≡ 0 + length (piece_at 10 second 0) → (r : Option (ArrayVec ℕ))
    → PlacesOn (cut space (take end first)) (cut space (take end2 second)) r → PlacesOn (names first) (names second) r
found a b is is2 r p = subst₂ (λ (ns ms : List (List ℕ)). PlacesOn ns ms r) (line_names a _ is) (line_names b _ is2) p

placed : (c : After-as_slice) → Placed (names c.args.first.now) (names c.args.second.now) c.as_slice.result.now
placed c = let (a, b) = c.requires in
    subst (Placed (names c.args.first.now) (names c.args.second.now)) (sym c.as_slice.ensures.value)
    (found a b c.line_end-end.ensures c.line_end-end2.ensures (Some c.in-Some.places) c.in-Some.ensures)

pub returns-then-n-m : goal.returns-then-n-m
returns-then-n-m c = other_count c.requires.0 c.requires.1 _ (λ e. omega arith)

pub slice_bounds-places_on-end : goal.slice_bounds-places_on-end
slice_bounds-places_on-end c = line_length _ _ c.line_end-end.ensures

pub slice_bounds-places_on-end-2 : goal.slice_bounds-places_on-end-2
slice_bounds-places_on-end-2 c = line_length _ _ c.line_end-end2.ensures

pub places_on-requires : goal.places_on-requires
places_on-requires c = let a = c.requires.0 in
    omega (arith, few a, line_count a _ c.line_end-end.ensures)

pub returns-in_default : goal.returns-in_default
returns-in_default c = let (a, b) = c.requires in
    other_names a b _ (found a b c.line_end-end.ensures c.line_end-end2.ensures None c.in_default.ensures)

pub slice_bounds-write_added-end : goal.slice_bounds-write_added-end
slice_bounds-write_added-end c = line_length _ _ c.line_end-end.ensures

pub write_added-requires : goal.write_added-requires
write_added-requires c = let (a, b) = c.requires in
    let is = c.line_end-end.ensures in
    (line_count a _ is, line_named a _ is, addable a b (omega arith) (placed (goal.at.write_added-requires c).After-as_slice))

pub returns : goal.returns
returns c = let (a, b) = c.requires in
    let same : c.args.n ≡ c.args.m = omega arith in
    pool_written a b same (placed (goal.at.returns c).After-as_slice) _ refl _ c.line_end-end.ensures c.write_added.ensures
