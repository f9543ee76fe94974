use mathlib.Core.Path.{◌≡◌, sym, ap, ◌∙◌}
use mathlib.Core.Bool.{Bool}
use Prim.Native.Nat.{◌-◌, ◌^◌}
use lib.Dec.{lit<}
use lib.IntN.{ℤ, ◌+ℤ◌}
use mir.Facts.{to_z-of_z}
use mir.Syntax.{w32, w64}
use mir.Val.{SFits, to_z, of_z}
use Rattle.integers.specs.Integers.{eq_z}
use Rattle.integers.specs.Range.{Within}
use Rattle.integers.proofs.Held.{passed}
use Rattle.integers.proofs.Range.{within_fits}
use Rattle.pairs.specs.Pairs.{mark}
use Rattle.pooling.proofs.Sums.{first_marked, second_marked, both_scored, sum_small}
use Rattle.pooling.proofs.added.Goals.{After-from-2}
use Rattle.pooling.proofs.added.Goals as goal

-- what was asked of a number
asked : (x : ℤ) {r v : Bool} → SFits w32 x → r ≡ eq_z (to_z w32 (of_z w32 x)) mark → r ≡ v → eq_z x mark ≡ v
asked x f e t = ap (λ z. eq_z z mark) (sym (to_z-of_z f)) ∙ sym e ∙ t

pub returns-then-is_mark : goal.returns-then-is_mark
returns-then-is_mark c = to_z-of_z c.ranges.x ∙ first_marked _ (asked _ c.ranges.x c.is_mark.ensures c.if-is_mark.true)

pub returns-then-is_mark-2 : goal.returns-then-is_mark-2
returns-then-is_mark-2 c = to_z-of_z c.ranges.y ∙ second_marked _ (asked _ c.ranges.y c.is_mark-2.ensures c.if-is_mark-2.true)

-- both are scored: what they are as numbers of 64 bits, and how large their sum is
module _ (c : After-from-2) where
  first : to_z w64 (of_z w64 c.from.result) ≡ c.args.x
  first = passed w64 c.from.type_inv (c.from.ensures ∙ to_z-of_z c.ranges.x)

  second : to_z w64 (of_z w64 c.from-2.result) ≡ c.args.y
  second = passed w64 c.from-2.type_inv (c.from-2.ensures ∙ to_z-of_z c.ranges.y)

  small : Within (2 ^ 31 - 1) (c.args.x +ℤ c.args.y)
  small = sum_small _ _ c.requires.0 c.requires.1
      (asked _ c.ranges.x c.is_mark.ensures c.if-is_mark.false)
      (asked _ c.ranges.y c.is_mark-2.ensures c.if-is_mark-2.false)

  fits : SFits w64 (c.args.x +ℤ c.args.y)
  fits = within_fits w64 (lit< tt) small

pub overflow_add-from : goal.overflow_add-from
overflow_add-from c = rw (first c, second c) (fits c)

pub narrow-requires : goal.narrow-requires
narrow-requires c = rw (first c, second c, to_z-of_z (fits c)) (small c)

pub returns : goal.returns
returns c =
    let s = (goal.at.returns c).After-from-2 in
    let x = asked _ c.ranges.x c.is_mark.ensures c.if-is_mark.false in
    let y = asked _ c.ranges.y c.is_mark-2.ensures c.if-is_mark-2.false in
    passed w32 c.narrow.type_inv (rw (first s, second s, to_z-of_z (fits s)) at c.narrow.ensures ∙ both_scored _ _ x y)
