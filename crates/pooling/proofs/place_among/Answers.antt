use mathlib.Core.Path.{◌≡◌, sym, ◌∙◌, subst}
use mathlib.Core.Bool.{true, false}
use mathlib.Core.List.{List}
use Prim.Native.Nat.{ℕ}
use lib.Dec.{eqb}
use borrow.Author.Rules.{rules}
use borrow.Author.Tests.{tests}
use Rattle.std.proofs.lemmas.Iterator.{IsFirst-from_position}
use Rattle.std.proofs.lemmas.Iterator.Splits.{YieldsList-from_slice_split}
use Rattle.interface.specs.Sheet.{same_bytes}
use Rattle.sheet.proofs.Names.{split_cut, bytes_same}
use Rattle.pooling.specs.Pools.{PlaceAmong}
use Rattle.pooling.proofs.Places.{searched}
use Rattle.pooling.proofs.place_among.Goals as goal

pub returns : goal.returns
returns c =
    let s = c.args.line.now in
    let w = c.args.word.now in
    subst (λ (ws : List (List ℕ)). PlaceAmong w ws c.position.result) (split_cut 32 s)
    (searched w _ _ (IsFirst-from_position _ _ _ (λ v. same_bytes w v ≡ true) (λ v. same_bytes w v ≡ false) c.position.ensures.ran
    (YieldsList-from_slice_split _ (λ (b : ℕ). eqb b 32) s c.split.ensures.rest c.split.ensures.done c.split.ensures.closure (λ x b q k. search (rules, tests)))
    (λ x q k. sym (bytes_same w x.now) ∙ search (rules, tests)) (λ x q k. (search (rules, tests), sym (bytes_same w x.now) ∙ search (rules, tests)))))
