use mathlib.Core.Path.{◌≡◌, sym, ap, ◌∙◌}
use mathlib.Core.Bool.{true, false}
use Prim.Native.Nat.{ℕ}
use lib.Dec.{eqb}
use borrow.Author.Rules.{rules}
use borrow.Author.Tests.{tests}
use Rattle.std.proofs.lemmas.Iterator.{cases_from_any}
use Rattle.std.proofs.lemmas.Iterator.Splits.{YieldsList-from_slice_split}
use Rattle.interface.specs.Sheet.{same_bytes, is_among}
use Rattle.sheet.proofs.Names.{split_cut, among_tested, bytes_same}
use Rattle.sheet.proofs.is_among.Goals as goal

pub returns : goal.returns
returns c =
    let s = c.args.line.now in
    let w = c.args.word.now in
    among_tested w _ _ (cases_from_any _ _ _ (λ p. same_bytes w p ≡ true) (λ p. same_bytes w p ≡ false) c.any.ensures.ran
    (YieldsList-from_slice_split _ (λ (b : ℕ). eqb b 32) s c.split.ensures.rest c.split.ensures.done c.split.ensures.closure (λ x b q k. search (rules, tests)))
    (λ x q k. sym (bytes_same w x.now) ∙ search (rules, tests)) (λ x q k. (search (rules, tests), sym (bytes_same w x.now) ∙ search (rules, tests))))
    ∙ ap (is_among w) (split_cut 32 s)
