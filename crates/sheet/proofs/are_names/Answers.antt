use mathlib.Core.Path.{◌≡◌, ap, ◌∙◌}
use mathlib.Core.Bool.{true, false}
use Prim.Native.Nat.{ℕ}
use lib.Dec.{eqb}
use borrow.Author.Rules.{rules}
use borrow.Author.Tests.{tests}
use Rattle.std.proofs.lemmas.Iterator.{cases_from_all}
use Rattle.std.proofs.lemmas.Iterator.Splits.{YieldsList-from_slice_split}
use Rattle.lists.specs.Lists.{all}
use Rattle.interface.specs.Sheet.{is_name}
use Rattle.sheet.proofs.Names.{split_cut, all_tested}
use Rattle.sheet.proofs.are_names.Goals as goal

pub returns : goal.returns
returns c =
    let s = c.args.line.now in
    all_tested is_name _ _ (cases_from_all _ _ _ (λ w. is_name w ≡ true) (λ w. is_name w ≡ false) c.all.ensures.ran
    (YieldsList-from_slice_split _ (λ (b : ℕ). eqb b 32) s c.split.ensures.rest c.split.ensures.done c.split.ensures.closure (λ x b q k. search (rules, tests)))
    (λ x q k. search (rules, tests)) (λ x q k. search (rules, tests)))
    ∙ ap (all is_name) (split_cut 32 s)
