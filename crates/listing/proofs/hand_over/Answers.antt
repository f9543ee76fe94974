use mathlib.Core.Path.{ap}
use mathlib.Core.List.{List, ◌++◌}
use Prim.Native.Nat.{ℕ}
use borrow.Author.Tests.{lt-ltb}
use lib.ListN.{length, drop}
use Rattle.answers.specs.declared.Refusal.TheVariants.{ShortBuffer}
use Rattle.answers.proofs.WaysOut.{refused}
use Rattle.interface.proofs.Refusals.{gives, first_yes}
use Rattle.listing.specs.Over.{over_refusal}
use Rattle.listing.proofs.Over.{copied_over}
use Rattle.listing.proofs.hand_over.Goals as goal

pub returns-then-out-text : goal.returns-then-out-text
unfolding over_refusal
returns-then-out-text c = let a = c.args in
    let (r, w) = refused (length a.text.now) a.text.now a.out.now {e = ShortBuffer} (gives (first_yes (lt-ltb _ _ c.if-out-text.true))) in
    record { answered = r; written = w }

pub returns : goal.returns
returns c = let a = c.args in
    copied_over a.text.now a.out.now c.if-out-text.false (ap (λ (t : List ℕ). t ++ drop (length a.text.now) a.out.now) c.copy_from_slice.ensures.after)
