use mathlib.Core.Path.{refl, sym, ap, ◌∙◌}
use mathlib.Core.Bool.{not}
use lib.ListN.{length}
use Rattle.answers.specs.declared.Refusal.TheVariants.{SumOutOfRange}
use Rattle.answers.proofs.WaysOut.{refused}
use Rattle.interface.proofs.Refusals.{gives, first_yes, first_no}
use Rattle.listing.specs.Over.{over_refusal}
use Rattle.listing.proofs.Puts.{written}
use Rattle.listing.proofs.Over.{handed_over}
use Rattle.pooling.specs.Pools.{sheet_of, sums_refusal}
use Rattle.pooling.proofs.Texts.{line_room}
use Rattle.pooling.proofs.write_sums.Goals as goal

pub returns-then-not-scores_in_range : goal.returns-then-not-scores_in_range
unfolding sums_refusal
returns-then-not-scores_in_range c = let text = sheet_of c.args.line.now c.args.sums.now in
    let asked = ap not (sym c.scores_in_range.ensures ∙ c.if-not-scores_in_range.true) in
    let (a, w) = refused (length text) text c.args.out.now {e = SumOutOfRange} (gives (first_yes asked)) in
    record { answered = a; written = w }

pub write-written-requires-clause-room : goal.write-written-requires-clause-room
write-written-requires-clause-room c = line_room c.args.line.now c.args.n c.requires.0 c.requires.1 c.requires.2

pub returns : goal.returns
unfolding sheet_of sums_refusal over_refusal
returns c =
    let w = c.write-written.ensures in
    let wrote = written _ refl w.value w.out_after in
    let asked = ap not (sym c.scores_in_range.ensures ∙ c.if-not-scores_in_range.false) in
    let (a, t) = handed_over wrote.1 (gives (first_no asked (record { is = refl }))) c.hand_over.ensures in
    record { answered = a; written = t }
