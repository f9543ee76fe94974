use mathlib.Core.Path.{sym, ap, ◌∙◌}
use lib.ListN.{take}
use Rattle.clusters.specs.PairList.{row_start}
use Rattle.interface.specs.Sheet.{entries}
use Rattle.reader.proofs.Answers.{accepted_answer, accepted_pairs, slots_pairs}
use Rattle.reader.proofs.read_own.Goals as goal

pub returns : goal.returns
returns c =
    let s = c.args.sheet.now in
    let r = c.read_checked.ensures in
    record { answered = r.answered; first = λ e. ap (take (row_start (entries s))) r.written ∙ slots_pairs s _ e }

pub returns-in-Some : goal.returns-in-Some
returns-in-Some c =
    let a = c.in-Some.ensures in
    record { answered = accepted_answer a; first = λ _. accepted_pairs a (ap row_start (sym a.count)) }
