use mathlib.Core.Path.{sym, ◌∙◌}
use Rattle.std.proofs.lemmas.Option.{IfSome_then}
use Rattle.accept.specs.declared.Names.{Names}
use Rattle.accept.specs.Names.{LineRead, NamesRead}
use Rattle.accept.proofs.read_names.Goals as goal

pub returns : goal.returns
returns c =
    let s = c.args.sheet.now in
    IfSome_then c.read_line.result {P = λ (n : Names). LineRead s n.count n.next} {Q = λ (n : Names). NamesRead s n.count n.next} c.read_line.ensures
    (λ n line. record { right = sym c.wrong_length.ensures ∙ c.if-wrong_length.false; line = line })
