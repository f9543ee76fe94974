use mathlib.Core.Path.{refl, ◌∙◌}
use native.Mathlib.Omega.{arith}
use borrow.Author.Rules.{rules}
use Rattle.interface.specs.Listing.{first_text, first_line}
use Rattle.listing.proofs.Puts.{then, from_start}
use Rattle.listing.proofs.Lines.{listing_put}
use Rattle.listing.proofs.write.Goals as goal

pub returns : goal.returns
unfolding first_text first_line
returns c = let a = c.args in
    let t = c.new-text.ensures in
    let r = c.put_lines.ensures in
    let put = then c.put_bytes.ensures r.put in
    let p = listing_put 32 a.groups.now a.out.now (from_start a.out.now t.bytes t.place put refl (omega (arith, put.place, r.upper_bound, t.place))) in
    record { value = p.0; out_after = search (rules, put.same_reference, t.same_reference) ∙ p.1 }
