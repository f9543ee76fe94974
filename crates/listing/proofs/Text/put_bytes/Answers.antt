use mathlib.Core.Path.{refl}
use native.Mathlib.Omega.{arith}
use Rattle.listing.proofs.Puts.{copied_into, stored}
use Rattle.listing.proofs.Text.put_bytes.Goals as goal

pub returns : goal.returns
returns c = let a = c.args in
    stored a.bytes.now refl refl (copied_into a.self.now.out.now a.bytes.now a.self.now.at c.copy_from_slice.ensures.after (omega arith) c.requires)
