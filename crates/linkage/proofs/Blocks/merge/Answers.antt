use mathlib.Core.Path.{◌≡◌, refl}
use native.Mathlib.Omega.{arith}
use borrow.Author.Rules.{rules}
use lib.ListN.{length}
use Rattle.linkage.proofs.Merging.{stores}
use Rattle.linkage.proofs.Blocks.merge.Goals as goal

pub returns : goal.returns
returns c = let a = c.args in
    -- what the array's type says of its length
    let e : length a.self.sets ≡ 32 = search rules in
    (refl, rw c.union.ensures (stores a.self.sets a.self.count a.i a.j (omega arith) (omega arith) (omega arith)))
