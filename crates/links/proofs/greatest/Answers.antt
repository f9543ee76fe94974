use mathlib.Core.Path.{refl}
use native.Mathlib.Omega.{arith}
use mir.Syntax.{w64}
use Rattle.integers.proofs.Held.{passed}
use Rattle.links.proofs.Search.{found_first}
use Rattle.links.proofs.greatest.Goals as goal

pub loop-j-init : goal.loop-j-init
loop-j-init c = (omega arith, found_first c.args.weights.now c.args.t.now (passed w64 c.get-num.type_inv c.get-num.ensures) refl)
