use mathlib.Core.Path.{◌∙◌}
use native.Mathlib.Omega.{arith}
use lib.IntN.{pos}
use lib.ListN.{length-replicate}
use mir.Syntax.{w64}
use Rattle.integers.proofs.Held.{passed}
use Rattle.indices.proofs.Parted.{cleared, zeros, strong_least}
use Rattle.indices.proofs.Values.{side_member}
use Rattle.indices.proofs.strong_in.Goals as goal

pub least_margin-requires : goal.least_margin-requires
least_margin-requires g c = let (proper, small, fit, _) = c.requires in (
  omega arith,
  (
    (fit, proper, λ x h t. small x h (side_member c.args.set x t)),
    (omega (arith, length-replicate g.row.N (pos 0)), zeros c.args.list.now.n (cleared g.row.N)),
  ),
)

pub returns : goal.returns
returns g c = passed w64 c.least_margin.type_inv (c.least_margin.ensures ∙ strong_least c.args.list.now.pairs.now c.requires.0 (cleared g.row.N))
