use mathlib.Core.Path.{sym}
use mir.Syntax.{w64}
use Rattle.lists.proofs.Tests.{true_T}
use Rattle.integers.proofs.Held.{passed}
use Rattle.clusters.specs.PairList.{score}
use Rattle.indices.proofs.Triples.{pair_still}
use Rattle.indices.proofs.Nearest.keep_pair.Goals as goal

pub least_weight-requires : goal.least_weight-requires
least_weight-requires c = let (ha, hb, _, _) = c.requires in (ha, hb)

pub returns-else-not-at_most : goal.returns-else-not-at_most
returns-else-not-at_most c =
    let x = c.args.self.now in
    let (ha, hb, ma, mb) = c.requires in
    sym (pair_still x.list.n (score x.list.pairs.now) x.set c.args.kept.now x.near x.fits.1 ha hb ma mb
    (passed w64 c.least_weight.type_inv c.least_weight.ensures) (c.at_most.ensures.unchanged (true_T c.if-not-at_most.false)))
