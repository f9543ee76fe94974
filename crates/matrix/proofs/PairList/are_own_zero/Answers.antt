use mathlib.Core.Path.{refl, ap, ◌∙◌}
use native.Mathlib.Omega.{arith}
use borrow.Author.Rules.{rules}
use borrow.Author.Tests.{tests}
use Prim.Native.Nat.{ℕ}
use lib.IntN.{pos}
use mir.Facts.{to_z-of_z}
use Rattle.std.proofs.lemmas.Iterator.{YieldsList-from_range, serves_from_Range}
use Rattle.std.proofs.lemmas.Iterator.Search.{all_from_yields_List}
use Rattle.integers.specs.Integers.{eq_z}
use Rattle.integers.proofs.Operators.{same_bits}
use Rattle.clusters.specs.PairList.{score}
use Rattle.lists.specs.Lists.{all}
use Rattle.lists.proofs.Chains.{all_is, below_is}
use Rattle.matrix.proofs.PairList.are_own_zero.Goals as goal

pub all-requires-clause-callable : goal.all-requires-clause-callable
all-requires-clause-callable c = serves_from_Range (λ x q k. search rules)
    (λ x h k. search (rules, k))

pub returns : goal.returns
returns c = let test = λ (a : ℕ). eq_z (score c.args.self.now.pairs.now a a) (pos 0) in
    all_from_yields_List test _ _ c.all.result c.all.ensures.ran (YieldsList-from_range 0 c.args.self.now.n c.args.self.now.n refl (omega arith))
    (λ x b q k. search (rules, tests, to_z-of_z, same_bits))
    ∙ all_is _ _ ∙ ap (all test) (below_is c.args.self.now.n)
