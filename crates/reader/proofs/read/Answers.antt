use mathlib.Core.Path.{sym, ap₂, ◌∙◌}
use mathlib.Core.List.{List, ◌++◌}
use Prim.Native.Nat.{ℕ}
use lib.IntN.{ℤ}
use lib.ListN.{drop}
use native.Mathlib.Omega.{arith}
use Rattle.clusters.proofs.PairList.{row_start_le}
use Rattle.reader.proofs.Answers.{few_entries, accepted_answer, accepted_pairs, accepted_call, pairs_long, pairs_fit}
use Rattle.reader.proofs.read.Goals as goal

pub pair_count-count-requires : goal.pair_count-count-requires
pair_count-count-requires c = few_entries _ (accepted_answer c.in-Some.ensures)

pub slice_bounds-own-end : goal.slice_bounds-own-end
slice_bounds-own-end c = let a = c.in-Some.ensures in
    pairs_fit _ (accepted_answer a) _ c.pair_count-count.ensures (accepted_pairs a c.pair_count-count.ensures)

pub slice_bounds-copy_from_slice-end : goal.slice_bounds-copy_from_slice-end
slice_bounds-copy_from_slice-end c = omega (arith, row_start_le _ (few_entries _ (accepted_answer c.in-Some.ensures)))

pub returns : goal.returns
returns c = let a = c.in-Some.ensures in
    let k = c.pair_count-count.ensures in
    let pairs = accepted_pairs a k in
    let long = k ∙ sym (pairs_long _ (accepted_answer a) pairs) in
    accepted_call a _ pairs (ap₂ (λ (t : List ℤ) (m : ℕ). t ++ drop m c.args.pairs.now) c.copy_from_slice.ensures.after long)
