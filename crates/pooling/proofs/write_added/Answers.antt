use mathlib.Core.Path.{◌≡◌, sym, ap, ◌∙◌, subst}
use mathlib.Core.List.{List, ◌++◌}
use Prim.Native.Nat.{ℕ}
use native.Mathlib.Omega.{arith}
use lib.IntN.{ℤ}
use lib.ListN.{length, take, length-take}
use lib.Seq.{take_at}
use Rattle.clusters.specs.PairList.{row_start, Similarity, pair_list}
use Rattle.clusters.proofs.PairList.{length_pair_list, row_start_le}
use Rattle.pooling.specs.Pools.{SumsWritten}
use Rattle.pooling.proofs.write_added.Goals as goal

-- the sums are the pair list of the pool
sums : (n : ℕ) (v : Similarity) (rest : List ℤ) {out : List ℤ} {count : ℕ} → out ≡ pair_list n v ++ rest → count ≡ row_start n
    → take count out ≡ pair_list n v
sums n v rest {count = count} e is = ap (take count) e ∙ take_at (pair_list n v) rest count (length_pair_list n v ∙ sym is)

pub add-requires : goal.add-requires
add-requires c = let a = c.requires.2 in (a, row_start_le c.args.n a.few)

pub pair_count-count-requires : goal.pair_count-count-requires
pair_count-count-requires c = c.requires.2.few

pub slice_bounds-sums-end : goal.slice_bounds-sums-end
slice_bounds-sums-end c = let k = c.pair_count-count in
    let long = ap length (sums c.args.n _ _ c.add.ensures k.ensures) ∙ length_pair_list _ _ ∙ sym k.ensures in
    omega (arith, long, length-take k.result c.add.new.out)

pub slice_bounds-write_sums-end : goal.slice_bounds-write_sums-end
slice_bounds-write_sums-end c = let k = c.pair_count-count.ensures in
    k ∙ sym (ap length (sums c.args.n _ _ c.add.ensures k) ∙ length_pair_list _ _)

pub write_sums-requires : goal.write_sums-requires
write_sums-requires c = let r = c.requires in
    (r.2.few, r.0, r.1, ap length (sums c.args.n _ _ c.add.ensures c.pair_count-count.ensures) ∙ length_pair_list _ _)

pub returns : goal.returns
returns c = let a = c.args in
    subst (λ (l : List ℤ). SumsWritten a.line.now l a.out.now c.write_sums.result c.write_sums.new.out)
    (sums a.n _ _ c.add.ensures c.pair_count-count.ensures) c.write_sums.ensures
