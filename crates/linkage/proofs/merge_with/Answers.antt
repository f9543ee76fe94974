use mathlib.Core.Path.{◌≡◌, refl, sym, ap, ◌∙◌}
use Prim.Native.Nat.{◌-◌, ◌≤◌, ◌<◌}
use native.Mathlib.Omega.{arith}
use lib.ListN.{length, get_or, take}
use lib.Seq.{get_or-take, length-take-le}
use Rattle.clusters.specs.PairList.{score}
use Rattle.clusters.proofs.PairList.{score_symm, score_element}
use Rattle.clusters.proofs.Exists.{count_singles}
use Rattle.links.specs.Table.{Small, Weights}
use Rattle.linkage.specs.Blocks.{blocks_of}
use Rattle.linkage.specs.Steps.{weight}
use Rattle.linkage.proofs.Places.{length_merged_at}
use Rattle.linkage.proofs.Updates.{own_start}
use Rattle.linkage.proofs.Choice.{weighed_singles, weighed_merged}
use Rattle.linkage.proofs.Runs.{run_start, run_small, run_weights, run_next, run_end}
use Rattle.linkage.proofs.merge_with.Goals.{In-loop-slot}
use Rattle.linkage.proofs.merge_with.Goals as goal

short : (c : In-loop-slot) → c.loop-slot.blocks.count ≤ 32
short c = omega (arith, c.loop-slot.invariant.left, c.requires.0.1)

small : (c : In-loop-slot) → Small c.loop-slot.blocks.count c.loop-slot.table
small c =
    let a = c.args in
    let p = c.requires.0 in
    let l = c.loop-slot in
    run_small a.method a.n (score a.pairs.now) (score_symm a.pairs.now)
    l.invariant.run p.1 l.blocks.count l.invariant.many (omega (arith, l.invariant.left, p.1))
    (λ x y hx hy. p.3 (score a.pairs.now x y) (score_element a.n a.pairs.now p.2 hx hy))

weights : (c : In-loop-slot) → Weights c.loop-slot.blocks.count c.loop-slot.weights
weights c =
    let l = c.loop-slot in
    let a = c.args in
    run_weights a.method a.n (score a.pairs.now) (score_symm a.pairs.now) l.invariant.run
    c.requires.0.1 l.blocks.count l.invariant.many l.weights l.invariant.weighed

-- a slot for each merge, and one for this
room : (c : In-loop-slot) → c.loop-slot.slot-index < length (take (c.args.n - 1) c.args.out.now)
room c = omega (arith, c.loop-slot-test.true, c.loop-slot.auto.slot-items)

pub loop-slot-init : goal.loop-slot-init
loop-slot-init c =
    let a = c.args in
    let f = c.fill in
    let b = c.singles-blocks in record {
      left = omega (arith, b.ensures.0);
      many = ap length b.ensures.1 ∙ count_singles a.n ∙ sym b.ensures.0;
      weighed = weighed_singles a.method a.n c.requires.0.1 b.ensures.0 b.ensures.1;
      run = rw b.ensures.1 (run_start a.method a.n (score a.pairs.now) (take (a.n - 1) a.out.now) f.ensures.0 (own_start a.n c.requires.0.1 c.requires.2 f.ensures.1));
      room = refl;
    }

pub greatest-i-requires : goal.greatest-i-requires
greatest-i-requires c = let s = (goal.at.greatest-i-requires c).In-loop-slot in
    (omega (arith, s.loop-slot.invariant.left, room s, length-take-le (c.args.n - 1) c.args.out.now c.requires.0.4), short s, small s, weights s)

pub join_rows-requires : goal.join_rows-requires
join_rows-requires c = let g = c.greatest-i.ensures in
    let s = (goal.at.join_rows-requires c).In-loop-slot in
    (g.rising, g.inside, short s, small s)

pub loop-slot-preserved : goal.loop-slot-preserved
loop-slot-preserved c =
    let s = (goal.at.loop-slot-preserved c).In-loop-slot in
    let a = c.args in
    let l = c.loop-slot in
    let g = c.greatest-i in
    let m = c.merge-blocks in
    let bs = blocks_of l.blocks in
    let inside : g.result.j < length bs = omega (arith, g.ensures.inside, l.invariant.many) in
    -- the union is what the merge left at i
    let union : get_or m.result.sets g.result.i 0 ≡ get_or (blocks_of m.result) g.result.i 0 =
    sym (get_or-take m.result.count m.result.sets g.result.i 0 (omega (arith, m.ensures.0, g.ensures.rising, g.ensures.inside))) in record {
      left = omega (arith, l.invariant.left, m.ensures.0, g.ensures.rising, g.ensures.inside);
      many = ap length m.ensures.1 ∙ length_merged_at g.result.i g.result.j bs g.ensures.rising inside ∙ omega (arith, l.invariant.many, m.ensures.0);
      weighed = weighed_merged l.invariant.weighed l.invariant.many (short s) g.result.i g.result.j g.ensures.rising g.ensures.inside
          m.ensures.0 m.ensures.1 (c.weight.ensures ∙ ap (weight a.method) union) c.merge_weights.ensures;
      run = run_next a.method a.n (score a.pairs.now) (score_symm a.pairs.now) l.invariant.run c.requires.0.1 l.blocks.count l.invariant.many
          l.weights l.invariant.weighed g.ensures (short s) (small s) (room s) c.join_rows.ensures c.move_row.ensures m.ensures.1 union;
      room = c.move_row.ensures.size ∙ c.join_rows.ensures.size ∙ l.invariant.room;
    }

pub returns : goal.returns
returns c = let l = c.loop-slot in
    let a = c.args in
    let full = length-take-le (a.n - 1) a.out.now c.requires.0.4 in
    let e : l.slot-index ≡ a.n - 1 = omega (arith, c.loop-slot-test.false, l.auto.slot-index-end, l.auto.slot-items, full) in
    run_end a.method a.n a.pairs.now a.out.now l.invariant.run c.requires.0.4 (omega (arith, e, c.requires.0.0, l.invariant.left, l.invariant.many)) e
