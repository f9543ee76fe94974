use mathlib.Core.Path.{◌≡◌, sym, ap, subst, ◌∙◌}
use Prim.Native.Nat.{ℕ, ◌+◌, ◌-◌, ◌<◌}
use native.Mathlib.Omega.{arith}
use lib.ListN.{length, drop}
use Rattle.interface.specs.Sheet.{cut}
use Rattle.interface.specs.Calls.{start_of}
use Rattle.reader.proofs.Parts.{Next, piece_next, start_here}
use Rattle.reader.proofs.piece_start.Goals.{After-piece_end-at}
use Rattle.reader.proofs.piece_start.Goals as goal

pub loop-init : goal.loop-init
loop-init c = let e : c.args.i - 0 ≡ c.args.i = omega arith in
    (omega arith, omega (arith, c.requires), omega (arith, ap (start_of (cut 32 c.args.line.now)) e))

-- a further piece stands behind the end that was found
next : (c : After-piece_end-at) →
    let l = c.loop in
    Next 32 c.args.line.now l.at c.piece_end-at.result (c.args.i - l.counter)
next c =
    let l = c.loop in
    piece_next 32 _ l.at _ (c.args.i - l.counter) l.invariant.0 c.piece_end-at.ensures (omega arith) l.invariant.1

pub overflow_add-at : goal.overflow_add-at
overflow_add-at c = omega (arith, (next c).inside)

pub loop-preserved : goal.loop-preserved
loop-preserved c = let l = c.loop in
    let e : c.args.i - l.counter - 1 ≡ c.args.i - (l.counter + 1) = omega arith in
    let line = c.args.line.now in
    let at = c.piece_end-at.result + 1 in (
      omega (arith, (next c).inside),
      subst (λ (k : ℕ). k < length (cut 32 (drop at line))) e (next c).count,
      subst (λ (k : ℕ). at + start_of (cut 32 (drop at line)) k ≡ start_of (cut 32 line) c.args.i) e (sym (next c).start ∙ l.invariant.2),
    )

pub returns : goal.returns
returns c = let l = c.loop in
    sym (start_here _ l.at (c.args.i - l.counter) (omega arith)) ∙ l.invariant.2
