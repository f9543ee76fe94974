use mathlib.Core.List.{map}
use mathlib.Core.Path.{◌≡◌, refl, ap, ◌∙◌}
use mathlib.Core.Bool.{true, false, not, cond}
use Prim.Native.Nat.{ℕ, ◌+◌, ◌*◌, ◌≤◌, ◌<◌}
use mathlib.Core.List.{List}
use lib.ListN.{length, drop}
use native.Mathlib.Omega.{arith}
use borrow.Author.Tests.{not-true, not-false}
use borrow.Author.Rules.{rules}
use lib.Seq.{sets}
use Rattle.std.proofs.lemmas.Result.{err_from_is_err_and}
use Rattle.answers.proofs.Answers.{number_above}
use Rattle.lists.proofs.Walk.{started, next_below, failed_below, ended_below}
use Rattle.interface.specs.Sheet.{cut, lines, entries, words, value}
use Rattle.interface.specs.Calls.{piece_at}
use Rattle.interface.specs.Refusals.{is_row, wrong_lines}
use Rattle.reader.specs.Square.{number_said}
use Rattle.reader.proofs.Rows.{row_length, refuses, passes}
use Rattle.reader.proofs.Values.{Line, line_count, line_at, first_at, line_words_lem, values_tested, square_next, value_at_lem}
use Rattle.reader.proofs.read_rows.Goals.{After-line_end-at}
use Rattle.reader.proofs.read_rows.Goals as goal

-- line 1 ends within the sheet
first : (c : After-line_end-at) → Line c.args.sheet.now 0 c.line_end-at.result 0
first c =
    let s = c.args.sheet.now in
    line_at s 0 _ 0 (omega arith) c.line_end-at.ensures (first_at s) (omega (arith, line_count s c.requires.2))

pub overflow_add-at : goal.overflow_add-at
overflow_add-at c = omega (arith, (first c).inside)

pub loop-i-init : goal.loop-i-init
loop-i-init c = let s = c.args.sheet.now in
    (omega arith, omega (arith, (first c).inside), (first c).next, started, λ a b p q. absurd (omega arith), search rules)

-- the line of a turn
line : (s : List ℕ) (n i : ℕ) {at end : ℕ} → n ≡ entries s → wrong_lines s ≡ false → i < n → at ≤ length s
    → end ≡ at + length (piece_at 10 s at) → cut 10 (drop at s) ≡ drop (i + 1) (lines s) → Line s at end (i + 1)
line s n i {at} {end} is right more within stop here = line_at s at end (i + 1) within stop here (omega (arith, line_count s right))

pub slice_bounds-read_row-end : goal.slice_bounds-read_row-end
slice_bounds-read_row-end c = let l = c.loop-i in
    let t = line c.args.sheet.now c.args.n l.i c.requires.0 c.requires.2 (omega arith) l.invariant.1 c.line_end-end.ensures l.invariant.2 in
    omega (arith, t.inside)

pub returns-in_err-read_row : goal.returns-in_err-read_row
returns-in_err-read_row c = let l = c.loop-i in
    let s = c.args.sheet.now in
    let n = c.args.n in
    let t = line s n l.i c.requires.0 c.requires.2 (omega arith) l.invariant.1 c.line_end-end.ensures l.invariant.2 in
    let p = err_from_is_err_and c.from_residual.result c.from_residual.ensures.1 in
    let answer = c.in_err-read_row.ensures.value ∙ ap (λ ws. cond (not (is_row n ws)) 8 0) (line_words_lem s _ _ _ t) in
    let wrong = refuses _ _ answer (λ z. let above = number_above c.in_err-read_row.field-0.0 in omega (arith, above, z)) in
    let eight = answer ∙ ap (λ b. cond b 8 0) wrong in
    rw (p.1, p.2) (record {
      value = eight ∙ values_tested s n c.requires.0 (failed_below l.invariant.3 (omega arith) (not-true _ wrong));
      holds = tt;
    })

pub loop-i-preserved : goal.loop-i-preserved
loop-i-preserved c = let l = c.loop-i in
    let s = c.args.sheet.now in
    let n = c.args.n in
    let t = line s n l.i c.requires.0 c.requires.2 (omega arith) l.invariant.1 c.line_end-end.ensures l.invariant.2 in
    let ws = line_words_lem s _ _ _ t in
    let answer = c.in_ok-read_row.ensures.value ∙ ap (λ ws. cond (not (is_row n ws)) 8 0) ws in
    let y : is_row n (words s l.i) ≡ true = not-false _ (passes _ _ answer refl) in
    let m = c.in_ok-read_row.ensures.values_after ∙ ap (λ ws. sets l.values (l.i * 32) (map number_said ws)) ws in (
      omega arith,
      omega (arith, t.inside),
      t.next,
      next_below l.invariant.3 (omega arith) y,
      square_next (value s) l.values _ (words s l.i) n l.i (omega arith) (omega arith) l.invariant.5
          (row_length n _ y) m (value_at_lem s l.i) l.invariant.4,
      c.read_row.array_long,
    )

pub returns : goal.returns
returns c = let a = c.args in
    let l = c.loop-i in
    record {
      value = values_tested a.sheet.now a.n c.requires.0 (ended_below l.invariant.3 (omega arith));
      holds = λ i j p q. l.invariant.4 i j (omega arith) q;
    }
