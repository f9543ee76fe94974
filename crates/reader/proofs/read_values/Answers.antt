use mathlib.Core.Path.{◌≡◌, refl, sym, ap, ◌∙◌}
use mathlib.Core.Bool.{Bool, not, cond}
use mathlib.Core.List.{List}
use Prim.Native.Nat.{ℕ, ◌≤◌}
use native.Mathlib.Omega.{arith}
use Rattle.std.proofs.lemmas.Result.{err_from_is_err_and}
use Rattle.answers.proofs.Answers.{number_above}
use Rattle.interface.specs.Sheet.{entries, value, mirrored}
use Rattle.interface.specs.Refusals.{wrong_count, reader_checks}
use Rattle.interface.proofs.Refusals.{first_yes, first_no, no_more, right_count}
use Rattle.reader.proofs.Before.{is, Left, behind7}
use Rattle.reader.proofs.Rows.{refuses, passes}
use Rattle.reader.proofs.Answers.{mirrored_same, refused, passed}
use Rattle.reader.proofs.read_values.Goals.{Start}
use Rattle.reader.proofs.read_values.Goals as goal

-- the checks before 8 have passed
module _ (c : Start) where
  before : Left c.args.sheet.now 6
  before =
      let (c2, c3, c4, c5) = c.requires.names in
      let (e, c6, c7) = c.requires.rows in
      behind7 _ c2 c3 c4 c5 (sym (ap wrong_count e) ∙ c6) c7

  few : c.args.n ≤ 32
  few = right_count _ c.requires.rows.1

pub read_rows-requires : goal.read_rows-requires
read_rows-requires c = (c.requires.rows.0, few (goal.at.read_rows-requires c).Start, c.requires.rows.2)

pub returns-in_err-read_rows : goal.returns-in_err-read_rows
unfolding reader_checks
returns-in_err-read_rows c =
    let p = err_from_is_err_and c.from_residual.result c.from_residual.ensures.1 in
    let e = c.in_err-read_rows.field-0.0 in
    let wrong = refuses _ _ c.in_err-read_rows.ensures.value (λ z. let above = number_above e in omega (arith, above, z)) in
    let eight = c.in_err-read_rows.ensures.value ∙ ap (λ b. cond b 8 0) wrong in
    rw (p.1, p.2) (refused _ _ {e = e} (rw eight (before (goal.at.returns-in_err-read_rows c).Start _ (first_yes wrong))))

pub is_mirrored-requires : goal.is_mirrored-requires
is_mirrored-requires c = few (goal.at.is_mirrored-requires c).Start

-- check 9 by the square of the values that were read
mirror : (s : List ℕ) {n : ℕ} {r v : Bool} → r ≡ mirrored n (value s) → n ≡ entries s → r ≡ v → not (mirrored (entries s) (value s)) ≡ not v
mirror s e k t = ap not (ap (λ (m : ℕ). mirrored m (value s)) (sym k) ∙ is e t)

pub returns-then-not-is_mirrored : goal.returns-then-not-is_mirrored
unfolding reader_checks
returns-then-not-is_mirrored c = let s = c.args.sheet.now in
    let c8 = passes _ _ c.in_ok-read_rows.ensures.value refl in
    let held = c.in_ok-read_rows.ensures.holds in
    let c9 = mirror s (c.is_mirrored.ensures ∙ mirrored_same _ _ (value s) held) c.requires.rows.0 c.if-not-is_mirrored.true in
    refused _ _ (before (goal.at.returns-then-not-is_mirrored c).Start _ (first_no c8 (first_yes c9)))

pub fill-requires : goal.fill-requires
fill-requires c = few (goal.at.fill-requires c).Start

pub returns : goal.returns
unfolding reader_checks
returns c = let s = c.args.sheet.now in
    let c8 = passes _ _ c.in_ok-read_rows.ensures.value refl in
    let held = c.in_ok-read_rows.ensures.holds in
    let c9 = mirror s (c.is_mirrored.ensures ∙ mirrored_same _ _ (value s) held) c.requires.rows.0 c.if-not-is_mirrored.false in
    let all = before (goal.at.returns c).Start _ (first_no c8 (first_no c9 no_more)) in
    passed _ _ c.args.n c.read_rows.new.values all c.requires.rows.0 held c.fill.ensures
