-- A cell read, by the digits or by the whole text.
use mathlib.Core.Path.{◌≡◌, refl, sym, ap, ◌∙◌, subst}
use mathlib.Core.Bool.{Bool, true, false, not, ◌&&◌}
use mathlib.Core.List.{List, [], ◌∷◌, ◌++◌}
use Prim.Native.Nat.{ℕ, ◌+◌, ◌-◌, ◌*◌, ◌≤◌, ◌<◌}
use native.Mathlib.Omega.{arith}
use borrow.Author.Tests.{eqb-true, eqb-false}
use lib.Dec.{T, eqb}
use lib.IntN.{ℤ, pos}
use lib.ListN.{length, get_or}
use Rattle.lists.proofs.Tests.{true_T}
use Rattle.pairs.specs.declared.Pair.{Pair}
use Rattle.pairs.specs.Pairs.{list_number}
use Rattle.answers.specs.declared.Cursor.{Cursor}
use Rattle.interface.specs.Sheet.{is_cell, pair_said}
use Rattle.interface.specs.Calls.{piece_at}
use Rattle.text.proofs.Pieces.{piece_step, piece_on, piece_part}
use Rattle.text.proofs.Values.{Got}
use lib.Seq.{take_all}
use Rattle.accept.specs.Places.{part, Run, Half, Said, CellAt, BothAt}
use Rattle.accept.proofs.Parts.{part_length, part_two}
use Rattle.accept.proofs.Texts.{run_said, run_half}

-- the byte behind a piece
piece_ends : (c : ℕ) (s : List ℕ) (from end : ℕ) → end ≡ from + length (piece_at c s from) → end < length s → get_or s end 0 ≡ c
piece_ends c s from end is h = go (eqb (get_or s end 0) c) refl
  where
    none : length (piece_at c s end) ≡ 0
    none = let e = piece_on c s from (length (piece_at c s from)) (omega arith) in
        let z : length (piece_at c s (from + length (piece_at c s from))) ≡ 0 = omega (arith, e) in
        ap (λ (k : ℕ). length (piece_at c s k)) is ∙ z

    go : (x : Bool) → eqb (get_or s end 0) c ≡ x → get_or s end 0 ≡ c
    go true e = eqb-true (get_or s end 0) c e
    go false e = absurd (omega (arith, none, ap length (piece_step c s end h (eqb-false (get_or s end 0) c e))))

-- a text up to its end, read whole
pub any_cell : {s : List ℕ} {p stop end : ℕ} {pr : Pair} {next : Cursor} {z : ℤ} → p ≤ length s → end ≡ p + length (piece_at stop s p) → end < length s
    → Got (part s p (end - p)) 0 pr next → next.at ≡ end - p → z ≡ list_number pr → CellAt s p stop z next.at
any_cell {s} {p} {stop} {end} {pr} {next} {z} within is h g size number =
    let n : length line ≡ end - p = part_length s p (end - p) (omega arith) in
    let y : p + next.at ≡ end = omega (arith, size) in
    let whole : piece_at 32 line 0 ≡ line =
    sym (piece_part 32 line 0 next.at (omega arith) g.end) ∙ take_all (next.at - 0) line (omega (arith, size, n)) in
    record {
      inside = omega (arith, y);
      ended = ap (λ (k : ℕ). get_or s k 0) y ∙ piece_ends stop s p end is h;
      said = subst (λ (k : ℕ). Said s p z k) (sym size) (record {
        good = subst (λ (w : List ℕ). T (is_cell w)) whole (true_T g.good);
        number = number ∙ g.number ∙ ap (λ (w : List ℕ). list_number (pair_said w)) whole;
      });
    }
  where
    line : List ℕ
    line = part s p (end - p)

said_same : {s : List ℕ} {p q k : ℕ} {z : ℤ} → Said s p z k → part s p k ≡ part s q k → Said s q z k
said_same a e = record {
  good = subst (λ (w : List ℕ). T (is_cell w)) e a.good;
  number = a.number ∙ ap (λ (w : List ℕ). list_number (pair_said w)) e;
}

-- the same text at another place
pub both_of : {s : List ℕ} {p q stop other k : ℕ} {z : ℤ} → CellAt s p stop z k → q + k < length s → get_or s (q + k) 0 ≡ other → part s p k ≡ part s q k
    → BothAt s p q stop other z k
both_of c h b e = record { near = c; far = record { inside = h; ended = b; said = said_same c.said e }; same = e }

-- digits alone, or with `.5`
pub some_digits : (k : ℕ) → eqb k 0 ≡ false → 0 < k
some_digits k e = let f = eqb-false k 0 e in omega arith

module _ {s : List ℕ} {p q v k : ℕ} (r : Run s p q v k) (room : p + 10 ≤ length s) (far : q + 10 ≤ length s)
    (e : (eqb (get_or s p 0) 48 && not (eqb k 1)) ≡ false) (o : 0 < k) where
  pub both_run : {stop other : ℕ} → get_or s (p + k) 0 ≡ stop → get_or s (q + k) 0 ≡ other → BothAt s p q stop other (pos (v * 2)) k
  both_run b d =
      let h : p + k < length s = omega (arith, r.few) in
      both_of (record { inside = h; ended = b; said = run_said r h o e }) (omega (arith, r.few)) d r.same

  pub both_half : {stop other : ℕ} → Half s (p + k) stop → Half s (q + k) other → BothAt s p q stop other (pos (v * 2 + 1)) (k + 2)
  both_half {stop} {other} a d =
      let h : p + k < length s = omega (arith, r.few) in
      let two = part_two s p k (omega (arith, r.few)) a.point a.five in
      let too = part_two s q k (omega (arith, r.few)) d.point d.five in
      let y : p + (k + 2) ≡ p + k + 2 = omega arith in
      let z : q + (k + 2) ≡ q + k + 2 = omega arith in
      both_of
      (record { inside = omega (arith, r.few); ended = ap (λ (i : ℕ). get_or s i 0) y ∙ a.ended; said = run_half r h o e two })
      (omega (arith, r.few))
      (ap (λ (i : ℕ). get_or s i 0) z ∙ d.ended)
      (two ∙ ap (λ (l : List ℕ). l ++ (46 ∷ 53 ∷ [])) r.same ∙ sym too)
