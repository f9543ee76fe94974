use mathlib.Core.Path.{◌≡◌, sym, ap, ap₂, ◌∙◌}
use mathlib.Core.List.{List, [], ◌∷◌}
use Prim.Native.Nat.{ℕ, ◌+◌, ◌-◌}
use native.Mathlib.Omega.{arith}
use lib.ListN.{length, take, length-drop}
use lib.Seq.{take_all}
use Rattle.interface.specs.Sheet.{cut}
use Rattle.interface.specs.Calls.{piece_at}
use Rattle.text.proofs.Pieces.{rest, piece_part, pieces_last, pieces_more}
use Rattle.sheet.proofs.split_once.Goals as goal

-- the first piece, as the start of the line
start : (s : List ℕ) (end : ℕ) → end ≡ 0 + length (piece_at 32 s 0) → take end s ≡ piece_at 32 s 0
start s end is =
    let e : end ≡ end - 0 = omega arith in
    ap (λ (k : ℕ). take k s) e ∙ piece_part 32 s 0 end (omega arith) is

pub returns-then-end-line : goal.returns-then-end-line
returns-then-end-line c =
    let s = c.args.line.now in
    pieces_last 32 s 0 _ (omega arith) c.piece_end-end.ensures c.if-end-line.true
    ∙ ap (λ (w : List ℕ). w ∷ []) (sym (start s _ c.piece_end-end.ensures) ∙ take_all _ s c.if-end-line.true)

pub returns : goal.returns
returns c =
    let s = c.args.line.now in
    let e = c.piece_end-end.result in
    let w : piece_at 32 s 0 ≡ take e s = sym (start s e c.piece_end-end.ensures) in
    let t = rest s (e + 1) in
    let more = pieces_more 32 s 0 e (omega arith) c.piece_end-end.ensures c.if-end-line.false in
    (more ∙ ap₂ (λ (x y : List ℕ). x ∷ cut 32 y) w (sym t), omega (arith, ap length t, length-drop (e + 1) s))
