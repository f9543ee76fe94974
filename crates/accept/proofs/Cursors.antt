-- Where the cells of the value lines start.
use mathlib.Core.Path.{◌≡◌, sym, ap, ◌∙◌, subst}
use mathlib.Core.List.{List, [], ◌∷◌, ◌++◌, append_assoc}
use mathlib.Core.Logic.{◌⊎◌, inl, inr}
use Prim.Native.Nat.{ℕ, suc, ◌+◌, ◌≤◌, ◌<◌}
use native.Mathlib.Omega.{arith}
use lib.IntN.{ℤ}
use lib.ListN.{length, get_or, drop, length-drop}
use lib.Seq.{drop-drop, get_or-drop}
use Rattle.lists.specs.Lists.{all}
use Rattle.lists.proofs.Lists.{drop_first, drop_others}
use Rattle.interface.specs.Sheet.{cut, lines, words}
use Rattle.interface.specs.Calls.{piece_at}
use Rattle.interface.proofs.Pieces.{free, free_append, cut_last, cut_first, cut_front}
use Rattle.interface.proofs.Values.{word_no_space, word_no_feed, cell_word}
use Rattle.text.proofs.Pieces.{pieces_more}
use Rattle.sheet.proofs.Lines.{pieces_from}
use Rattle.accept.specs.Places.{part, cell, CellAt, At, After}
use Rattle.accept.proofs.Parts.{part_split}

-- the start of a line
pub line_start : (s : List ℕ) (i p : ℕ) → p ≤ length s → cut 10 (drop p s) ≡ drop (i + 1) (lines s) → At s i 0 p
unfolding piece_at words
line_start s i p h e =
    let z : i + 1 + 0 ≡ suc i = omega arith in
    let y : i + 1 + 1 ≡ i + 2 = omega arith in
    record {
      inside = h;
      line = pieces_from 10 s p ∙ ap (λ (l : List (List ℕ)). piece_at 10 s p ∷ l) (ap (drop 1) e ∙ drop-drop 1 (i + 1) (lines s) ∙ ap (λ (k : ℕ). drop k (lines s)) y);
      pieces = ap (cut 32) (ap (λ (l : List (List ℕ)). get_or l 0 []) e ∙ get_or-drop (i + 1) (lines s) 0 [] ∙ ap (λ (k : ℕ). get_or (lines s) k []) z);
    }

-- the next line, from a place in this one
pub line_next : {s : List ℕ} {i j p end : ℕ} → At s i j p → end ≡ p + length (piece_at 10 s p) → end < length s → At s (i + 1) 0 (end + 1)
line_next {s} {i} {j} {p} {end} a is h =
    let z : i + 2 ≡ i + 1 + 1 = omega arith in
    line_start s (i + 1) (end + 1) (omega arith)
    (ap (drop 1) (sym (pieces_more 10 s p end a.inside is h) ∙ a.line) ∙ ap (λ (k : ℕ). drop k (lines s)) z)

-- at p starts piece j of the pieces ws of a line; rest are the lines behind it
pub record Line (s : List ℕ) (ws rest : List (List ℕ)) (j p : ℕ) : Type 0 where
  pub inside : p ≤ length s
  pub line : cut 10 (drop p s) ≡ piece_at 10 s p ∷ rest
  pub pieces : cut 32 (piece_at 10 s p) ≡ drop j ws

-- k bytes at p without a space and a line feed, and the byte stop behind them
pub record TextAt (s : List ℕ) (p stop k : ℕ) : Type 0 where
  pub inside : p + k < length s
  pub ended : get_or s (p + k) 0 ≡ stop
  pub no_space : free 32 (part s p k)
  pub no_feed : free 10 (part s p k)

module _ {s : List ℕ} {ws rest : List (List ℕ)} {j p k : ℕ} (a : Line s ws rest j p) where
  module _ (c : TextAt s p 32 k) where
    abbrev w : List ℕ
    w = part s p k

    abbrev t : List ℕ
    t = drop (p + k + 1) s

    split : drop p s ≡ w ++ (32 ∷ t)
    split = part_split s p k c.inside ∙ ap (λ (b : ℕ). w ++ (b ∷ t)) c.ended

    front : cut 10 (drop p s) ≡ (w ++ (32 ∷ []) ++ piece_at 10 s (p + k + 1)) ∷ drop 1 (cut 10 t)
    unfolding piece_at all
    front =
        ap (cut 10) (split ∙ sym (append_assoc w (32 ∷ []) t))
        ∙ cut_front 10 (w ++ (32 ∷ [])) t (free_append 10 w (32 ∷ []) c.no_feed tt)

    line_is : piece_at 10 s p ≡ w ++ (32 ∷ piece_at 10 s (p + k + 1))
    unfolding piece_at
    line_is = ap (λ (l : List (List ℕ)). get_or l 0 []) front ∙ append_assoc w (32 ∷ []) (piece_at 10 s (p + k + 1))

    others_are : drop 1 (cut 10 t) ≡ rest
    others_are = ap (drop 1) (sym front ∙ a.line)

    pieces_are : drop j ws ≡ w ∷ cut 32 (piece_at 10 s (p + k + 1))
    pieces_are = sym a.pieces ∙ ap (cut 32) line_is ∙ cut_first 32 w (piece_at 10 s (p + k + 1)) c.no_space

    pub text_space : get_or ws j [] ≡ part s p k
    text_space = drop_first ws j [] pieces_are

    pub line_space : Line s ws rest (j + 1) (p + k + 1)
    line_space = record {
      inside = omega (arith, c.inside);
      line = pieces_from 10 s (p + k + 1) ∙ ap (λ (l : List (List ℕ)). piece_at 10 s (p + k + 1) ∷ l) others_are;
      pieces = sym (drop_others ws j [] pieces_are);
    }

  module _ (c : TextAt s p 10 k) where
    abbrev w₁ : List ℕ
    w₁ = part s p k

    ends : cut 10 (drop p s) ≡ w₁ ∷ cut 10 (drop (p + k + 1) s)
    ends =
        ap (cut 10) (part_split s p k c.inside ∙ ap (λ (b : ℕ). w₁ ++ (b ∷ drop (p + k + 1) s)) c.ended)
        ∙ cut_first 10 w₁ (drop (p + k + 1) s) c.no_feed

    last_is : drop j ws ≡ w₁ ∷ []
    unfolding piece_at
    last_is = sym a.pieces ∙ ap (λ (l : List (List ℕ)). cut 32 (get_or l 0 [])) ends ∙ cut_last 32 w₁ c.no_space

    pub text_feed : get_or ws j [] ≡ part s p k
    text_feed = drop_first ws j [] last_is

    pub line_feed_lem : (length ws ≡ j + 1) × (p + k + 1 ≤ length s) × (cut 10 (drop (p + k + 1) s) ≡ rest)
    line_feed_lem = (
      omega (arith, ap length last_is, length-drop j ws),
      omega (arith, c.inside),
      ap (drop 1) (sym ends ∙ a.line),
    )

-- the text behind p, and what stands behind the cell there
line_of : {s : List ℕ} {i j p : ℕ} → At s i j p → Line s (words s i) (drop (i + 2) (lines s)) j p
line_of a = record { inside = a.inside; line = a.line; pieces = a.pieces }

text_of : {s : List ℕ} {p stop k : ℕ} {z : ℤ} → CellAt s p stop z k → TextAt s p stop k
text_of {s} {p} {stop} {k} c = record {
  inside = c.inside;
  ended = c.ended;
  no_space = word_no_space (cell_word (part s p k) c.said.good);
  no_feed = word_no_feed (cell_word (part s p k) c.said.good);
}

module _ {s : List ℕ} {i j p : ℕ} {z : ℤ} {k : ℕ} (a : At s i j p) where
  module _ (c : CellAt s p 32 z k) where
    pub cell_space : cell s i j ≡ part s p k
    cell_space = text_space (line_of a) (text_of c)

    pub at_space : At s i (j + 1) (p + k + 1)
    at_space = let l = line_space (line_of a) (text_of c) in record { inside = l.inside; line = l.line; pieces = l.pieces }

  module _ (c : CellAt s p 10 z k) where
    pub cell_feed : cell s i j ≡ part s p k
    cell_feed = text_feed (line_of a) (text_of c)

    pub at_feed : (length (words s i) ≡ j + 1) × (p + k + 1 ≤ length s) × (cut 10 (drop (p + k + 1) s) ≡ drop (i + 2) (lines s))
    at_feed = line_feed_lem (line_of a) (text_of c)

-- either way
module _ {s : List ℕ} {stop i j p : ℕ} {z : ℤ} {k : ℕ} (a : At s i j p) (c : CellAt s p stop z k) where
  told : {x : ℕ} → stop ≡ x → CellAt s p x z k
  told e = subst (λ (b : ℕ). CellAt s p b z k) e c

  pub cell_is : (stop ≡ 32) ⊎ (stop ≡ 10) → cell s i j ≡ part s p k
  cell_is (inl e) = cell_space a (told e)
  cell_is (inr e) = cell_feed a (told e)

  pub cell_after : After s stop i j (p + k + 1)
  cell_after = record { on = λ e. at_space a (told e); over = λ e. at_feed a (told e) }
