-- The lines of a sheet by their places.
use mathlib.Core.Path.{◌≡◌, refl, sym, ap, ◌∙◌}
use mathlib.Core.Bool.{Bool, true, false, not, cond}
use mathlib.Core.List.{List, [], ◌∷◌}
use Prim.Native.Nat.{ℕ, zero, suc, ◌+◌, ◌-◌, ◌≤◌, ◌<◌}
use native.Mathlib.Omega.{arith}
use native.Mathlib.Decide.{dec_lt}
use borrow.Author.Tests.{eq-eqb, ne_eqb}
use lib.Dec.{eqb}
use lib.ListN.{length, get_or, take, drop}
use lib.Seq.{length-take-le}
use Rattle.lists.specs.Lists.{all}
use Rattle.lists.proofs.Tests.{cond_elim}
use Rattle.interface.specs.Sheet.{longer, cut, is_name, lines, names, entries}
use Rattle.interface.specs.Refusals.{wrong_names, wrong_lines}
use Rattle.interface.specs.Calls.{piece_at}
use Rattle.interface.proofs.Pieces.{some_piece}
use Rattle.text.proofs.Pieces.{piece_part, piece_inside, pieces_more, pieces_last}

-- a list with an element is its first and the others
split : (ws : List (List ℕ)) → 0 < length ws → ws ≡ get_or ws 0 [] ∷ drop 1 ws
split [] h = absurd (omega arith)
split (w ∷ ws) h = refl

pub pieces_from : (c : ℕ) (s : List ℕ) (at : ℕ) → cut c (drop at s) ≡ piece_at c s at ∷ drop 1 (cut c (drop at s))
unfolding piece_at
pieces_from c s at = split (cut c (drop at s)) (some_piece c (drop at s))

-- the end of line 1
module _ (s : List ℕ) (end : ℕ) (is : end ≡ 0 + length (piece_at 10 s 0)) where
  pub line_inside : end ≤ length s
  line_inside = piece_inside 10 s 0 end (omega arith) is

  pub line_length : end ≡ length (take end s)
  line_length = sym (length-take-le end s line_inside)

  pub first_line_lem : take end s ≡ get_or (lines s) 0 []
  unfolding lines piece_at
  first_line_lem =
      let e : end ≡ end - 0 = omega arith in
      ap (λ (k : ℕ). take k s) e ∙ piece_part 10 s 0 end (omega arith) is

  pub one_line : length s ≤ end → length (lines s) ≡ 1
  unfolding lines
  one_line h = ap length (pieces_last 10 s 0 end (omega arith) is h)

  pub more_lines : end < length s → length (lines s) ≡ 1 → ⊥
  unfolding lines
  more_lines h e = omega (arith, ap length (pieces_more 10 s 0 end (omega arith) is h), some_piece 10 (drop (end + 1) s))

  pub no_feed : length s ≤ end → true ≡ wrong_names s
  unfolding wrong_names
  no_feed h = rw (one_line h)

  pub names_left : end < length s → not (all is_name (names s)) ≡ wrong_names s
  unfolding wrong_names
  names_left h = rw (ne_eqb (length (lines s)) 1 (more_lines h))

-- a list that is one piece
whole : (c : ℕ) (t : List ℕ) → length (cut c t) ≡ 1 → length t ≤ length (get_or (cut c t) 0 [])
unfolding piece_at
whole c t e = go (dec_lt (length (get_or (cut c t) 0 [])) (length t))
  where
    go : Dec (length (get_or (cut c t) 0 []) < length t) → length t ≤ length (get_or (cut c t) 0 [])
    go (yes h) =
        let p = pieces_more c t 0 (length (get_or (cut c t) 0 [])) (omega arith) (omega arith) h in
        absurd (omega (arith, ap length p, some_piece c (drop (length (get_or (cut c t) 0 []) + 1) t)))
    go (no f) = omega arith

-- the last of some pieces is empty, or not; the same with an empty piece before them, and with a byte more in the first
abbrev LastEmpty : List (List ℕ) → Bool → Type 0
LastEmpty ws x = (k : ℕ) → length ws ≡ suc k → eqb (length (get_or ws k [])) 0 ≡ x

empty_more : (ws : List (List ℕ)) (x : Bool) → LastEmpty ws x → 0 < length ws → LastEmpty ([] ∷ ws) x
empty_more ws x is h zero e = absurd (omega arith)
empty_more ws x is h (suc k) e = is k (omega arith)

empty_longer : (b : ℕ) (ws : List (List ℕ)) (x : Bool) → LastEmpty ws x → 0 < length ws → (length ws ≡ 1 → 0 < length (get_or ws 0 []))
    → LastEmpty (longer b ws) x
unfolding longer
empty_longer b [] x is h one k e = absurd (omega arith)
empty_longer b (w ∷ []) x is h one k e =
    let z : k ≡ 0 = omega arith in
    let p = one refl in
    rw z (ne_eqb (suc (length w)) 0 (λ q. omega arith) ∙ sym (ne_eqb (length w) 0 (λ q. omega arith)) ∙ is 0 refl)
empty_longer b (w ∷ v ∷ ws) x is h one zero e = absurd (omega arith)
empty_longer b (w ∷ v ∷ ws) x is h one (suc k) e = is (suc k) e

-- the last piece is empty where c stands last
pub last_piece : (c : ℕ) (s : List ℕ) → 0 < length s → LastEmpty (cut c s) (eqb (get_or s (length s - 1) 0) c)
unfolding cut longer
last_piece c [] h k e = absurd (omega arith)
last_piece c (b ∷ []) h k e = go (eqb b c) refl k e
  where
    go : (x : Bool) → eqb b c ≡ x → LastEmpty (cond x ([] ∷ [] ∷ []) ((b ∷ []) ∷ [])) (eqb b c)
    go true q k e = let z : k ≡ 1 = omega arith in rw (q, z)
    go false q k e = let z : k ≡ 0 = omega arith in rw (q, z)
last_piece c (b ∷ d ∷ t) h k e =
    let ws = cut c (d ∷ t) in
    let x = eqb (get_or (d ∷ t) (length (d ∷ t) - 1) 0) c in
    let is : LastEmpty ws x = last_piece c (d ∷ t) (omega arith) in
    let some = some_piece c (d ∷ t) in
    let z : suc (length (d ∷ t) - 1) ≡ length (b ∷ d ∷ t) - 1 = omega arith in
    cond_elim (eqb b c) ([] ∷ ws) (longer b ws) (λ vs. LastEmpty vs x)
    (λ _. empty_more ws x is some)
    (λ _. empty_longer b ws x is some (λ one. omega (arith, whole c (d ∷ t) one)))
    k
    e
    ∙ ap (λ (i : ℕ). eqb (get_or (b ∷ d ∷ t) i 0) c) z

-- check 7 by the count of lines and the last byte
module _ (s : List ℕ) (n k : ℕ) (is : n ≡ entries s) (count : k ≡ length (cut 10 s)) where
  pub lines_wrong : (k ≡ n + 2 → ⊥) → true ≡ wrong_lines s
  unfolding wrong_lines lines
  lines_wrong f = rw (← is, ← count, ne_eqb k (n + 2) f)

  pub lines_right : 0 < length s → k ≡ n + 2 → not (eqb (get_or s (length s - 1) 0) 10) ≡ wrong_lines s
  unfolding wrong_lines lines
  lines_right h e =
      let z : length (cut 10 s) ≡ suc (n + 1) = omega arith in
      rw (← is, ← count, eq-eqb k (n + 2) e) (ap not (sym (last_piece 10 s h (n + 1) z)))
