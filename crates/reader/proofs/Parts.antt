-- The pieces of a line by their number.
use mathlib.Core.Path.{◌≡◌, refl, sym, ap, ap₂, ◌∙◌}
use mathlib.Core.List.{List, [], ◌∷◌}
use Prim.Native.Nat.{ℕ, zero, suc, ◌+◌, ◌-◌, ◌≤◌, ◌<◌}
use native.Mathlib.Omega.{arith}
use native.Mathlib.Decide.{dec_lt}
use lib.ListN.{length, get_or, take, drop, length-drop}
use lib.Seq.{take-take, drop-drop}
use Rattle.interface.specs.Sheet.{cut, names, entries}
use Rattle.interface.specs.Calls.{start_of, piece_at}
use Rattle.text.proofs.Pieces.{piece_inside, piece_part, pieces_more, pieces_last}
use Rattle.sheet.proofs.Lines.{line_inside, line_length, first_line_lem}

-- a further piece stands behind the end of this one
pub record Next (c : ℕ) (s : List ℕ) (at end left : ℕ) : Type 0 where
  pub inside : end < length s
  pub count : left - 1 < length (cut c (drop (end + 1) s))
  pub start : at + start_of (cut c (drop at s)) left ≡ end + 1 + start_of (cut c (drop (end + 1) s)) (left - 1)
  pub same : get_or (cut c (drop at s)) left [] ≡ get_or (cut c (drop (end + 1) s)) (left - 1) []

module _ (c : ℕ) (s : List ℕ) (at end left : ℕ) (inside : at ≤ length s) (is : end ≡ at + length (piece_at c s at)) (more : 0 < left)
    (has : left < length (cut c (drop at s))) where
  next_by : Dec (end < length s) → Next c s at end left
  unfolding start_of
  next_by (yes h) =
      let p = pieces_more c s at end inside is h in
      let e : left ≡ suc (left - 1) = omega arith in
      let q : start_of (cut c (drop at s)) left ≡ start_of (piece_at c s at ∷ cut c (drop (end + 1) s)) (suc (left - 1)) = ap₂ start_of p e in
      record {
        inside = h;
        count = omega (arith, ap length p);
        start = omega (arith, q);
        same = ap₂ (λ (l : List (List ℕ)) (k : ℕ). get_or l k []) p e;
      }
  next_by (no f) = absurd (omega (arith, ap length (pieces_last c s at end inside is (omega arith))))

  pub piece_next : Next c s at end left
  piece_next = next_by (dec_lt end (length s))

-- no piece before it is left
pub start_here : (ws : List (List ℕ)) (at left : ℕ) → left ≤ 0 → at + start_of ws left ≡ at
unfolding start_of
start_here ws at left h = let z : left ≡ 0 = omega arith in rw z (omega arith)

-- where a piece starts, it stands
pub record Standing (c : ℕ) (s : List ℕ) (i : ℕ) : Type 0 where
  pub inside : start_of (cut c s) i ≤ length s
  pub piece : piece_at c s (start_of (cut c s) i) ≡ get_or (cut c s) i []

pub standing : (c i : ℕ) (s : List ℕ) → i < length (cut c s) → Standing c s i
unfolding start_of piece_at
standing c zero s h = record { inside = omega arith; piece = refl }
standing c (suc i) s h =
    let e = length (piece_at c s 0) in
    let t = drop (e + 1) s in
    let n = piece_next c s 0 e (suc i) (omega arith) (omega arith) (omega arith) h in
    let j : suc i - 1 ≡ i = omega arith in
    let r = standing c i t (rw j at n.count) in
    let q : start_of (cut c s) (suc i) ≡ e + 1 + start_of (cut c t) i = omega (arith, n.start, ap (start_of (cut c t)) j) in
    record {
      inside = omega (arith, q, r.inside, n.inside, length-drop (e + 1) s);
      piece =
          ap (piece_at c s) q
          ∙ ap (λ (l : List ℕ). get_or (cut c l) 0 []) (sym (drop-drop (start_of (cut c t) i) (e + 1) s))
          ∙ r.piece
          ∙ sym (n.same ∙ ap (λ (k : ℕ). get_or (cut c t) k []) j);
    }

-- a part of the list's first e elements is that part of the list
pub part_of_part : (s : List ℕ) (e a k : ℕ) → a + k ≤ e → take k (drop a (take e s)) ≡ take k (drop a s)
part_of_part [] zero a k h = refl
part_of_part [] (suc e) a k h = refl
part_of_part (b ∷ s) zero zero zero h = refl
part_of_part (b ∷ s) zero zero (suc k) h = absurd (omega arith)
part_of_part (b ∷ s) zero (suc a) k h = absurd (omega arith)
part_of_part (b ∷ s) (suc e) zero k h = take-take k (suc e) (b ∷ s) (omega arith)
part_of_part (b ∷ s) (suc e) (suc a) k h = part_of_part s e a k (omega arith)

-- a name by its place in line 1
pub entry_in : (s : List ℕ) (end i n : ℕ) → end ≡ 0 + length (piece_at 10 s 0) → n ≡ entries s → i < n → i < length (cut 32 (take end s))
unfolding entries names
entry_in s end i n is e h = rw (first_line_lem s end is) (omega arith)

module _ (s : List ℕ) (end from i : ℕ) (is : end ≡ 0 + length (piece_at 10 s 0)) (has : i < length (cut 32 (take end s)))
    (start : from ≡ start_of (cut 32 (take end s)) i) where
  pub name_start_lem : from ≡ start_of (names s) i
  unfolding names
  name_start_lem = start ∙ ap (λ (l : List ℕ). start_of (cut 32 l) i) (first_line_lem s end is)

  pub name_from : from ≤ length (take end s)
  name_from = omega (arith, (standing 32 i (take end s) has).inside)

  -- its end, and that of any piece that starts there
  name_end : (c to : ℕ) → to ≡ from + length (piece_at c (take end s) from) → to ≤ end
  name_end c to stop = omega (arith, piece_inside c (take end s) from to name_from stop, line_length s end is)

  pub name_inside : (c to : ℕ) → to ≡ from + length (piece_at c (take end s) from) → to ≤ length s
  name_inside c to stop = omega (arith, name_end c to stop, line_inside s end is)

  pub name_bytes : (to : ℕ) → to ≡ from + length (piece_at 32 (take end s) from) → take (to - from) (drop from s) ≡ get_or (names s) i []
  unfolding names
  name_bytes to stop =
      sym (part_of_part s end from (to - from) (omega (arith, name_end 32 to stop)))
      ∙ piece_part 32 (take end s) from to name_from stop
      ∙ ap (piece_at 32 (take end s)) start
      ∙ (standing 32 i (take end s) has).piece
      ∙ ap (λ (l : List ℕ). get_or (cut 32 l) i []) (first_line_lem s end is)
