-- The value lines, one after the other, and the square of their values.
use mathlib.Core.Path.{◌≡◌, refl, sym, ap, ◌∙◌}
use mathlib.Core.Bool.{Bool, false, not, cond}
use mathlib.Core.List.{List, [], ◌++◌, map}
use mathlib.Core.Logic.{⊎_elim}
use Prim.Native.Nat.{ℕ, suc, ◌+◌, ◌-◌, ◌*◌, ◌≤◌, ◌<◌}
use native.Mathlib.Numerals.{add-one}
use native.Mathlib.Nat.{eq-or-lt_of_le, le_of_suc-le-suc}
use native.Mathlib.Omega.{arith}
use native.Mathlib.Decide.{dec_lt}
use borrow.Author.Tests.{eqb-true, not-false}
use lib.Dec.{eqb}
use lib.IntN.{ℤ, pos}
use lib.ListN.{length, get_or, take, drop, length-append, length-drop, length-map, get_or-append, get_or-map}
use lib.Seq.{sets, sets-eq, get_or-take, get_or-drop, get_or-append-add, length-take-le, drop-drop}
use Rattle.lists.specs.Lists.{below, all}
use Rattle.lists.proofs.Tests.{or_none}
use Rattle.pairs.specs.Pairs.{number_for, list_number}
use Rattle.clusters.specs.PairList.{Similarity}
use Rattle.interface.specs.Sheet.{cut, is_lone_minus, value_of, pair_said, lines, entries, words, value}
use Rattle.interface.specs.Calls.{piece_at}
use Rattle.text.proofs.Pieces.{piece_part, pieces_more, pieces_last}
use Rattle.interface.specs.Refusals.{is_row, wrong_lines, wrong_values}
use Rattle.reader.specs.Square.{number_said, square}

-- what check 7 leaves
pub line_count : (s : List ℕ) → wrong_lines s ≡ false → length (lines s) ≡ entries s + 2
unfolding wrong_lines
line_count s e =
    let n = (or_none (not (eqb (length (lines s)) (entries s + 2))) _ e).0 in
    eqb-true (length (lines s)) (entries s + 2) (not-false _ n)

-- a line that is not the last piece, from its place to its end
pub record Line (s : List ℕ) (at end i : ℕ) : Type 0 where
  pub inside : end < length s
  pub part : take (end - at) (drop at s) ≡ get_or (lines s) i []
  pub next : cut 10 (drop (end + 1) s) ≡ drop (i + 1) (lines s)

module _ (s : List ℕ) (at end i : ℕ) (within : at ≤ length s) (is : end ≡ at + length (piece_at 10 s at))
    (here : cut 10 (drop at s) ≡ drop i (lines s)) (more : i + 1 < length (lines s)) where
  line_by : Dec (end < length s) → Line s at end i
  unfolding piece_at
  line_by (yes h) =
      let z : i + 0 ≡ i = omega arith in
      record {
        inside = h;
        part =
            piece_part 10 s at end within is
            ∙ ap (λ (l : List (List ℕ)). get_or l 0 []) here
            ∙ get_or-drop i (lines s) 0 []
            ∙ ap (λ (k : ℕ). get_or (lines s) k []) z;
        next = ap (drop 1) (sym (pieces_more 10 s at end within is h) ∙ here) ∙ drop-drop 1 i (lines s);
      }
  line_by (no f) =
      absurd (omega (arith, ap length (sym (pieces_last 10 s at end within is (omega arith)) ∙ here), length-drop i (lines s)))

  pub line_at : Line s at end i
  line_at = line_by (dec_lt end (length s))

pub first_at : (s : List ℕ) → cut 10 (drop 0 s) ≡ drop 0 (lines s)
unfolding lines
first_at s = refl

pub line_words_lem : (s : List ℕ) (at end i : ℕ) → Line s at end (i + 1) → cut 32 (take (end - at) (drop at s)) ≡ words s i
unfolding words
line_words_lem s at end i l = ap (cut 32) (l.part ∙ ap (λ (k : ℕ). get_or (lines s) k []) (add-one i))

-- the answer
pub values_tested : (s : List ℕ) (n : ℕ) {b : Bool} → n ≡ entries s → b ≡ all (λ k. is_row n (words s k)) (below n)
    → ◌≡◌ {A = ℕ} (cond (not b) 8 0) (cond (wrong_values s) 8 0)
unfolding wrong_values
values_tested s n is e = rw (← is, e)

-- slots before a run of stores, and those of the run
before_sets : (vs l : List ℤ) (i k : ℕ) → i + length vs ≤ length l → k < i → get_or (sets l i vs) k (pos 0) ≡ get_or l k (pos 0)
before_sets vs l i k h p =
    let e = length-take-le i l (omega arith) in
    rw (sets-eq vs l i h)
    (get_or-append (take i l ++ vs) (drop (i + length vs) l) (pos 0) k (omega (arith, length-append (take i l) vs))
    ∙ get_or-append (take i l) vs (pos 0) k (omega arith)
    ∙ get_or-take i l k (pos 0) p)

inside_sets : (vs l : List ℤ) (i k : ℕ) → i + length vs ≤ length l → k < length vs → get_or (sets l i vs) (i + k) (pos 0) ≡ get_or vs k (pos 0)
inside_sets vs l i k h p =
    let e : i + k ≡ length (take i l) + k = omega (arith, length-take-le i l (omega arith)) in
    rw (sets-eq vs l i h, e)
    (get_or-append (take i l ++ vs) (drop (i + length vs) l) (pos 0) (length (take i l) + k) (omega (arith, length-append (take i l) vs))
    ∙ get_or-append-add (take i l) vs k (pos 0))

-- a word that is not there
said_none : number_said [] ≡ pos 0
unfolding number_said list_number number_for pair_said is_lone_minus value_of
said_none = refl

-- one more row in the square
module _ (v : Similarity) (l m : List ℤ) (ws : List (List ℕ)) (n i : ℕ) (few : n ≤ 32) (row : i < 32) (size : length l ≡ 1024)
    (count : length ws ≡ n) (stored : m ≡ sets l (i * 32) (map number_said ws)) (is : (j : ℕ) → number_said (get_or ws j []) ≡ v i j) where
  long : i * 32 + length (map number_said ws) ≤ length l
  long = omega (arith, length-map ws number_said)

  old : (a b : ℕ) → a < i → b < n → square m a b ≡ square l a b
  unfolding square
  old a b p q = rw stored (before_sets (map number_said ws) l (i * 32) (a * 32 + b) long (omega arith))

  new : (b : ℕ) → b < n → square m i b ≡ v i b
  unfolding square
  new b q =
      let h : b < length (map number_said ws) = omega (arith, length-map ws number_said) in
      rw stored
      (inside_sets (map number_said ws) l (i * 32) b long h
      ∙ ap (get_or (map number_said ws) b) (sym said_none)
      ∙ get_or-map number_said ws b []
      ∙ is b)

  pub square_next : ((a b : ℕ) → a < i → b < n → square l a b ≡ v a b) → (a b : ℕ) → a < i + 1 → b < n → square m a b ≡ v a b
  square_next f a b p q =
      let r : suc a ≤ suc i = omega arith in
      ⊎_elim (λ e. rw e (new b q)) (λ h. old a b h q ∙ f a b h q) (eq-or-lt_of_le (le_of_suc-le-suc r))

pub value_at_lem : (s : List ℕ) (i j : ℕ) → number_said (get_or (words s i) j []) ≡ value s i j
unfolding value number_said
value_at_lem s i j = refl
