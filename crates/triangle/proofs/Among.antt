-- The score of two entries of a pair list is the one that stands there.
use mathlib.Core.Path.{◌≡◌, sym, ap, refl}
use mathlib.Core.Bool.{Bool, true, false, cond, ◌&&◌}
use mathlib.Core.List.{List}
use Prim.Native.Nat.{ℕ, ◌≤◌, ◌<◌}
use borrow.Author.Tests.{le-leb, lt-ltb, eq-eqb, eqb-true}
use lib.Dec.{eqb, leb, ltb, leb→le, ltb→lt}
use lib.IntN.{ℤ, pos}
use lib.ListN.{length}
use Rattle.lists.specs.Lists.{all}
use Rattle.lists.proofs.Tests.{T_true, T_false, true_T, and_T}
use Rattle.pairs.specs.declared.Carried.TheVariants.{Scored}
use Rattle.pairs.specs.Pairs.{mark, carried, pair_of}
use Rattle.integers.specs.Integers.{eq_z}
use Rattle.clusters.specs.PairList.{row_start, place, score, has_length}
use Rattle.interface.specs.Refusals.{most_entries, wrong_entries, score_checks, score_refusal}
use Rattle.interface.specs.Calls.{is_pair, score_among, pair_among}
use Rattle.interface.proofs.Refusals.{under, passes, right_entries}
use Rattle.matrix.proofs.Checks.{sized}
use Rattle.matrix.proofs.Places.{score_asks}

pub among_score : (n : ℕ) (l : List ℤ) (a b : ℕ) → n ≤ 32 → length l ≡ row_start n → a < n → b < n → score_among n l a b ≡ score l a b
unfolding score_among is_pair most_entries has_length
among_score n l a b m e h k = simp (le-leb n 32 m, eq-eqb (length l) (row_start n) e, lt-ltb a n h, lt-ltb b n k)

-- their pair is the pair of that score, which stands in the list
pub among_pair : (n : ℕ) (l : List ℤ) (a b : ℕ) → is_pair n l a b ≡ true → pair_of (score l a b) ≡ pair_among n l a b
unfolding pair_among score_among
among_pair n l a b e = ap (λ (t : Bool). pair_of (cond t (score l a b) (pos 0))) (sym e)

pub among_asks : (n : ℕ) (l : List ℤ) (a b : ℕ) → is_pair n l a b ≡ true → (a < 32) × (b < 32) × (place a b < length l)
unfolding is_pair most_entries has_length
among_asks n l a b e =
    let (three, hb) = and_T (leb n 32 && eqb (length l) (row_start n) && ltb a n) (ltb b n) (true_T e) in
    let (two, ha) = and_T (leb n 32 && eqb (length l) (row_start n)) (ltb a n) three in
    let (few, long) = and_T (leb n 32) (eqb (length l) (row_start n)) two in
    score_asks l (leb→le n 32 few) (eqb-true _ _ (T_true {b = eqb (length l) (row_start n)} long)) (ltb→lt a n ha) (ltb→lt b n hb)

-- any other two numbers have a score of 0
pub among_none : (n : ℕ) (l : List ℤ) (a b : ℕ) → is_pair n l a b ≡ false → record { carries = Scored (pos 0) } ≡ pair_among n l a b
unfolding pair_among score_among pair_of carried mark eq_z
among_none n l a b e = ap (λ (t : Bool). pair_of (cond t (score l a b) (pos 0))) (sym e)

-- two numbers that are not refused have the score that stands there
pub scored : (n : ℕ) (l : List ℤ) (a b : ℕ) → score_refusal n l a b ≡ 0 → score_among n l a b ≡ score l a b
unfolding score_refusal score_checks under all
scored n l a b z =
    let checks = score_checks n l a b in
    let (few, long) = sized n l checks tt z refl refl in
    let (ha, hb) = right_entries n a b (T_false {b = wrong_entries n a b} (passes 15 checks tt z)) in
    among_score n l a b few long ha hb
