-- Each call's table of checks beside its table in words.
use mathlib.Core.Bool.{not}
use mathlib.Core.List.{List, [], ◌∷◌}
use Prim.Native.Nat.{ℕ, ◌-◌}
use lib.IntN.{ℤ}
use lib.ListN.{length}
use Rattle.lists.specs.Lists.{all}
use Rattle.lists.proofs.Tests.{T_false, and_T}
use Rattle.interface.specs.Sheet.{entries, pairs}
use Rattle.interface.specs.Listing.{sheet_listing}
use Rattle.interface.specs.Refusals.{
  reader_checks,
  sheet_checks,
  length_checks,
  pair_checks,
  scored_checks,
  distance_checks,
  kind_checks,
  sheet_call_checks,
  numbers_checks,
  linkage_checks,
  anchored_checks,
  back_checks,
  score_checks,
  wrong_kind,
  none,
  check11,
}
use Rattle.interface.proofs.Refusals.{right_length, none_append}
use Rattle.demands.specs.Tables.{
  reader_table,
  scores_table,
  length_table,
  pair_table,
  scored_table,
  distance_table,
  kind_table,
  sheet_table,
  numbers_table,
  linkage_table,
  anchored_table,
  back_table,
  score_table,
}
use Rattle.demands.proofs.Cells.{formed, same, points_out}
use Rattle.demands.proofs.Agree.{says, lt_says, Agree, done, next, agree_append}
use Rattle.demands.proofs.AgreeText.{two_says, three_says, four_says, five_says, six_says, seven_says, eight_says}
use Rattle.demands.proofs.AgreeValues.{nine_says, sixteen_says, twelve_says}
use Rattle.demands.proofs.AgreeNumbers.{
  one_says,
  ten_says,
  eleven_says,
  marked_says,
  sixteen_list_says,
  twelve_list_says,
  twelve_always_says,
  thirteen_says,
  short_says,
  anchor_says,
  entries_say,
  back_says,
}

-- of a sheet
pub reader_agrees : (s : List ℕ) → Agree (reader_checks s) (reader_table s)
unfolding reader_checks
reader_agrees s =
    next (two_says s) λ _. next (three_says s) λ _. next (four_says s) λ _. next (five_says s) λ _. next (six_says (entries s)) λ _.
    next (seven_says s) λ _. next (eight_says s) λ formed. next (nine_says s formed) λ _. done

pub scores_agree : (s : List ℕ) → Agree (sheet_checks s) (scores_table s)
unfolding sheet_checks
scores_agree s = agree_append (reader_agrees s) λ t. next (says (points_out s t)) λ _. done

pub sheet_agrees : (kind : ℤ) (s : List ℕ) (buffer : ℕ) → Agree (sheet_call_checks kind s buffer) (sheet_table kind s buffer)
unfolding sheet_call_checks sheet_checks all
sheet_agrees kind s buffer = agree_append (agree_append (next (one_says kind) λ _. scores_agree s) λ u.
    let (_, v) = and_T (not (wrong_kind kind)) (none (sheet_checks s)) u in
    let (t, _) = (none_append (reader_checks s) (check11 (pairs s) ∷ [])).0 v in
    next (sixteen_says s (formed s t) (same s t) kind) λ scored.
    next (twelve_says s (formed s t) (same s t) kind scored) λ _. done) λ _.
    next (lt_says buffer (length (sheet_listing kind s))) λ _. done

-- of a pair list
pub length_agrees : (n : ℕ) (l : List ℤ) → Agree (length_checks n l) (length_table n l)
length_agrees n l = next (six_says n) λ _. next (ten_says n l) λ _. done

pub pair_agrees : (n : ℕ) (l : List ℤ) → Agree (pair_checks n l) (pair_table n l)
pair_agrees n l = agree_append (length_agrees n l) λ _. next (eleven_says l) λ _. done

pub scored_agrees : (n : ℕ) (l : List ℤ) → Agree (scored_checks n l) (scored_table n l)
scored_agrees n l = agree_append (pair_agrees n l) λ _. next (marked_says l) λ _. done

pub distance_agrees : (n : ℕ) (l : List ℤ) → Agree (distance_checks n l) (distance_table n l)
distance_agrees n l = agree_append (scored_agrees n l) λ _. next (twelve_always_says n l) λ _. done

pub kind_agrees : (kind : ℤ) (n : ℕ) (l : List ℤ) → Agree (kind_checks kind n l) (kind_table kind n l)
kind_agrees kind n l = next (sixteen_list_says kind l) λ _. next (twelve_list_says kind n l) λ _. done

pub numbers_agree : (kind : ℤ) (n : ℕ) (l : List ℤ) (sets indices : ℕ) → Agree (numbers_checks kind n l sets indices) (numbers_table kind n l sets indices)
unfolding numbers_checks
numbers_agree kind n l sets indices =
    agree_append (agree_append (next (one_says kind) λ _. pair_agrees n l) λ _. kind_agrees kind n l) λ _. next (thirteen_says n sets indices) λ _. done

pub linkage_agrees : (n : ℕ) (l : List ℤ) (slots : ℕ) → Agree (linkage_checks n l slots) (linkage_table n l slots)
unfolding linkage_checks
linkage_agrees n l slots = agree_append (scored_agrees n l) λ _. next (short_says slots (n - 1)) λ _. done

pub anchored_agrees : (n x : ℕ) (l : List ℤ) (slots : ℕ) → Agree (anchored_checks n x l slots) (anchored_table n x l slots)
unfolding anchored_checks
anchored_agrees n x l slots = agree_append (distance_agrees n l) λ _. next (anchor_says n x slots) λ _. done

pub back_agrees : (n x : ℕ) (l : List ℤ) (slots : ℕ) → Agree (back_checks n x l slots) (back_table n x l slots)
unfolding back_checks
back_agrees n x l slots =
    next (six_says n) λ _. next (ten_says n l) λ b.
    next (back_says n x l slots (right_length n l (T_false b))) λ _. done

pub score_agrees : (n : ℕ) (l : List ℤ) (i j : ℕ) → Agree (score_checks n l i j) (score_table n l i j)
unfolding score_checks
score_agrees n l i j = agree_append (length_agrees n l) λ _. next (entries_say n i j) λ _. done
