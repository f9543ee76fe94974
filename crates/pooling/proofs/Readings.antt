-- A sheet that was read: refused by the reader, refused by 11, or accepted.
use mathlib.Core.Path.{◌≡◌, sym, ap, ◌∙◌, subst}
use mathlib.Core.Bool.{Bool, true, false, not}
use mathlib.Core.List.{List}
use Prim.Native.Nat.{ℕ}
use native.Mathlib.Omega.{arith}
use lib.IntN.{ℤ}
use lib.ListN.{take}
use Rattle.lists.specs.Lists.{all}
use Rattle.clusters.specs.PairList.{row_start, scores_in_range}
use Rattle.std.specs.Prelude.{Ok, Err}
use Rattle.answers.specs.declared.Refusal.{Refusal}
use Rattle.answers.specs.declared.Refusal.TheVariants.{OutOfRange}
use Rattle.answers.specs.Answers.{number, Answered}
use Rattle.answers.proofs.Answers.{refused_is, found_is}
use Rattle.answers.proofs.WaysOut.{is_refused, is_found}
use Rattle.interface.specs.Sheet.{entries, pairs}
use Rattle.interface.specs.Refusals.{first_of, reader_checks, reader_refusal, sheet_checks}
use Rattle.interface.proofs.Refusals.{first_yes, first_no, no_more, refused_front, passed_back}
use Rattle.pooling.specs.Pools.{AcceptedSheet, Read}

module _ (s : List ℕ) (slots : List ℤ) where
  number_out : {e : Refusal} → number e ≡ first_of (sheet_checks s) → Read s (Err e) slots
  number_out h = record {
    answered = is_refused (entries s) h;
    accepted = λ n q. let z : ◌≡◌ {A = ℕ} 0 1 = cc in absurd (omega arith);
  }

  pub read_refused : (e : Refusal) → Answered (reader_refusal s) (entries s) (Err e) → Read s (Err e) slots
  unfolding sheet_checks reader_refusal reader_checks all
  read_refused e a = number_out (refused_front (reader_checks s) _ tt e (refused_is a).0)

  module _ {n : ℕ} (e : Answered (reader_refusal s) (entries s) (Ok n)) {range : Bool} (asked : range ≡ scores_in_range (pairs s)) where
    pub read_out_of_range : not range ≡ true → Read s (Err OutOfRange) slots
    unfolding sheet_checks reader_refusal reader_checks all
    read_out_of_range t = number_out (passed_back (reader_checks s) _ tt (sym (found_is e).0) (first_yes (ap not (sym asked) ∙ t)))

    pub read_accepted : not range ≡ false → take (row_start n) slots ≡ pairs s → Read s (Ok n) slots
    unfolding sheet_checks reader_refusal reader_checks all
    read_accepted t p =
        let (z, is) = found_is e in
        let passed = passed_back (reader_checks s) _ tt (sym z) (first_no (ap not (sym asked) ∙ t) no_more) in
        record {
          answered = is_found (entries s) (sym passed) is;
          accepted = λ m q.
              let same : n ≡ m = cc in
              subst (λ (k : ℕ). AcceptedSheet s k (take (row_start k) slots)) same (record { passed = sym passed; count = is; its_pairs = p });
        }
