-- The sheet call: its checks, what was read, and its ways out.
use mathlib.Core.Path.{◌≡◌, sym, ◌∙◌}
use mathlib.Core.Bool.{true, false, cond}
use mathlib.Core.List.{List}
use Prim.Native.Nat.{ℕ}
use borrow.Author.Tests.{ne_eqb}
use lib.Dec.{eqb}
use lib.IntN.{ℤ}
use lib.ListN.{length}
use Rattle.lists.specs.Lists.{all}
use Rattle.std.specs.Prelude.{Ok, Err}
use Rattle.answers.specs.declared.Refusal.{Refusal}
use Rattle.answers.specs.declared.Refusal.TheVariants.{WrongKind}
use Rattle.answers.specs.Answers.{Answer, Answered, slots}
use Rattle.answers.proofs.Answers.{refused_is, found_is}
use Rattle.answers.proofs.WaysOut.{refused}
use Rattle.interface.specs.Sheet.{entries, pairs}
use Rattle.interface.specs.Listing.{sheet_listing}
use Rattle.interface.specs.Refusals.{wrong_kind, sheet_checks, sheet_call_checks, sheet_refusal, reader_checks, reader_refusal}
use Rattle.interface.specs.Calls.{SheetCall}
use Rattle.interface.proofs.Refusals.{gives, first_yes, first_no, first_append}
use Rattle.farzhudyl.specs.Pairs.{pairs_refusal, PairsListed}

-- the call's checks: check 1, then the sheet's, then the pair list's
module _ (kind : ℤ) (s : List ℕ) (room : ℕ) where
  wrong_kind_lem : wrong_kind kind ≡ true → 1 ≡ sheet_refusal kind s room
  unfolding sheet_refusal sheet_call_checks
  wrong_kind_lem e = gives (first_yes e)

  right_kind : wrong_kind kind ≡ false → let k = reader_refusal s in sheet_refusal kind s room ≡ cond (eqb k 0) (pairs_refusal kind (entries s) (pairs s) room) k
  unfolding sheet_refusal sheet_call_checks sheet_checks sheet_listing pairs_refusal reader_refusal reader_checks all
  right_kind e = sym (gives (first_no e (record { is = sym (first_append (reader_checks s) _ tt) })))

-- the ways out
module _ (kind : ℤ) (s lent : List ℕ) where
  done : {r : Answer} {o : List ℕ} → Answered (sheet_refusal kind s (length lent)) (length (sheet_listing kind s)) r
      × (o ≡ slots (sheet_refusal kind s (length lent)) (sheet_listing kind s) lent) → SheetCall kind s lent r o
  done (a, w) = record { answered = a; written = w }

  pub refused_kind : wrong_kind kind ≡ true → SheetCall kind s lent (Err WrongKind) lent
  refused_kind e = done (refused _ _ _ {e = WrongKind} (wrong_kind_lem kind s (length lent) e))

  module _ (e : wrong_kind kind ≡ false) where
    pub refused_sheet : {r : Refusal} → Answered (reader_refusal s) (entries s) (Err r) → SheetCall kind s lent (Err r) lent
    refused_sheet {r} a =
        let (is, some) = refused_is a in
        done (refused _ _ _ {e = r} (is ∙ sym (right_kind kind s (length lent) e ∙ rw (ne_eqb (reader_refusal s) 0 some))))

    pub read_sheet : {n : ℕ} {l : List ℤ} {r : Answer} {o : List ℕ} → Answered (reader_refusal s) (entries s) (Ok n) → l ≡ pairs s
        → PairsListed kind n l lent r o → SheetCall kind s lent r o
    unfolding sheet_listing
    read_sheet {n} d p h =
        let (z, m) = found_is d in
        done (rw (right_kind kind s (length lent) e, z, sym m, sym p) (h.answered, h.written))
