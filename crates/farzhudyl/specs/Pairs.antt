-- The last checks of the sheet call, and its listing, for a pair list that was read: the code's own vocabulary, which
-- nobody need believe.
use Rattle.std.specs.Prelude.{◌≡◌, List, [], ◌∷◌, ◌++◌, ℕ, ℤ, length}
use Rattle.answers.specs.Answers.{Answer, Answered, slots}
use Rattle.interface.specs.Listing.{pairs_listing}
use Rattle.interface.specs.Refusals.{first_of, check11, check14, kind_checks}

unfoldable pub pairs_refusal : ℤ → ℕ → List ℤ → (buffer : ℕ) → ℕ
pairs_refusal kind n l buffer =
    first_of ((check11 l ∷ kind_checks kind n l) ++ (check14 buffer (pairs_listing kind n l) ∷ []))

pub record PairsListed (kind : ℤ) (n : ℕ) (l : List ℤ) (lent : List ℕ) (r : Answer) (after : List ℕ) : Type 0 where
  pub answered : Answered (pairs_refusal kind n l (length lent)) (length (pairs_listing kind n l)) r
  pub written : after ≡ slots (pairs_refusal kind n l (length lent)) (pairs_listing kind n l) lent
