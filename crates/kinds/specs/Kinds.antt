-- The code's own vocabulary, which nobody need believe: kinds as the code holds them, and what the checks leave to
-- each.
use Rattle.std.specs.Prelude.{◌≡◌, Bool, true, false, not, List, ℕ, T, ℤ, pos, Result, MatchResult}
use Rattle.clusters.specs.PairList.{has_unscored}
use Rattle.clusters.specs.Groups.{strong, clean, splits}
use Rattle.clusters.specs.Groups as Groups
use Rattle.interface.specs.Refusals.{wrong_kind, wrong_group_kind}
use Rattle.matrix.specs.Checks.{Checked}
use Rattle.kinds.specs.declared.Kind.{Kind}
use Rattle.kinds.specs.declared.Kind.TheVariants.{Strong, Clean, Splits}
use Rattle.answers.specs.declared.Refusal.{Refusal}
use Rattle.answers.specs.declared.Refusal.TheVariants.{WrongKind}

unfoldable pub kind_for : Kind → Groups.Kind
kind_for Strong = strong
kind_for Clean = clean
kind_for Splits = splits

-- the number of a kind, as the calls take it
abbrev pub number_for : Kind → ℤ
number_for Strong = pos 1
number_for Clean = pos 2
number_for Splits = pos 3

-- the kind of this number, or check 1 refuses the number
abbrev pub KindRead : ℤ → Result Kind Refusal → Type 0
KindRead number r =
    MatchResult r (λ kind. number_for kind ≡ number) (λ e. (e ≡ WrongKind) × (wrong_kind number ≡ true))

-- the same in a call that only kinds of groups are for
abbrev pub GroupKindRead : ℤ → Result Kind Refusal → Type 0
GroupKindRead number r =
    MatchResult r (λ kind. (number_for kind ≡ number) × (wrong_group_kind number ≡ false))
    (λ e. (e ≡ WrongKind) × (wrong_group_kind number ≡ true))

-- what 16 leaves: only strong groups are found among unscored pairs
abbrev pub scored_for : Groups.Kind → List ℤ → Bool
scored_for strong l = true
scored_for clean l = not (has_unscored l)
scored_for splits l = not (has_unscored l)

-- what checks 6, 10, 11 and 16 pass
pub record Accepted (kind : Groups.Kind) (n : ℕ) (l : List ℤ) : Type 0 where
  pub checked : Checked n l
  pub scored : T (scored_for kind l)
