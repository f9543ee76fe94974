-- A kind and its number: what check 1 says of a number, and the tests that are of one kind only.
use mathlib.Core.Path.{◌≡◌, refl, sym, ap, ◌∙◌}
use mathlib.Core.Bool.{Bool, true, false, not, ◌&&◌}
use mathlib.Core.Logic.{◌⊎◌, inl, inr}
use mathlib.Core.List.{List}
use Prim.Native.Nat.{ℕ}
use lib.Dec.{T}
use lib.IntN.{ℤ, pos}
use denote.Enum.Bare.{sameb}
use mir.Facts.{to_z-of_z}
use mir.Syntax.{w32}
use mir.Val.{SFits, of_z, to_z}
use Rattle.std.specs.Prelude.{Err}
use Rattle.lists.proofs.Tests.{T_false, T_or_not}
use Rattle.integers.specs.Integers.{eq_z}
use Rattle.integers.proofs.Linear.{eq_z_yes}
use Rattle.clusters.specs.PairList.{has_unscored, are_distances}
use Rattle.clusters.specs.Groups.{kind_of}
use Rattle.interface.specs.Refusals.{wrong_kind, wrong_group_kind, wrong_unscored, wrong_distances}
use Rattle.kinds.specs.contracts.Kind.{the_type}
use Rattle.kinds.specs.declared.Kind.{Kind}
use Rattle.kinds.specs.declared.Kind.TheVariants.{Strong, Clean, Splits}
use Rattle.answers.specs.declared.Refusal.{Refusal}
use Rattle.answers.specs.declared.Refusal.TheVariants.{WrongKind}
use Rattle.matrix.specs.Checks.{Checked}
use Rattle.kinds.specs.Kinds.{kind_for, number_for, GroupKindRead, Accepted}
use Rattle.kinds.proofs.Listed.{accepted}

-- another number than this
pub eq_z_no : {a b : ℤ} → (a ≡ b → ⊥) → eq_z a b ≡ false
eq_z_no {a} {b} f = go (T_or_not (eq_z a b))
  where
    go : T (eq_z a b) ⊎ T (not (eq_z a b)) → eq_z a b ≡ false
    go (inl t) = absurd (f (eq_z_yes a b t))
    go (inr t) = T_false t

-- a number that is none of the three
pub is_wrong : {number : ℤ} → (number ≡ pos 1 → ⊥) → (number ≡ pos 2 → ⊥) → (number ≡ pos 3 → ⊥) → wrong_kind number ≡ true
unfolding wrong_kind
is_wrong f g h = rw (eq_z_no f, eq_z_no g, eq_z_no h)

-- the number of a kind is not wrong, and of this kind
pub is_of : (kind : Kind) {number : ℤ} → number_for kind ≡ number → (wrong_kind number ≡ false) × (kind_for kind ≡ kind_of number)
unfolding wrong_kind kind_of kind_for eq_z
is_of Strong e = rw (sym e) (refl, refl)
is_of Clean e = rw (sym e) (refl, refl)
is_of Splits e = rw (sym e) (refl, refl)

-- the kind as the code reads it from a number that was passed, and what a test said of it
pub number_read : {k number : ℤ} → SFits w32 number → k ≡ to_z w32 (of_z w32 number) → k ≡ number
number_read f e = e ∙ to_z-of_z f

-- so it is that of the number
pub kind_read : (k : Kind) {number : ℤ} → SFits w32 number → number_for k ≡ to_z w32 (of_z w32 number) → kind_for k ≡ kind_of number
kind_read k f e = (is_of k (number_read f e)).1

pub said : {r t : Bool} {k number : ℤ} (test : ℤ → Bool) → k ≡ number → r ≡ test k → r ≡ t → test number ≡ t
said test e f p = ap test (sym e) ∙ sym f ∙ p

-- the two tests, of the kind's number
pub unscored_tested : (kind : Kind) (l : List ℤ) → wrong_unscored (number_for kind) l ≡ not (sameb the_type kind Strong) && has_unscored l
unfolding wrong_unscored eq_z
unscored_tested Strong l = refl
unscored_tested Clean l = refl
unscored_tested Splits l = refl

pub distances_tested : (kind : Kind) (n : ℕ) (l : List ℤ)
    → wrong_distances (number_for kind) n l ≡ sameb the_type kind Splits && not (are_distances n l)
unfolding wrong_distances eq_z
distances_tested Strong n l = refl
distances_tested Clean n l = refl
distances_tested Splits n l = refl

-- so 16 leaves the list to the kind
pub accepted_for : (kind : Kind) {n : ℕ} {l : List ℤ} → Checked n l → wrong_unscored (number_for kind) l ≡ false → Accepted (kind_for kind) n l
accepted_for kind c e = rw (is_of kind refl).1 (accepted (number_for kind) c e)

-- a kind of groups
pub group_kind : (kind : Kind) → (kind ≡ Splits → ⊥) → wrong_group_kind (number_for kind) ≡ false
unfolding wrong_group_kind wrong_kind eq_z
group_kind Strong f = refl
group_kind Clean f = refl
group_kind Splits f = absurd (f refl)

pub no_group_kind : {kind : Kind} → kind ≡ Splits → wrong_group_kind (number_for kind) ≡ true
unfolding wrong_group_kind wrong_kind eq_z
no_group_kind e = rw e refl

pub group_refused : (number : ℤ) {e : Refusal} → (e ≡ WrongKind) × (wrong_kind number ≡ true) → GroupKindRead number (Err e)
unfolding wrong_group_kind
group_refused number (is, p) = (is, rw p)
