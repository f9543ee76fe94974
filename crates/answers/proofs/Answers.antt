-- What an answer says, read back.
use mathlib.Core.Path.{◌≡◌, refl, sym, ap, ◌∙◌}
use mathlib.Core.Logic.{◌≢◌}
use mathlib.Core.List.{List, [], ◌∷◌, ◌++◌}
use Prim.Native.Nat.{ℕ, zero, suc, ◌-◌, ◌<◌}
use native.Mathlib.Omega.{arith}
use lib.Dec.{eqb-suc-zero}
use lib.IntN.{pos}
use lib.ListN.{length, take, drop, replicate, get_or}
use lib.Seq.{take-append_seam}
use Rattle.std.specs.Prelude.{Result, Ok, Err}
use Rattle.answers.specs.declared.Refusal.{Refusal}
use Rattle.answers.specs.declared.Refusal.TheVariants.{
  WrongKind,
  WrongLength,
  WrongByte,
  WrongNames,
  EqualNames,
  WrongCount,
  WrongLines,
  WrongValues,
  NotMirrored,
  WrongListLength,
  OutOfRange,
  NoDistances,
  FewSlots,
  ShortBuffer,
  OutOfPlace,
  Unscored,
  NamesDiffer,
  SumOutOfRange,
  WrongSide,
}
use Rattle.answers.specs.Answers.{number, number_of, Answer, count_of, Answered, slots, filled}
use Rattle.answers.specs.Shared.{Shared, shared_set, shared_line}
use Rattle.answers.specs.Refined.{Refined, answered_weight}

-- a refusal has a number of its own, from 1 to 19
pub number_above : (e : Refusal) → 0 < number e
number_above WrongKind = omega arith
number_above WrongLength = omega arith
number_above WrongByte = omega arith
number_above WrongNames = omega arith
number_above EqualNames = omega arith
number_above WrongCount = omega arith
number_above WrongLines = omega arith
number_above WrongValues = omega arith
number_above NotMirrored = omega arith
number_above WrongListLength = omega arith
number_above OutOfRange = omega arith
number_above NoDistances = omega arith
number_above FewSlots = omega arith
number_above ShortBuffer = omega arith
number_above OutOfPlace = omega arith
number_above Unscored = omega arith
number_above NamesDiffer = omega arith
number_above SumOutOfRange = omega arith
number_above WrongSide = omega arith

pub number_most : (e : Refusal) → number e < 20
number_most WrongKind = omega arith
number_most WrongLength = omega arith
number_most WrongByte = omega arith
number_most WrongNames = omega arith
number_most EqualNames = omega arith
number_most WrongCount = omega arith
number_most WrongLines = omega arith
number_most WrongValues = omega arith
number_most NotMirrored = omega arith
number_most WrongListLength = omega arith
number_most OutOfRange = omega arith
number_most NoDistances = omega arith
number_most FewSlots = omega arith
number_most ShortBuffer = omega arith
number_most OutOfPlace = omega arith
number_most Unscored = omega arith
number_most NamesDiffer = omega arith
number_most SumOutOfRange = omega arith
number_most WrongSide = omega arith

-- no two refusals have one number
abbrev pub all_refusals : List Refusal
all_refusals =
    WrongKind
    ∷ WrongLength
    ∷ WrongByte
    ∷ WrongNames
    ∷ EqualNames
    ∷ WrongCount
    ∷ WrongLines
    ∷ WrongValues
    ∷ NotMirrored
    ∷ WrongListLength
    ∷ OutOfRange
    ∷ NoDistances
    ∷ FewSlots
    ∷ ShortBuffer
    ∷ OutOfPlace
    ∷ Unscored
    ∷ NamesDiffer
    ∷ SumOutOfRange
    ∷ WrongSide
    ∷ []

number_back : (e : Refusal) → get_or all_refusals (number e - 1) WrongKind ≡ e
number_back WrongKind = refl
number_back WrongLength = refl
number_back WrongByte = refl
number_back WrongNames = refl
number_back EqualNames = refl
number_back WrongCount = refl
number_back WrongLines = refl
number_back WrongValues = refl
number_back NotMirrored = refl
number_back WrongListLength = refl
number_back OutOfRange = refl
number_back NoDistances = refl
number_back FewSlots = refl
number_back ShortBuffer = refl
number_back OutOfPlace = refl
number_back Unscored = refl
number_back NamesDiffer = refl
number_back SumOutOfRange = refl
number_back WrongSide = refl

pub number_only : (e e' : Refusal) → number e ≡ number e' → e ≡ e'
number_only e e' h = sym (number_back e) ∙ ap (λ (k : ℕ). get_or all_refusals (k - 1) WrongKind) h ∙ number_back e'

-- an answer is told by its number and what was found
module _ {A : Type 0} where
  pub refused_with : {r : Result A Refusal} (e : Refusal) → number_of r ≡ number e → r ≡ Err e
  refused_with {r = Ok found} e h = let a = number_above e in absurd (omega (arith, a, h))
  refused_with {r = Err e'} e h = ap Err (number_only e' e h)

  pub answered_once : {k : ℕ} {found : A} {r r' : Result A Refusal} → Answered k found r → Answered k found r' → r' ≡ r
  answered_once {k = k} {found = x} {r = r} {r' = s} a b = go r s a.number b.number a.is_found b.is_found
    where
      go : (r r' : Result A Refusal) → number_of r ≡ k → number_of r' ≡ k → (k ≡ 0 → r ≡ Ok x) → (k ≡ 0 → r' ≡ Ok x) → r' ≡ r
      go (Ok y) r' p q f g = g (sym p) ∙ sym (f (sym p))
      go (Err e) r' p q f g = refused_with e (q ∙ sym p)

-- the only answer of a call whose checks give k and which otherwise finds this
unfoldable pub the_answer : {A : Type 0} → ℕ → A → Result A Refusal
the_answer zero found = Ok found
the_answer (suc k) found = Err (get_or all_refusals k WrongKind)

pub is_answer : {A : Type 0} {k : ℕ} {found : A} {r : Result A Refusal} → Answered k found r → r ≡ the_answer k found
unfolding the_answer
is_answer {k = zero} a = a.is_found refl
is_answer {A = A} {k = suc k} {r = r} a = go r a.number
  where
    go : (r : Result A Refusal) → number_of r ≡ suc k → r ≡ Err (get_or all_refusals k WrongKind)
    go (Ok x) h = absurd (omega (arith, h))
    go (Err e) h =
        let i : number e - 1 ≡ k = omega (arith, h) in
        ap Err (sym (number_back e) ∙ ap (λ (j : ℕ). get_or all_refusals j WrongKind) i)

-- which case an answer is
module _ {A : Type 0} where
  pub refused_is : {k : ℕ} {found : A} {e : Refusal} → Answered k found (Err e) → (number e ≡ k) × (k ≡ 0 → ⊥)
  refused_is {k = k} {e = e} a = (a.number, λ z. let h = number_above e in let i = a.number in omega (arith, h, i, z))

  pub found_is : {k : ℕ} {found a : A} → Answered k found (Ok a) → (k ≡ 0) × (a ≡ found)
  found_is h = let z = sym h.number in let e = h.is_found z in (z, cc)

  pub not_refused : {k : ℕ} {found : A} {r : Result A Refusal} → Answered k found r → number_of r ≡ 0 → r ≡ Ok found
  not_refused a none = a.is_found (sym a.number ∙ none)

-- the count is 0 on refusal
pub count_refused : (r : Answer) → number_of r ≢ 0 → count_of r ≡ 0
unfolding count_of
count_refused (Ok c) f = absurd (f refl)
count_refused (Err e) f = refl

pub found_count : {k c : ℕ} {r : Answer} → Answered k c r → k ≡ 0 → count_of r ≡ c
unfolding count_of
found_count a z = ap count_of (a.is_found z)

-- the slots of a refused call, and of one that was not refused
pub slots_refused {ℓ} : {A : Type ℓ} (k : ℕ) (result lent : List A) → 0 < k → slots k result lent ≡ lent
unfolding slots
slots_refused zero result lent h = absurd (omega arith)
slots_refused (suc k) result lent h = rw (eqb-suc-zero k)

pub slots_written {ℓ} : {A : Type ℓ} (result lent : List A) → slots 0 result lent ≡ result ++ drop (length result) lent
unfolding slots
slots_written result lent = refl

-- the first slots of a call that fills all further ones
pub filled_written {ℓ} : {A : Type ℓ} (nil : A) (result lent : List A) → take (length result) (filled nil 0 result lent) ≡ result
unfolding filled
filled_written nil result lent = take-append_seam result (replicate (length lent - length result) nil)

-- nothing is found on refusal
pub shared_nothing : (r : Shared) → number_of r ≢ 0 → (shared_set r ≡ 0) × (shared_line r ≡ 0)
unfolding shared_set shared_line
shared_nothing (Ok found) f = absurd (f refl)
shared_nothing (Err e) f = (refl, refl)

pub refined_nothing : (r : Refined) → number_of r ≢ 0 → answered_weight r ≡ pos 0
unfolding answered_weight
refined_nothing (Ok w) f = absurd (f refl)
refined_nothing (Err e) f = refl
