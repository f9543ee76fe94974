-- What an answer says, and what then stands in the slots that were lent (document 01, Where a call is turned away).
use Rattle.std.specs.Prelude.{◌≡◌, Result, Ok, Err, cond, List, ◌++◌, ℕ, ◌-◌, eqb, length, drop, replicate}
use Rattle.answers.specs.declared.Refusal.{Refusal}
use Rattle.answers.specs.declared.Refusal.TheVariants.{
  WrongKind,
  WrongLength,
  WrongByte,
  WrongNames,
  EqualNames,
  WrongCount,
  WrongLines,
  WrongValues,
  NotMirrored,
  WrongListLength,
  OutOfRange,
  NoDistances,
  FewSlots,
  ShortBuffer,
  OutOfPlace,
  Unscored,
  NamesDiffer,
  SumOutOfRange,
  WrongSide,
}

-- the number of each refusal, which is that of its line in the table
abbrev pub number : Refusal → ℕ
number WrongKind = 1
number WrongLength = 2
number WrongByte = 3
number WrongNames = 4
number EqualNames = 5
number WrongCount = 6
number WrongLines = 7
number WrongValues = 8
number NotMirrored = 9
number WrongListLength = 10
number OutOfRange = 11
number NoDistances = 12
number FewSlots = 13
number ShortBuffer = 14
number OutOfPlace = 15
number Unscored = 16
number NamesDiffer = 17
number SumOutOfRange = 18
number WrongSide = 19

-- of whatever a call answers the refusal's number, 0 if it was not refused
abbrev pub number_of : {A : Type 0} → Result A Refusal → ℕ
number_of (Ok found) = 0
number_of (Err refusal) = number refusal

-- an answer with a count, "the count and length are 0" on refusal
abbrev pub Answer : Type 0
Answer = Result ℕ Refusal

unfoldable pub count_of : Answer → ℕ
count_of (Ok count) = count
count_of (Err refusal) = 0

-- the answer of a call whose checks give the number k, 0 for none, and which otherwise finds this
pub record Answered {A : Type 0} (k : ℕ) (found : A) (r : Result A Refusal) : Type 0 where
  pub number : number_of r ≡ k
  pub is_found : k ≡ 0 → r ≡ Ok found

-- the slots after a call whose checks give k: "Nothing lent is then written"; else the result, and "slots beyond are
-- not touched"
unfoldable pub slots {ℓ} : {A : Type ℓ} → ℕ → List A → List A → List A
slots k result lent = cond (eqb k 0) (result ++ drop (length result) lent) lent

-- the same for a call that "fills all further slots with 0"
unfoldable pub filled {ℓ} : {A : Type ℓ} → A → ℕ → List A → List A → List A
filled nil k result lent = cond (eqb k 0) (result ++ replicate (length lent - length result) nil) lent
