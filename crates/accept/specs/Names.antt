-- Names as numbers: the code's own vocabulary, which a reader of the statements need not believe.
use Rattle.std.specs.Prelude.{◌≡◌, false, List, [], ◌∷◌, ℕ, ◌+◌, ◌*◌, ◌≤◌, T, length}
use Rattle.lists.specs.Lists.{all}
use Rattle.interface.specs.Sheet.{entries}
use Rattle.interface.specs.Refusals.{wrong_length, wrong_names, equal_names}
use Rattle.text.specs.Reading.{is_name_byte}
use Rattle.accept.specs.Places.{part, At}

-- bytes as the digits of a number in base 256, read on from v
unfoldable pub packed : ℕ → List ℕ → ℕ
packed v [] = v
packed v (b ∷ w) = packed (v * 256 + b) w

-- at p stand k bytes of names, and v is their number
pub record NameRun (s : List ℕ) (p v k : ℕ) : Type 0 where
  pub few : k ≤ 8
  pub inside : p + k ≤ length s
  pub bytes : T (all is_name_byte (part s p k))
  pub number : v ≡ packed 0 (part s p k)

-- line 1 was read: checks 4, 5 and 6 pass, and the value lines start at next
pub record LineRead (s : List ℕ) (count next : ℕ) : Type 0 where
  pub good : wrong_names s ≡ false
  pub different : equal_names s ≡ false
  pub number : count ≡ entries s
  pub some : 1 ≤ count
  pub few : count ≤ 32
  pub place : At s 0 0 next
  pub behind : 1 ≤ next

-- and check 2 passes
pub record NamesRead (s : List ℕ) (count next : ℕ) : Type 0 where
  pub right : wrong_length s ≡ false
  pub line : LineRead s count next
