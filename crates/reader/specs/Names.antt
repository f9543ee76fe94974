-- Where the name of an entry stands: the code's own vocabulary, which nobody need believe.
use Rattle.std.specs.Prelude.{◌≡◌, List, ℕ, ◌-◌, ◌≤◌, length, take, drop}
use Rattle.interface.specs.Calls.{name_of, name_start}

pub record NamePart (s : List ℕ) (i from to : ℕ) : Type 0 where
  pub ordered : from ≤ to
  pub inside : to ≤ length s
  pub lies : from ≡ name_start s i
  pub bytes : take (to - from) (drop from s) ≡ name_of s i
