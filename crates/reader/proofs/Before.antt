-- The checks of the table that have passed.
use mathlib.Core.Path.{◌≡◌, sym, ◌∙◌}
use mathlib.Core.Bool.{Bool, false}
use mathlib.Core.List.{List}
use Prim.Native.Nat.{ℕ}
use lib.ListN.{drop}
use Rattle.interface.specs.Sheet.{entries}
use Rattle.interface.specs.Refusals.{wrong_length, wrong_byte, wrong_names, equal_names, wrong_count, wrong_lines, reader_checks}
use Rattle.interface.proofs.Refusals.{Gives, first_no}

-- what a test says of what it answers
pub is : {r b v : Bool} → r ≡ b → r ≡ v → b ≡ v
is e t = sym e ∙ t

-- the first i checks have passed: what those left give, the table gives
abbrev pub Left : List ℕ → ℕ → Type 0
Left s i = (r : ℕ) → Gives (drop i (reader_checks s)) r → Gives (reader_checks s) r

-- behind checks 2 to 5, and 2 to 7
pub behind5 : (s : List ℕ) → wrong_length s ≡ false → wrong_byte s ≡ false → wrong_names s ≡ false → equal_names s ≡ false → Left s 4
unfolding reader_checks
behind5 s c2 c3 c4 c5 r g = first_no c2 (first_no c3 (first_no c4 (first_no c5 g)))

pub behind7 : (s : List ℕ) → wrong_length s ≡ false → wrong_byte s ≡ false → wrong_names s ≡ false → equal_names s ≡ false
    → wrong_count (entries s) ≡ false → wrong_lines s ≡ false → Left s 6
unfolding reader_checks
behind7 s c2 c3 c4 c5 c6 c7 r g = behind5 s c2 c3 c4 c5 r (first_no c6 (first_no c7 g))
