-- Words: what the tests of their bytes say.
use mathlib.Core.Path.{◌≡◌}
use mathlib.Core.Bool.{Bool, true, false, ◌&&◌}
use mathlib.Core.List.{List, [], ◌∷◌}
use Prim.Native.Nat.{ℕ, ◌<◌}
use native.Mathlib.Omega.{arith}
use lib.Dec.{leb, leb-suc-suc}
use lib.ListN.{length, get_or, drop}
use Rattle.lists.specs.Lists.{all}
use Rattle.lists.proofs.Tests.{T_true, true_T, and_T}
use Rattle.interface.specs.Sheet.{is_upper, is_name}
use Rattle.text.specs.Reading.{is_name_byte}

pub and_both : (a b : Bool) → (a && b) ≡ true → (a ≡ true) × (b ≡ true)
and_both a b e = let (s, t) = and_T a b (true_T e) in (T_true s, T_true t)

-- a word by its first byte, its length and what follows
pub name_is : (s : List ℕ) → 0 < length s → is_name s ≡ is_upper (get_or s 0 0) && all is_name_byte (drop 1 s) && leb (length s) 8
unfolding is_name
name_is [] h = absurd (omega arith)
name_is (b ∷ w) h = rw (leb-suc-suc (length w) 7)

-- a test of the empty word
pub empty : (f : List ℕ → Bool) (s : List ℕ) → length s ≡ 0 → f [] ≡ false → f s ≡ false
empty f [] h e = e
empty f (b ∷ w) h e = absurd (omega arith)
