-- Check 19, by the number of members as the code counts them.
use mathlib.Core.Path.{◌≡◌, sym, ap, ap₂, ◌∙◌}
use mathlib.Core.Bool.{Bool, true, false, ◌||◌}
use Prim.Native.Nat.{ℕ, ◌+◌, ◌^◌, ◌<◌, ◌≤◌}
use native.Mathlib.Omega.{arith}
use native.Mathlib.Decide.{dec_lt}
use borrow.Author.Tests.{lt-ltb, le-ltb, lt-leb}
use lib.Dec.{leb, ltb, le→leb}
use Rattle.lists.proofs.Tests.{or_false, T_true, T_or_right}
use Rattle.sets.specs.Sets.{size, complement, all_entries}
use Rattle.sets.proofs.Sets.{size_complement}
use Rattle.sets.proofs.Sizes.{size_wide}
use Rattle.sets.proofs.Subsets.{all_entries_number}
use Rattle.interface.specs.Refusals.{wrong_side}

-- a member numbered n or more
pub wrong_member : (n A : ℕ) → all_entries n < A → wrong_side n A ≡ true
unfolding wrong_side
wrong_member n A h = T_true {b = ltb (size n A) 2 || ltb (size n (complement n A)) 2 || leb (2 ^ n) A}
    (T_or_right (ltb (size n A) 2 || ltb (size n (complement n A)) 2) (leb (2 ^ n) A) (le→leb (2 ^ n) A (omega (arith, all_entries_number n))))

-- no such member: m members, so n − m others
pub by_size : (n A : ℕ) {m : ℕ} → n ≤ 32 → A ≤ all_entries n → m ≡ size 32 A → ltb m 2 || ltb n (m + 2) ≡ wrong_side n A
unfolding wrong_side
by_size n A {m} few h e =
    let fits : A < 2 ^ n = omega (arith, all_entries_number n) in
    let is : m ≡ size n A = e ∙ size_wide n 32 A fits few in
    let rest = size_complement n A in
    ap₂ ◌||◌ (ap (λ (j : ℕ). ltb j 2) is) (others (dec_lt n (m + 2)) (omega arith)) ∙ sym (none (ltb (size n A) 2 || ltb (size n (complement n A)) 2) (lt-leb (2 ^ n) A fits))
  where
    others : Dec (n < m + 2) → size n (complement n A) + m ≡ n → ltb n (m + 2) ≡ ltb (size n (complement n A)) 2
    others (yes h) q = lt-ltb n (m + 2) h ∙ sym (lt-ltb (size n (complement n A)) 2 (omega arith))
    others (no h) q = le-ltb n (m + 2) (omega arith) ∙ sym (le-ltb (size n (complement n A)) 2 (omega arith))

    none : (b : Bool) {c : Bool} → c ≡ false → b || c ≡ b
    none b e = rw e (or_false b)
