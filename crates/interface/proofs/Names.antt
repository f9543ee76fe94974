-- Names as byte lists: the tests of two equal ones, of one among others, and of two equal ones among them.
use mathlib.Core.Path.{◌≡◌, refl, subst}
use mathlib.Core.Bool.{false}
use mathlib.Core.Logic.{◌⊎◌, inl, inr}
use mathlib.Core.List.Memᴰ
use mathlib.Core.List.{List, [], ◌∷◌}
use Prim.Native.Nat.{ℕ}
use lib.Dec.{T, eqb, eqb_refl, T_not, not_T}
use Rattle.lists.specs.Lists.{◌∈◌, Distinct}
use Rattle.lists.proofs.Tests.{T_and, T_false, false_T, or_T, T_or_left, T_or_right, or_none}
use Rattle.interface.specs.Sheet.{same_bytes, is_among, has_equal}
use Rattle.interface.proofs.Pieces.{same_bytes_lem}

same_self : (w : List ℕ) → T (same_bytes w w)
unfolding same_bytes
same_self [] = tt
same_self (x ∷ w) = T_and (eqb x x) (same_bytes w w) (eqb_refl x) (same_self w)

pub equal_same : (v w : List ℕ) → v ≡ w → T (same_bytes v w)
equal_same v w e = subst (λ (u : List ℕ). T (same_bytes v u)) e (same_self v)

pub among_in : (w : List ℕ) (l : List (List ℕ)) → T (is_among w l) → w ∈ l
unfolding is_among
among_in w [] t = absurd t
among_in w (x ∷ l) t = go (or_T (same_bytes w x) (is_among w l) t) (among_in w l)
  where
    go : T (same_bytes w x) ⊎ T (is_among w l) → (T (is_among w l) → w ∈ l) → w ∈ x ∷ l
    go (inl s) ih = Memᴰ.head (same_bytes_lem w x s)
    go (inr s) ih = Memᴰ.tail (ih s)

pub in_among : (w : List ℕ) (l : List (List ℕ)) → w ∈ l → T (is_among w l)
unfolding is_among
in_among w [] x' = elim x' [ ]
in_among w (x ∷ l) (Memᴰ.head e) = T_or_left (same_bytes w x) (is_among w l) (equal_same w x e)
in_among w (x ∷ l) (Memᴰ.tail m) = T_or_right (same_bytes w x) (is_among w l) (in_among w l m)

-- what check 5 tests
pub distinct_names : (l : List (List ℕ)) → has_equal l ≡ false → Distinct l
unfolding has_equal
distinct_names [] e = tt
distinct_names (w ∷ l) e =
    let (a, r) = or_none (is_among w l) (has_equal l) e in
    (λ m. T_not (is_among w l) (false_T a) (in_among w l m), distinct_names l r)

pub names_distinct : (l : List (List ℕ)) → Distinct l → has_equal l ≡ false
unfolding has_equal
names_distinct [] d = refl
names_distinct (w ∷ l) d = rw (T_false {b = is_among w l} (not_T (is_among w l) (λ t. d.0 (among_in w l t)))) (names_distinct l d.1)
