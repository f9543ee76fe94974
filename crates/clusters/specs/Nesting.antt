-- The smallest group that two entries share (document 02, 2.1), and the one around a group (2.7).
use Rattle.std.specs.Prelude.{◌≡◌, Bool, not, cond, ◌&&◌, ◌||◌, ◌≢◌, ◌↔◌, List, [], ◌∷◌, ℕ, zero, suc, ◌<◌, ◌≤◌, eqb}
use Rattle.std.specs.Prelude.{ltb, length, get_or}
use Rattle.lists.specs.Lists.{◌∈◌, all}
use Rattle.sets.specs.Sets.{has, ◌∋◌, ◌∌◌, members, size, all_entries, Subset}
-- "the set and its line, counted from 1 after the first line"; line 0 where no line was found
use Rattle.clusters.specs.declared.Hit.{Hit}

-- "goes down a .. result in its written order and stops at the first set" that passes a test; if none does, `other` and
-- line 0. The sets of the result stand on the lines from `line` on.
unfoldable pub first_from : (test : ℕ → Bool) (other line : ℕ) → List ℕ → Hit
first_from test other line [] = record { set = other; line = 0 }
first_from test other line (A ∷ result) =
    cond (test A) (record { set = A; line = line }) (first_from test other (suc line) result)

-- "holding both"
unfoldable pub holds_both : (i j A : ℕ) → Bool
holds_both i j A = has A i && has A j

-- "stops at the first set holding both .. If no line holds both, the answer is all n entries and line 0."
unfoldable pub smallest_shared : (n i j : ℕ) (result : List ℕ) → Hit
smallest_shared n i j result = first_from (holds_both i j) (all_entries n) 1 result

-- "the smallest found by reading all lines": a set that passes the test takes the place of what was found before, if
-- that was nothing or is larger
unfoldable pub replaces : (n : ℕ) (found : Hit) (A : ℕ) → Bool
replaces n found A = eqb found.line 0 || ltb (size n A) (size n found.set)

unfoldable pub smallest_from : (n : ℕ) (test : ℕ → Bool) (found : Hit) (line : ℕ) → List ℕ → Hit
smallest_from n test found line [] = found
smallest_from n test found line (A ∷ result) =
    smallest_from n test
    (cond (test A && replaces n found A) (record { set = A; line = line }) found)
    (suc line) result

unfoldable pub smallest_of_all : (n i j : ℕ) (result : List ℕ) → Hit
smallest_of_all n i j result = smallest_from n (holds_both i j) (record { set = all_entries n; line = 0 }) 1 result

-- the set A stands on this line, "counted from 1 after the first line"
abbrev pub OnLine : (result : List ℕ) (line A : ℕ) → Type 0
OnLine result zero A = ⊥
OnLine result (suc i) A = (i < length result) × (get_or result i 0 ≡ A)

-- B "strictly holds" A (2.7): it has every entry of A, and is another set
unfoldable pub strictly_holds : (n A B : ℕ) → Bool
strictly_holds n A B = all (has B) (members n A) && not (eqb A B)

-- "the smallest listed group that strictly holds this one, as a set, or all zeros if there is none": the first set of
-- the result that does
unfoldable pub around : (n A : ℕ) (result : List ℕ) → ℕ
around n A result = (first_from (strictly_holds n A) 0 1 result).set

-- The same in words. B strictly holds A: it has every entry of A, and one more.
pub record StrictlyHolds (n A B : ℕ) : Type 0 where
  pub every : Subset n A B
  pub more : (x : ℕ) × (x < n) × (B ∋ x) × (A ∌ x)

-- W is "the smallest listed group that strictly holds this one", A, "as a set, or all zeros if there is none"
pub record Around (n A : ℕ) (result : List ℕ) (W : ℕ) : Type 0 where
  -- 0 exactly if no listed set strictly holds A
  pub none : (W ≡ 0) ↔ ((B : ℕ) → B ∈ result → StrictlyHolds n A B → ⊥)
  -- else it is listed, and strictly holds A
  pub listed : W ≢ 0 → W ∈ result
  pub holds : W ≢ 0 → StrictlyHolds n A W
  -- it is held by every other listed set that does, and is smaller
  pub inside : (B : ℕ) → B ∈ result → StrictlyHolds n A B → B ≢ W → StrictlyHolds n W B × (size n W < size n B)
  -- it is the only one that is larger than none of them
  pub only : (B : ℕ) → B ∈ result → StrictlyHolds n A B
      → ((C : ℕ) → C ∈ result → StrictlyHolds n A C → size n B ≤ size n C) → B ≡ W
  -- it stands on a later line
  pub later : W ≢ 0 → (i j : ℕ) → OnLine result i A → OnLine result j W → i < j
