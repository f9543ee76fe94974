-- The sum of the k smallest of the numbers f x, x in a list, is the least sum of f over k different elements of the list.
use mathlib.Core.Path.{◌≡◌, sym, ap, ◌∙◌, subst₂}
use mathlib.Core.List.{List, map}
use Prim.Native.Nat.{ℕ, ◌≤◌}
use lib.IntN.{ℤ}
use lib.Signed.{◌≤ℤ◌}
use lib.ListN.{length, take, length-map}
use Rattle.lists.specs.Lists.{◌∈◌, Distinct}
use Rattle.lists.proofs.Lists.{of_take, map_take}
use Rattle.lists.proofs.Distinct.{distinct_take}
use Rattle.integers.specs.Integers.{sum_of, sum, sort, sum_of_smallest}
use Rattle.integers.proofs.Sums.{sum_map, sum_inside}
use Rattle.integers.proofs.Sorting.{sort_by, map_sort_by, of_sort_by, distinct_sort_by}
use Rattle.integers.proofs.Smallest.{length_smallest, smallest_among}

-- m has k different elements of l
pub record Choice {ℓ} {X : Type ℓ} (l : List X) (k : ℕ) (m : List X) : Type ℓ where
  pub number : length m ≡ k
  pub different : Distinct m
  pub inside : (x : X) → x ∈ m → x ∈ l

module _ {ℓ} {X : Type ℓ} (f : X → ℤ) where
  -- no choice has a smaller sum
  pub choice_least : {l : List X} {k : ℕ} {m : List X} → Choice l k m → sum_of_smallest k (map f l) ≤ℤ sum_of m f
  unfolding sum
  choice_least {l} {m = m} c = subst₂ (λ (j : ℕ) z. sum_of_smallest j (map f l) ≤ℤ z) (length-map m f ∙ c.number) (sum_map f m (λ x. x))
      (smallest_among (map f l) (map f m) λ φ nn.
      subst₂ ◌≤ℤ◌ (sym (sum_map f m φ)) (sym (sum_map f l φ)) (sum_inside m l c.different c.inside (λ x. φ (f x)) (λ x. nn (f x))))

  -- the first k in the order of their numbers have this sum
  pub choice_attained : (l : List X) → Distinct l → (k : ℕ) → k ≤ length l → (m : List X) × Choice l k m × (sum_of_smallest k (map f l) ≡ sum_of m f)
  unfolding sum_of_smallest sum
  choice_attained l d k h = (m, c, ap (λ (y : List ℤ). sum_of y (λ x. x)) (sym numbers) ∙ sum_map f m (λ x. x))
    where
      m : List X
      m = take k (sort_by f l)

      numbers : map f m ≡ take k (sort (map f l))
      numbers = map_take f k (sort_by f l) ∙ ap (take k) (map_sort_by f l)

      c : Choice l k m
      c = record {
        number = sym (length-map m f) ∙ ap length numbers ∙ length_smallest k (map f l) (rw length-map h);
        different = distinct_take k (sort_by f l) (distinct_sort_by f l d);
        inside = λ x p. of_sort_by f l (of_take k (sort_by f l) p);
      }
