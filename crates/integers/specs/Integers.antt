-- The least, the greatest and the sum of whole numbers, the numbers in rising order, halves.
use Rattle.std.specs.Prelude.{Bool, cond, ◌&&◌, List, [], ◌∷◌, ℕ, ℤ, pos, ◌+ℤ◌, ◌≤ℤ◌, take}
use Rattle.std.specs.Int.Signed.{le_z, quot_z}
use Rattle.lists.specs.Lists.{◌∈◌}

-- the smaller and the larger of two
unfoldable pub min_z : ℤ → ℤ → ℤ
min_z a b = cond (le_z a b) a b

unfoldable pub max_z : ℤ → ℤ → ℤ
max_z a b = cond (le_z a b) b a

-- the two are equal
unfoldable pub eq_z : ℤ → ℤ → Bool
eq_z a b = le_z a b && le_z b a

-- the least and the greatest of a list; 0 of none
unfoldable pub least : List ℤ → ℤ
least [] = pos 0
least (x ∷ []) = x
least (x ∷ y ∷ l) = min_z x (least (y ∷ l))

unfoldable pub greatest : List ℤ → ℤ
greatest [] = pos 0
greatest (x ∷ []) = x
greatest (x ∷ y ∷ l) = max_z x (greatest (y ∷ l))

-- the sum of f x over the elements x
unfoldable pub sum_of {ℓ} : {A : Type ℓ} → List A → (A → ℤ) → ℤ
sum_of [] f = pos 0
sum_of (x ∷ l) f = f x +ℤ sum_of l f

unfoldable pub sum : List ℤ → ℤ
sum l = sum_of l (λ x. x)

-- the numbers in rising order, equal ones counted each
unfoldable pub insert : ℤ → List ℤ → List ℤ
insert x [] = x ∷ []
insert x (y ∷ l) = cond (le_z x y) (x ∷ y ∷ l) (y ∷ insert x l)

unfoldable pub sort : List ℤ → List ℤ
sort [] = []
sort (x ∷ l) = insert x (sort l)

-- the numbers rise
abbrev pub Sorted : List ℤ → Type 0
Sorted [] = Unit {0}
Sorted (x ∷ l) = ((y : ℤ) → y ∈ l → x ≤ℤ y) × Sorted l

-- the sum of the k smallest, equal ones counted each
unfoldable pub sum_of_smallest : ℕ → List ℤ → ℤ
sum_of_smallest k l = sum (take k (sort l))

-- half of an even number
unfoldable pub half : ℤ → ℤ
half z = quot_z z (pos 2)

unfoldable pub even : ℤ → Bool
even z = eq_z (half z +ℤ half z) z
