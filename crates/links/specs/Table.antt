-- The code's own vocabulary, which nobody need believe: the table of the links between the blocks left, rows of 32
-- numbers. The link of two blocks is a quotient; the table has its numerator, and the denominator is the product of two
-- weights.
use Rattle.std.specs.Prelude.{◌≡◌, ◌≢◌, List, ℕ, ◌+◌, ◌*◌, ◌^◌, ◌≤◌, ◌<◌, ℤ, pos, ◌+ℤ◌, length, get_or, set}
use Rattle.integers.specs.Integers.{max_z}
use Rattle.integers.specs.Range.{Within}
use Rattle.clusters.specs.Linkage.{Quotient, ◌≼◌}
use Rattle.links.specs.declared.Found.{Found}
use Rattle.links.specs.declared.Method.{Method}
use Rattle.links.specs.declared.Method.TheVariants.{Single, Average}

-- what the table has for the blocks at the places a and b
abbrev pub entry : List ℤ → ℕ → ℕ → ℤ
entry t a b = get_or t (a * 32 + b) (pos 0)

-- the table with z there, both ways round
unfoldable pub stored : ℕ → ℕ → ℤ → List ℤ → List ℤ
stored a b z t = set (set t (a * 32 + b) z) (b * 32 + a) z

-- the table has f for any two of the first k places
pub record Holds (k : ℕ) (f : ℕ → ℕ → ℤ) (t : List ℤ) : Type 0 where
  pub size : k * 32 ≤ length t
  pub is : (a b : ℕ) → a < k → b < k → a ≢ b → entry t a b ≡ f a b

-- what stands for a place and itself, which is no link, is as it was
pub record OwnKept (t₀ t : List ℤ) : Type 0 where
  pub own : (a : ℕ) → a < 32 → entry t a a ≡ entry t₀ a a

-- what it has for any two of the first k places is of bounded size, and so is what stands for a place and itself
pub record Small (k : ℕ) (t : List ℤ) : Type 0 where
  pub size : k * 32 ≤ length t
  pub within : (a b : ℕ) → a < k → b < k → a ≢ b → Within (2 ^ 42) (entry t a b)
  pub own : (a : ℕ) → a < k → Within (2 ^ 47) (entry t a a)

-- in row i and column i, the first k numbers have become those of g; the rest stands
pub record Written (i : ℕ) (g : ℕ → ℤ) (k : ℕ) (t₀ t : List ℤ) : Type 0 where
  pub size : length t ≡ length t₀
  pub row : (q : ℕ) → q < k → entry t i q ≡ g q
  pub column : (q : ℕ) → q < k → entry t q i ≡ g q
  pub rest : (p q : ℕ) → p < 32 → q < 32 → (p ≡ i → k ≤ q) → (q ≡ i → k ≤ p) → entry t p q ≡ entry t₀ p q

-- the numerator for a union of two blocks: "the greatest score between the blocks (single) or the sum of scores"
-- (average)
unfoldable pub joined : Method → ℤ → ℤ → ℤ
joined Single x y = max_z x y
joined Average x y = x +ℤ y

-- those for the union of the blocks at i and j
unfoldable pub joined_row : Method → ℕ → ℕ → List ℤ → ℕ → ℤ
joined_row method i j t q = joined method (entry t i q) (entry t j q)

-- the link of the blocks at a and b, by the table and the weights
unfoldable pub quotient_at : List ℕ → List ℤ → ℕ → ℕ → Quotient
quotient_at w t a b = record { num = entry t a b; den = get_or w a 0 * get_or w b 0 }

-- the weights of the first k places
abbrev pub Weights : ℕ → List ℕ → Type 0
Weights k w = (a : ℕ) → a < k → (1 ≤ get_or w a 0) × (get_or w a 0 ≤ 32)

-- two of the first k places, in rising order, and the link of the blocks there, read in the later one's row, is at
-- least that of any such two
pub record GreatestAt (k : ℕ) (link : ℕ → ℕ → Quotient) (i j : ℕ) : Type 0 where
  pub rising : i < j
  pub inside : j < k
  pub most : (p q : ℕ) → p < q → q < k → link q p ≼ link j i

-- of those that stand before the place m of the table: what was found
pub record FoundBefore (w : List ℕ) (t : List ℤ) (m : ℕ) (f : Found) : Type 0 where
  pub rising : f.i < f.j
  pub inside : f.j * 32 + f.i < m
  pub num_is : f.num ≡ entry t f.j f.i
  pub den_is : f.den ≡ get_or w f.j 0 * get_or w f.i 0
  pub most : (p q : ℕ) → p < q → q * 32 + p < m → quotient_at w t q p ≼ quotient_at w t f.j f.i
