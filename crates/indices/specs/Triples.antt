-- The code's own vocabulary, which nobody need believe: the smallest weights of triples, kept one by one.
use mathlib.Core.List.{List, foldl}
use Rattle.std.specs.Prelude.{ℕ, ◌<◌, ℤ, ◌≤ℤ◌}
use Rattle.sets.specs.Sets.{◌∋◌, ◌∌◌, members, others}
use Rattle.smallest.specs.Smallest.{kept_with}
use Rattle.clusters.specs.PairList.{Similarity}
use Rattle.clusters.specs.Indices.{weight}
use Rattle.matrix.specs.Rows.{number}

-- the smallest of the numbers kept and the weights of the triples ab|c, as many as were kept: c outside A; b in A
-- before a; a in A
unfoldable pub keep_outside : ℕ → Similarity → ℕ → ℕ → ℕ → List ℤ → List ℤ
keep_outside n s A a b kept = foldl (λ l c. kept_with l (weight s a b c)) kept (others n A)

unfoldable pub keep_before : ℕ → Similarity → ℕ → ℕ → List ℤ → List ℤ
keep_before n s A a kept = foldl (λ l b. keep_outside n s A a b l) kept (members a A)

unfoldable pub keep_all : ℕ → Similarity → ℕ → List ℤ → List ℤ
keep_all n s A kept = foldl (λ l a. keep_before n s A a l) kept (members n A)

-- for each member a of A before i, a number that no score of a with an entry outside A exceeds
abbrev pub Near : ℕ → Similarity → ℕ → ℕ → List ℤ → Type 0
Near n s A i t = (a : ℕ) → a < i → A ∋ a → (c : ℕ) → c < n → A ∌ c → s a c ≤ℤ number t a
