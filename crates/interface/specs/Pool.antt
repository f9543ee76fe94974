-- The pool of two sheets (document 02, 2.4).
use Rattle.std.specs.Prelude.{cond, List, [], ◌∷◌, ℕ, suc, ℤ, get_or}
use Rattle.clusters.specs.PairList.{Similarity, score, pair_list}
use Rattle.clusters.specs.Pooling.{pooled}
use Rattle.interface.specs.Sheet.{names, entries, pairs, same_bytes}
use Rattle.interface.specs.SheetText.{sheet_text}

-- the place of a name among names, counted from 0; how many they are, if it is not there
unfoldable pub place_of : List ℕ → List (List ℕ) → ℕ
place_of w [] = 0
place_of w (x ∷ l) = cond (same_bytes w x) 0 (suc (place_of w l))

-- "the names stand in the first sheet's order, whatever the second's": where the second has the name of entry i
unfoldable pub place_on : (first second : List ℕ) → ℕ → ℕ
place_on first second i = place_of (get_or (names first) i []) (names second)

-- "each score is the sum": of the two sheets' scores of two names
unfoldable pub pool_scores : (first second : List ℕ) → Similarity
pool_scores first second = pooled (place_on first second) (score (pairs first)) (score (pairs second))

unfoldable pub pool_pairs : (first second : List ℕ) → List ℤ
pool_pairs first second = pair_list (entries first) (pool_scores first second)

-- "The pool is written as a sheet"
unfoldable pub pool_text : (first second : List ℕ) → List ℕ
pool_text first second = sheet_text (names first) (pool_scores first second)
