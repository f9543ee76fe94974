-- A sheet as it is written (document 01, The sheet), from its names and scores.
use Rattle.std.specs.Prelude.{List, [], ◌∷◌, ◌++◌, map, ℕ, length}
use Rattle.lists.specs.Lists.{below, each}
use Rattle.pairs.specs.declared.Carried.{Carried}
use Rattle.pairs.specs.declared.Carried.TheVariants.{Scored, Unscored}
use Rattle.pairs.specs.Pairs.{carried}
use Rattle.clusters.specs.PairList.{Similarity}
use Rattle.interface.specs.Sheet.{line_feed, space, minus}
use Rattle.interface.specs.Listing.{signed_points}

-- "A value is an optional minus and .. decimal digits, without a leading zero unless it is `0`"; it "may end in `.5`"
-- (document 02, 2.6); "the mark is a lone minus" (2.2)
unfoldable pub pair_text : Carried → List ℕ
pair_text (Scored z) = signed_points z
pair_text Unscored = minus ∷ []

-- pieces with the byte c between any two
unfoldable pub joined : (c : ℕ) → List (List ℕ) → List ℕ
joined c [] = []
joined c (w ∷ []) = w
joined c (w ∷ v ∷ ws) = w ++ (c ∷ joined c (v ∷ ws))

-- "n values, in the order of the names", "single spaces between": line i of the n value lines, counted from 0
unfoldable pub row_text : ℕ → Similarity → ℕ → List ℕ
row_text n s i = joined space (map (λ j. pair_text (carried (s i j))) (below n))

-- "Line 1 holds the n entry names, single spaces between. Then n lines of n values .. Each line ends with a line feed."
unfoldable pub sheet_lines : List (List ℕ) → Similarity → List (List ℕ)
sheet_lines names s = joined space names ∷ map (row_text (length names) s) (below (length names))

unfoldable pub sheet_text : List (List ℕ) → Similarity → List ℕ
sheet_text names s = each (sheet_lines names s) λ line. line ++ (line_feed ∷ [])
