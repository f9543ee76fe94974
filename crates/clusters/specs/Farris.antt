-- Anchored scores (document 01, Definitions): the Farris transform of 000, doubled, and the way back.
use Rattle.std.specs.Prelude.{Bool, ◌&&◌, List, ℕ, ℤ, pos, ◌+ℤ◌, ◌-ℤ◌}
use Rattle.lists.specs.Lists.{below, all}
use Rattle.integers.specs.Integers.{eq_z, half, even}
use Rattle.clusters.specs.PairList.{Similarity, score, pair_list, in_range, are_distances}

-- "for an anchor x, S(a,b) = d(a,x) + d(b,x) − d(a,b), over all of X, x included"
unfoldable pub farris : Similarity → ℕ → Similarity
farris d x a b = d a x +ℤ d b x -ℤ d a b

-- "Back: 2·d(a,b) = S(a,a) + S(b,b) − 2·S(a,b)"
unfoldable pub unfarris : Similarity → Similarity
unfarris S a b = half (S a a +ℤ S b b -ℤ (S a b +ℤ S a b))

-- both "in the order of the pair list", of n entries
unfoldable pub anchored_scores : ℕ → ℕ → List ℤ → List ℤ
anchored_scores n x l = pair_list n (farris (score l) x)

unfoldable pub distances_back : ℕ → List ℤ → List ℤ
distances_back n l = pair_list n (unfarris (score l))

-- what the third condition of 15 passes: the list is "the anchored scores, at that anchor, of .. distances passing 11
-- and 12" (theorem `anchored-iff`), found by computing: S(a,x) is 0, S(a,a) is even, and the distances back pass both
-- checks
unfoldable pub is_anchored : ℕ → ℕ → List ℤ → Bool
is_anchored n x l =
    all (λ a. eq_z (score l a x) (pos 0) && even (score l a a)) (below n)
    && in_range (distances_back n l) && are_distances n (distances_back n l)
