-- The groups that the engine found, as the listing's writer takes them.
use mathlib.Core.Path.{◌≡◌, ap}
use mathlib.Core.List.{List, map}
use Prim.Native.Nat.{ℕ, ◌^◌, ◌<◌, ◌≤◌}
use lib.IntN.{ℤ, pos}
use lib.Signed.{◌≤ℤ◌}
use Rattle.lists.specs.Lists.{◌∈◌}
use Rattle.lists.proofs.Lists.{map_cong}
use Rattle.integers.proofs.Linear.{zarith, up, dn}
use Rattle.sets.proofs.Sizes.{size_wide}
use Rattle.clusters.specs.PairList.{score}
use Rattle.clusters.specs.Groups.{Kind, groups}
use Rattle.clusters.specs.declared.Group.{Group}
use Rattle.clusters.proofs.Groups.{in_groups, listed_index}
use Rattle.interface.specs.Listing.{line_of, listing}
use Rattle.listing.specs.Natural.{Natural}

-- the size of a set of n entries is that of a set of 32
listing_wide : (n : ℕ) → n ≤ 32 → (found : List Group) → ((g : Group) → g ∈ found → g.set < 2 ^ n)
    → listing (map (line_of 32) found) ≡ listing (map (line_of n) found)
unfolding line_of
listing_wide n few found low = ap listing (map_cong (line_of 32) (line_of n) found λ g m.
    ap (λ (k : ℕ). record { set = g.set; size = k; index = g.index }) (size_wide n 32 g.set (low g m) few))

module _ (kind : Kind) (n : ℕ) (l : List ℤ) where
  found : List Group
  found = groups kind n (score l)

  low : (g : Group) → g ∈ found → g.set < 2 ^ n
  unfolding found
  low g m = ((in_groups kind n (score l) g).0 m).0

  natural : (g : Group) → g ∈ found → pos 0 ≤ℤ g.index
  unfolding found up dn
  natural g m = let (_, t, e) = (in_groups kind n (score l) g).0 m in omega (zarith, listed_index kind n (score l) g.set t)

  pub found_natural : Natural (groups kind n (score l))
  unfolding found
  found_natural g m = natural g m

  pub found_listing : n ≤ 32 → listing (map (line_of 32) (groups kind n (score l))) ≡ listing (map (line_of n) (groups kind n (score l)))
  unfolding found
  found_listing h = listing_wide n h found low
