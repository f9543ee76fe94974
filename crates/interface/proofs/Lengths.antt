-- How long a number in points, a line and a listing are.
use mathlib.Core.Path.{◌≡◌, refl, ap, ◌∙◌}
use mathlib.Core.List.Memᴰ
use mathlib.Core.List.{List, [], ◌∷◌, ◌++◌, map}
use Prim.Native.Nat.{ℕ, ◌+◌, ◌*◌, ◌/◌, ◌^◌, ◌<◌, ◌≤◌}
use native.Mathlib.Omega.{arith}
use lib.IntN.{ℤ, pos}
use lib.ListN.{length, length-append}
use Rattle.lists.specs.Lists.{◌∈◌, each}
use Rattle.lists.proofs.Lists.{each_map}
use Rattle.sets.specs.Sets.{size}
use Rattle.sets.proofs.Sets.{size_le}
use Rattle.clusters.specs.PairList.{one_point}
use Rattle.clusters.specs.declared.Group.{Group}
use Rattle.interface.specs.Sheet.{line_feed}
use Rattle.interface.specs.Listing.{line_of, hexadecimal, decimal, points_text, signed_points, first_text, line_text, first_line, listing}
use Rattle.interface.proofs.Digits.{length_digits, length_decimal}
use Rattle.interface.proofs.Points.{ending, ending_short, odd, points_parts}

pub length_points : (k : ℕ) → length (points_text k) ≤ length (decimal (k / 2)) + 2
unfolding one_point
length_points k = omega (arith, ap length (points_parts k), length-append (decimal (k / 2)) (ending (odd k)), ending_short (odd k))

-- the line of a group, with its line feed
abbrev pub line : ℕ → Group → List ℕ
line n group = line_text (line_of n group) ++ (line_feed ∷ [])

pub length_line : (n A k : ℕ) → length (line n (record { set = A; index = pos k })) ≡ length (decimal (size n A)) + length (points_text k) + 11
unfolding line_of line_text signed_points hexadecimal
length_line n A k = simp (length-append, length_digits) (omega arith)

-- a line of a group with an index of at most 9 digits before the point has at most 24 bytes
pub lines_length : (n : ℕ) → n ≤ 32 → (found : List Group) → ((g : Group) → g ∈ found → (k : ℕ) × (g.index ≡ pos k) × (k < 10 ^ 9))
    → length (each found (line n)) ≤ 24 * length found
unfolding each
lines_length n few [] f = omega arith
lines_length n few (g ∷ found) f =
    let (k, e, h) = f g (Memᴰ.head refl) in
    let a : length (line n g) ≡ length (decimal (size n g.set)) + length (points_text k) + 11 =
    ap (λ (z : ℤ). length (line n (record { set = g.set; index = z }))) e ∙ length_line n g.set k in
    let s = length_decimal 1 (size n g.set) (omega (arith, size_le n g.set)) in
    let d = length_decimal 8 (k / 2) (omega arith) in
    omega (arith, length_points k, length-append (line n g) (each found (line n)), lines_length n few found (λ g m. f g (Memᴰ.tail m)))

-- a listing, group by group
pub listing_groups : (n : ℕ) (groups : List Group) → listing (map (line_of n) groups) ≡ first_line ++ each groups (line n)
unfolding listing
listing_groups n groups = ap (λ (t : List ℕ). first_line ++ t) (each_map groups (line_of n) (λ l. line_text l ++ (line_feed ∷ [])))

pub length_listing : (n : ℕ) (groups : List Group) → length (listing (map (line_of n) groups)) ≡ 15 + length (each groups (line n))
unfolding first_line first_text
length_listing n groups = ap length (listing_groups n groups) ∙ length-append first_line (each groups (line n))
