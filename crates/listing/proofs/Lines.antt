-- Laws of lines: their fields, their lengths, and the lines of the groups, one by one.
use mathlib.Core.Path.{◌≡◌, refl, sym, subst, ap}
use mathlib.Core.List.{List, [], ◌∷◌, ◌++◌, map, append-nil}
use Prim.Native.Nat.{ℕ, ◌+◌, ◌/◌, ◌^◌, ◌<◌, ◌≤◌}
use native.Mathlib.Numerals.{add-one}
use native.Mathlib.Omega.{arith}
use lib.IntN.{ℤ, pos, nat_abs}
use lib.Signed.{◌≤ℤ◌}
use lib.ListN.{length, get_or, take, drop}
use lib.Seq.{take-suc}
use Rattle.lists.specs.Lists.{each}
use Rattle.lists.proofs.Lists.{each_append}
use Rattle.sets.specs.Sets.{size}
use Rattle.clusters.specs.declared.Group.{Group}
use Rattle.interface.specs.Listing.{line_of, digits, hexadecimal, decimal, points_text, signed_points, line_text, first_line, listing}
use Rattle.interface.proofs.Digits.{length_decimal, natural}
use Rattle.interface.proofs.Lengths.{length_points, listing_groups}
use Rattle.listing.specs.Lines.{line}
use Rattle.listing.specs.Put.{Put}
use Rattle.listing.specs.declared.Text.{Text}

-- the three fields, and the byte after each
pub line_fields : (g : Group) {s : ℕ} {z : ℤ} → pos 0 ≤ℤ g.index → s ≡ size 32 g.set → z ≡ g.index
    → line 32 g ≡ digits 16 8 g.set ++ (32 ∷ []) ++ decimal s ++ (32 ∷ []) ++ points_text (nat_abs z) ++ (10 ∷ [])
unfolding line line_of line_text signed_points hexadecimal
line_fields g h e p = rw (e, p, ← (natural g.index h).1) refl

-- an index is short
pub few_points : {k : ℕ} {a b : Text} → Put a (points_text k) b → k < 2 ^ 64 → b.at ≤ a.at + 21
few_points {k} p h = omega (arith, p.place, length_points k, length_decimal 18 (k / 2) (omega arith))

-- a listing, group by group
pub listing_put : (n : ℕ) (groups : List Group) (l : List ℕ) {r : ℕ} {m : List ℕ} → let text = first_line ++ each groups (line n) in
    (r ≡ length text) × (m ≡ text ++ drop r l) → let ls = map (line_of n) groups in (r ≡ length (listing ls)) × (m ≡ listing ls ++ drop r l)
unfolding line
listing_put n groups l {r} {m} p = subst (λ (t : List ℕ). (r ≡ length t) × (m ≡ t ++ drop r l)) (sym (listing_groups n groups)) p

-- the lines of the first i groups, and of one more
pub lines_next : (groups : List Group) (i : ℕ) (none : Group) → i < length groups
    → each (take (i + 1) groups) (line 32) ≡ each (take i groups) (line 32) ++ line 32 (get_or groups i none)
unfolding each
lines_next groups i none h = rw (add-one i, take-suc groups i none h, each_append) (ap (λ (t : List ℕ). each (take i groups) (line 32) ++ t) (append-nil _))
