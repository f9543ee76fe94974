-- The text of a pair by its number, and of a row pair by pair.
use mathlib.Core.Path.{◌≡◌, refl, sym, ap, ap₂, ◌∙◌, subst}
use mathlib.Core.Bool.{true, false}
use mathlib.Core.List.{List, [], ◌∷◌, ◌++◌, map, append_assoc, append-nil, map-append}
use Prim.Native.Nat.{ℕ, suc, ◌+◌, ◌≤◌, ◌<◌}
use native.Mathlib.Numerals.{add-one}
use lib.IntN.{ℤ, pos, negsuc, nat_abs}
use lib.ListN.{length}
use native.Mathlib.Omega.{arith}
use Rattle.std.proofs.lemmas.Int.{ints}
use Rattle.std.specs.Int.{is_negative}
use lib.Dec.{T, lit≤}
use Rattle.lists.specs.Lists.{below, each}
use Rattle.lists.proofs.Lists.{each_below, each_map}
use Rattle.pairs.specs.declared.Carried.{Carried}
use Rattle.pairs.specs.declared.Carried.TheVariants.{Scored, Unscored}
use Rattle.pairs.specs.declared.Pair.{Pair}
use Rattle.pairs.specs.Pairs.{carried, pair_of}
use Rattle.clusters.specs.PairList.{Similarity, row_start, score, one_point, point_limit, score_limit, scores_in_range}
use Rattle.clusters.proofs.Scored.{list_allowed}
use Rattle.interface.specs.Sheet.{line_feed, space, cut}
use Rattle.interface.specs.Listing.{points_text, signed_points}
use Rattle.interface.specs.SheetText.{pair_text, joined, row_text, sheet_lines, sheet_text}
use Rattle.interface.proofs.Pieces.{joined_cut}
use Rattle.interface.proofs.Values.{pair_word}
use Rattle.listing.specs.declared.Text.{Text}
use Rattle.listing.specs.Put.{Put}
use Rattle.listing.proofs.Puts.{then}

-- the digits of a score, behind a minus if it is below 0
plain_digits : (z : ℤ) → is_negative z ≡ false → signed_points z ≡ points_text (nat_abs z)
unfolding signed_points
plain_digits (pos n) e = refl
plain_digits (negsuc n) e = absurd (subst T e tt)

signed_digits : (z : ℤ) → is_negative z ≡ true → signed_points z ≡ 45 ∷ points_text (nat_abs z)
unfolding signed_points
signed_digits (pos n) e = absurd (grind (arith, ints))
signed_digits (negsuc n) e = refl

-- what the pair of a number carries
pub carries : {z y : ℤ} {p : Pair} → p ≡ pair_of y → y ≡ z → p.carries ≡ carried z
unfolding pair_of
carries e f = rw (e, f) refl

-- put into a buffer
module _ {p : Carried} {a b : Text} where
  pub mark_put : p ≡ Unscored → Put a (45 ∷ []) b → Put a (pair_text p) b
  unfolding pair_text
  mark_put e q = rw e q

  module _ {z : ℤ} (scored : p ≡ Scored z) {k : ℕ} (digits : k ≡ nat_abs z) {c : Text} where
    pub plain_put : is_negative z ≡ false → c ≡ a → Put c (points_text k) b → Put a (pair_text p) b
    unfolding pair_text
    plain_put e same q = rw (scored, plain_digits z e, sym digits, sym same) q

    pub signed_put : is_negative z ≡ true → {m : Text} → c ≡ m → Put a (45 ∷ []) m → Put c (points_text k) b → Put a (pair_text p) b
    unfolding pair_text
    signed_put e same q r = rw (scored, signed_digits z e, sym digits) (then q (rw (sym same) r))

-- pieces with the byte c behind each but the last are joined by it
joined_last : (c : ℕ) (ws : List (List ℕ)) (w : List ℕ) → joined c (ws ++ (w ∷ [])) ≡ each ws (λ v. v ++ (c ∷ [])) ++ w
unfolding joined each
joined_last c [] w = refl
joined_last c (v ∷ []) w = sym (append_assoc v (c ∷ []) w) ∙ ap (λ (t : List ℕ). t ++ w) (sym (append-nil (v ++ (c ∷ []))))
joined_last c (v ∷ u ∷ ws) w =
    ap (λ (t : List ℕ). v ++ (c ∷ t)) (joined_last c (u ∷ ws) w)
    ∙ sym (append_assoc v (c ∷ []) (each (u ∷ ws) (λ v. v ++ (c ∷ [])) ++ w))
    ∙ sym (append_assoc (v ++ (c ∷ [])) (each (u ∷ ws) (λ v. v ++ (c ∷ []))) w)

-- the pairs of row i before j, each with a space behind it; one more; and the whole row
unfoldable pub cells_before : Similarity → ℕ → ℕ → List ℕ
cells_before s i j = each (below j) λ k. pair_text (carried (s i k)) ++ (space ∷ [])

pub no_cells : (s : Similarity) (i : ℕ) → cells_before s i 0 ≡ []
unfolding cells_before below each
no_cells s i = refl

pub cells_next : (s : Similarity) (i j : ℕ) → cells_before s i (j + 1) ≡ cells_before s i j ++ (pair_text (carried (s i j)) ++ (space ∷ []))
unfolding cells_before
cells_next s i j = rw (add-one j) (each_below j (λ k. pair_text (carried (s i k)) ++ (space ∷ [])))

pub row_cells : (n : ℕ) (s : Similarity) (i : ℕ) → row_text (suc n) s i ++ (line_feed ∷ []) ≡ cells_before s i n ++ (pair_text (carried (s i n)) ++ (line_feed ∷ []))
unfolding row_text cells_before below
row_cells n s i =
    let cell : ℕ → List ℕ = λ j. pair_text (carried (s i j)) in
    ap (λ (t : List ℕ). t ++ (line_feed ∷ []))
    (ap (joined space) (map-append cell (below n) (n ∷ [])) ∙ joined_last space (map cell (below n)) (cell n)
    ∙ ap (λ (t : List ℕ). t ++ cell n) (each_map (below n) cell (λ v. v ++ (space ∷ []))))
    ∙ append_assoc (each (below n) (λ k. cell k ++ (space ∷ []))) (cell n) (line_feed ∷ [])

-- a pair takes 9 bytes at most
pub cell_short : (n : ℕ) (l : List ℤ) → length l ≡ row_start n → T (scores_in_range l) → (i j : ℕ) → i < n → j < n
    → length (pair_text (carried (score l i j))) ≤ 9
unfolding score_limit one_point point_limit
cell_short n l e t i j h k = (pair_word (carried (score l i j)) (lit≤ tt) (list_allowed n l e t i j h k)).short

-- the rows before i, each with its line feed; one more; and line 1 with all of them is the sheet
unfoldable pub rows_before : ℕ → Similarity → ℕ → List ℕ
rows_before n s i = each (below i) λ k. row_text n s k ++ (line_feed ∷ [])

pub no_rows : (n : ℕ) (s : Similarity) → rows_before n s 0 ≡ []
unfolding rows_before below each
no_rows n s = refl

pub rows_next : (n : ℕ) (s : Similarity) (i : ℕ) → rows_before n s (i + 1) ≡ rows_before n s i ++ (row_text n s i ++ (line_feed ∷ []))
unfolding rows_before
rows_next n s i = rw (add-one i) (each_below i (λ k. row_text n s k ++ (line_feed ∷ [])))

pub all_rows : (line : List ℕ) (n : ℕ) (s : Similarity) → n ≡ length (cut space line) → (line ++ (line_feed ∷ [])) ++ rows_before n s n ≡ sheet_text (cut space line) s
unfolding rows_before sheet_text sheet_lines each
all_rows line n s e =
    let m = length (cut space line) in
    rw e (ap₂ (λ (t u : List ℕ). (t ++ (line_feed ∷ [])) ++ u) (sym (joined_cut space line)) (sym (each_map (below m) (row_text m s) (λ t. t ++ (line_feed ∷ [])))))
