-- The written form is canonical: what is read back from bytes of this form determines them.
use mathlib.Core.Path.{◌≡◌, refl, sym, ap, ap₂, ◌∙◌}
use mathlib.Core.Bool.{Bool, true, false, cond, ◌&&◌}
use mathlib.Core.List.{List, [], ◌∷◌, ◌++◌, map, head-eq_of_cons-eq, tail-eq_of_cons-eq}
use mathlib.Core.Option.{some, none, some-injective, none-ne-some}
use Prim.Native.Nat.{ℕ, suc, ◌-◌, ◌<◌, ◌≤◌}
use native.Mathlib.Omega.{arith}
use lib.Dec.{T, eqb, leb, leb→le, eqb→eq}
use lib.IntN.{nat_abs}
use lib.ListN.{length, get_or, take, drop}
use lib.Seq.{take-suc, take-length}
use Rattle.lists.specs.Lists.{all}
use Rattle.lists.proofs.Lists.{no_length}
use Rattle.lists.proofs.Tests.{and_T}
use Rattle.interface.specs.Sheet.{cut, lines, same_bytes}
use Rattle.interface.specs.Listing.{Line, hexadecimal, decimal, points_text, is_set, is_decimal, is_index, is_line, line_read, is_first, line_words, is_listing, listing_read}
use Rattle.interface.proofs.Numerals.{set_back, decimal_back}
use Rattle.interface.proofs.Points.{index_back}
use Rattle.interface.proofs.Pieces.{cut_once, same_bytes_lem}

-- the words of a line are told by what it says
words_of : Line → List (List ℕ)
words_of l = hexadecimal l.set ∷ decimal l.size ∷ points_text (nat_abs l.index) ∷ []

three_words : (ws : List (List ℕ)) → length ws ≡ 3 → ws ≡ get_or ws 0 [] ∷ get_or ws 1 [] ∷ get_or ws 2 [] ∷ []
three_words [] e = absurd (omega arith)
three_words (u ∷ []) e = absurd (omega arith)
three_words (u ∷ v ∷ []) e = absurd (omega arith)
three_words (u ∷ v ∷ w ∷ []) e = refl
three_words (u ∷ v ∷ w ∷ x ∷ l) e = absurd (omega arith)

line_back : (ws : List (List ℕ)) → T (is_line ws) → ws ≡ words_of (line_read ws)
unfolding is_line line_read words_of
line_back ws t =
    let u = get_or ws 0 [] in
    let v = get_or ws 1 [] in
    let w = get_or ws 2 [] in
    let (t₂, index) = and_T (eqb (length ws) 3 && is_set u && is_decimal v) (is_index w) t in
    let (t₁, size) = and_T (eqb (length ws) 3 && is_set u) (is_decimal v) t₂ in
    let (three, set) = and_T (eqb (length ws) 3) (is_set u) t₁ in
    three_words ws (eqb→eq (length ws) 3 three) ∙ sym (rw (set_back u set, decimal_back v size, index_back w index))

-- two lines of the form that say the same are the same bytes
pub line_once : (u w : List ℕ) → T (is_line (cut 32 u)) → T (is_line (cut 32 w)) → line_read (cut 32 u) ≡ line_read (cut 32 w) → u ≡ w
line_once u w tu tw e = cut_once 32 u w (line_back (cut 32 u) tu ∙ ap words_of e ∙ sym (line_back (cut 32 w) tw))

-- a list of lines, each cut into its words
abbrev cut_all : List (List ℕ) → List (List (List ℕ))
cut_all l = map (cut 32) l

lines_once : (l m : List (List ℕ)) → T (all is_line (cut_all l)) → T (all is_line (cut_all m)) → map line_read (cut_all l) ≡ map line_read (cut_all m) → l ≡ m
unfolding all
lines_once [] [] tl tm e = refl
lines_once [] (w ∷ m) tl tm e = absurd (omega (arith, ap length e))
lines_once (u ∷ l) [] tl tm e = absurd (omega (arith, ap length e))
lines_once (u ∷ l) (w ∷ m) tl tm e =
    let (hu, rl) = and_T (is_line (cut 32 u)) (all is_line (cut_all l)) tl in
    let (hw, rm) = and_T (is_line (cut 32 w)) (all is_line (cut_all m)) tm in
    ap₂ ◌∷◌ (line_once u w hu hw (head-eq_of_cons-eq e)) (lines_once l m rl rm (tail-eq_of_cons-eq e))

-- the first line is told by its words
first_once : (u w : List ℕ) → T (is_first (cut 32 u)) → T (is_first (cut 32 w)) → u ≡ w
unfolding is_first
first_once u w tu tw = cut_once 32 u w (first_words (cut 32 u) tu ∙ sym (first_words (cut 32 w) tw))
  where
    words : List (List ℕ)
    words = (115 ∷ 101 ∷ 116 ∷ []) ∷ (115 ∷ 105 ∷ 122 ∷ 101 ∷ []) ∷ (105 ∷ 110 ∷ 100 ∷ 101 ∷ 120 ∷ []) ∷ []

    first_words : (ws : List (List ℕ)) → T (is_first ws) → ws ≡ words
    first_words ws t =
        let u = get_or ws 0 [] in
        let v = get_or ws 1 [] in
        let w = get_or ws 2 [] in
        let a = same_bytes u (115 ∷ 101 ∷ 116 ∷ []) in
        let b = same_bytes v (115 ∷ 105 ∷ 122 ∷ 101 ∷ []) in
        let c = same_bytes w (105 ∷ 110 ∷ 100 ∷ 101 ∷ 120 ∷ []) in
        let (t₂, index) = and_T (eqb (length ws) 3 && a && b) c t in
        let (t₁, size) = and_T (eqb (length ws) 3 && a) b t₂ in
        let (three, set) = and_T (eqb (length ws) 3) a t₁ in
        three_words ws (eqb→eq (length ws) 3 three) ∙ rw (same_bytes_lem u _ set, same_bytes_lem v _ size, same_bytes_lem w _ index)

-- the first piece, those between, and the last
front_last : {A : Type 0} (q : List A) (d : A) → 0 < length q → q ≡ take (length q - 1) q ++ (get_or q (length q - 1) d ∷ [])
front_last q d h =
    let e : suc (length q - 1) ≡ length q = omega arith in
    sym (take-length q) ∙ ap (λ (k : ℕ). take k q) (sym e) ∙ take-suc q (length q - 1) d (omega arith)

piece_parts : (p : List (List ℕ)) → 2 ≤ length p → p ≡ get_or p 0 [] ∷ (take (length p - 2) (drop 1 p) ++ (get_or p (length p - 1) [] ∷ []))
piece_parts [] h = absurd (omega arith)
piece_parts (x ∷ q) h =
    let e : suc (length q) - 2 ≡ length q - 1 = omega arith in
    let f : suc (length q) - 1 ≡ suc (length q - 1) = omega arith in
    ap (λ (r : List (List ℕ)). x ∷ r) (front_last q [] (omega arith) ∙ ap₂ (λ (i j : ℕ). take i q ++ (get_or (x ∷ q) j [] ∷ [])) (sym e) (sym f))

between : List ℕ → List (List ℕ)
between s = take (length (lines s) - 2) (drop 1 (lines s))

listing_pieces : (s : List ℕ) → T (is_listing s)
    → (lines s ≡ get_or (lines s) 0 [] ∷ (between s ++ ([] ∷ []))) × T (is_first (cut 32 (get_or (lines s) 0 []))) × T (all is_line (cut_all (between s)))
unfolding is_listing line_words between
listing_pieces s t =
    let p = lines s in
    let first = is_first (cut 32 (get_or p 0 [])) in
    let (t₃, last) = and_T (leb 2 (length p) && first && all is_line (line_words s)) (eqb (length (get_or p (length p - 1) [])) 0) t in
    let (t₂, form) = and_T (leb 2 (length p) && first) (all is_line (line_words s)) t₃ in
    let (two, one) = and_T (leb 2 (length p)) first t₂ in
    let empty = no_length (get_or p (length p - 1) []) (eqb→eq (length (get_or p (length p - 1) [])) 0 last) in
    (piece_parts p (leb→le 2 (length p) two) ∙ ap (λ (z : List ℕ). get_or p 0 [] ∷ (between s ++ (z ∷ []))) empty, one, form)

pub is_read : (s : List ℕ) {ls : List Line} → listing_read s ≡ some ls → T (is_listing s) × (map line_read (line_words s) ≡ ls)
unfolding listing_read
is_read s {ls} e = go (is_listing s) e
  where
    go : (b : Bool) → cond b (some (map line_read (line_words s))) none ≡ some ls → T b × (map line_read (line_words s) ≡ ls)
    go true e = (tt, some-injective (map line_read (line_words s)) ls e)
    go false e = absurd (none-ne-some ls e)

-- each line that is read is of the form
pub lines_form : (s : List ℕ) → T (is_listing s) → T (all is_line (line_words s))
unfolding line_words between
lines_form s t = (listing_pieces s t).2

-- two texts of which the same lines are read are the same bytes
pub listing_once : (s t : List ℕ) {ls : List Line} → listing_read s ≡ some ls → listing_read t ≡ some ls → s ≡ t
unfolding line_words between lines
listing_once s t rs rt =
    let (hs, es) = is_read s rs in
    let (ht, et) = is_read t rt in
    let (ps, fs, ls) = listing_pieces s hs in
    let (pt, ft, lt) = listing_pieces t ht in
    let first = first_once (get_or (lines s) 0 []) (get_or (lines t) 0 []) fs ft in
    let same = lines_once (between s) (between t) ls lt (es ∙ sym et) in
    cut_once 10 s t (ps ∙ ap₂ (λ (x : List ℕ) (l : List (List ℕ)). x ∷ (l ++ ([] ∷ []))) first same ∙ sym pt)
