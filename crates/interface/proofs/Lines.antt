-- A listing read back: what is written is read back as it was.
use mathlib.Core.Path.{◌≡◌, sym, ap, ◌∙◌, subst}
use mathlib.Core.Bool.{Bool, true, false, not, ◌&&◌, ◌||◌}
use mathlib.Core.List.{List, [], ◌∷◌, ◌++◌, map, append_assoc, map-map, map-id}
use mathlib.Core.Option.{some}
use Prim.Native.Nat.{ℕ, suc, ◌-◌, ◌/◌, ◌^◌, ◌<◌}
use native.Mathlib.Omega.{arith}
use lib.IntN.{ℤ, pos, nat_abs}
use lib.Signed.{◌≤ℤ◌}
use lib.Dec.{T, eqb, leb, le→leb}
use lib.ListN.{length, get_or, take, drop, length-append}
use lib.Seq.{take_at, get_or_at}
use Rattle.lists.specs.Lists.{◌∈◌, each, all}
use Rattle.lists.proofs.Tests.{and_T, T_and, T_true, true_T, or_first, eqb_yes}
use Rattle.lists.proofs.Lists.{in_all, all_in, of_map, map_cong, each_map}
use Rattle.clusters.specs.PairList.{one_point}
use Rattle.interface.specs.Sheet.{is_digit, half_text, longer, cut, lines, same_bytes}
use Rattle.interface.specs.Listing.{
  Line,
  hexadecimal,
  decimal,
  points_text,
  signed_points,
  first_text,
  line_text,
  first_line,
  listing,
  is_hex_digit,
  is_set,
  is_decimal,
  is_index,
  is_line,
  line_read,
  is_first,
  line_words,
  is_listing,
  listing_read,
}
use Rattle.interface.proofs.Digits.{natural}
use Rattle.interface.proofs.Numerals.{set_form, read_hexadecimal, decimal_run, decimal_form, read_decimal}
use Rattle.interface.proofs.Points.{ending, odd, points_parts, index_form, read_points}
use Rattle.interface.proofs.Pieces.{free, all_free, free_append, cut_last, cut_first, cut_ended}

-- no digit is a byte that is none, as a space or a line feed
module _ (c : ℕ) (no : T (not (is_hex_digit c))) where
  hex_free : (w : List ℕ) → T (all is_hex_digit w) → free c w
  hex_free w t = all_free is_hex_digit c no w t

  set_free : (A : ℕ) → free c (hexadecimal A)
  unfolding is_set
  set_free A = let w = hexadecimal A in hex_free w (and_T (eqb (length w) 8) (all is_hex_digit w) (set_form A)).1

  decimal_free : (k : ℕ) → free c (decimal k)
  unfolding is_hex_digit
  decimal_free k = let w = decimal k in hex_free w (in_all is_hex_digit w (λ b m. low b (all_in is_digit w (decimal_run k) m)))
    where
      low : (b : ℕ) → T (is_digit b) → T (is_digit b || leb 97 b && leb b 102)
      low b t = true_T {b = is_digit b || leb 97 b && leb b 102} (or_first {a = is_digit b} (leb 97 b && leb b 102) (T_true t))

  -- nor in a number in points
  points_free : free c half_text → (k : ℕ) → free c (points_text k)
  unfolding all
  points_free no-half k =
      let n = k / one_point in
      subst (λ (w : List ℕ). free c w) (sym (points_parts k)) (free_append c (decimal n) (ending (odd k)) (decimal_free n) (go (odd k)))
    where
      go : (h : Bool) → free c (ending h)
      go true = no-half
      go false = tt

-- three words with a space between them
cut_words : (u v w : List ℕ) → free 32 u → free 32 v → free 32 w → cut 32 (u ++ (32 ∷ []) ++ v ++ (32 ∷ []) ++ w) ≡ u ∷ v ∷ w ∷ []
cut_words u v w f g h =
    ap (cut 32) (simp append_assoc)
    ∙ cut_first 32 u (v ++ (32 ∷ w)) f
    ∙ ap (λ (l : List (List ℕ)). u ∷ l) (cut_first 32 v w g ∙ ap (λ (l : List (List ℕ)). v ∷ l) (cut_last 32 w h))

-- a line whose index has no sign: its words, no line feed in it, its form, and what is read
module _ (A m k : ℕ) where
  abbrev said : Line
  said = record { set = A; size = m; index = pos k }

  said_words : cut 32 (line_text said) ≡ hexadecimal A ∷ decimal m ∷ points_text k ∷ []
  unfolding line_text signed_points is_hex_digit is_digit half_text all
  said_words = cut_words (hexadecimal A) (decimal m) (points_text k) (set_free 32 tt A) (decimal_free 32 tt m) (points_free 32 tt tt k)

  said_free : free 10 (line_text said)
  unfolding line_text signed_points is_hex_digit is_digit half_text all
  said_free =
      let u = hexadecimal A in
      let v = decimal m in
      free_append 10 (u ++ (32 ∷ []) ++ v ++ (32 ∷ [])) (points_text k)
      (free_append 10 (u ++ (32 ∷ []) ++ v) (32 ∷ [])
      (free_append 10 (u ++ (32 ∷ [])) v (free_append 10 u (32 ∷ []) (set_free 10 tt A) tt) (decimal_free 10 tt m)) tt)
      (points_free 10 tt tt k)

  said_form : T (is_line (cut 32 (line_text said)))
  unfolding is_line
  said_form = subst (λ (ws : List (List ℕ)). T (is_line ws)) (sym said_words)
      (T_and (is_set (hexadecimal A) && is_decimal (decimal m)) (is_index (points_text k))
      (T_and (is_set (hexadecimal A)) (is_decimal (decimal m)) (set_form A) (decimal_form m)) (index_form k))

  said_read : A < 16 ^ 8 → line_read (cut 32 (line_text said)) ≡ said
  unfolding line_read
  said_read h = ap line_read said_words ∙ rw (read_hexadecimal A h, read_decimal m, read_points k)

-- a line that 8 digits have room for, with an index without a sign
pub record Readable (l : Line) : Type 0 where
  pub fits : l.set < 16 ^ 8
  pub natural : pos 0 ≤ℤ l.index

module _ {l : Line} (r : Readable l) where
  as_said : said l.set l.size (nat_abs l.index) ≡ l
  as_said = ap (λ (z : ℤ). record { set = l.set; size = l.size; index = z }) (natural l.index r.natural).1

  line_free : free 10 (line_text l)
  line_free = subst (λ (x : Line). free 10 (line_text x)) as_said (said_free l.set l.size (nat_abs l.index))

  line_form : T (is_line (cut 32 (line_text l)))
  line_form = subst (λ (x : Line). T (is_line (cut 32 (line_text x)))) as_said (said_form l.set l.size (nat_abs l.index))

  line_read_lem : line_read (cut 32 (line_text l)) ≡ l
  line_read_lem = subst (λ (x : Line). line_read (cut 32 (line_text x)) ≡ x) as_said (said_read l.set l.size (nat_abs l.index) r.fits)

-- the pieces of a listing: the first line, the lines, nothing behind the last line feed
cut_lines : (ls : List Line) → ((l : Line) → l ∈ ls → Readable l) → cut 10 (each ls (λ l. line_text l ++ (10 ∷ []))) ≡ map line_text ls ++ ([] ∷ [])
cut_lines ls f =
    ap (cut 10) (sym (each_map ls line_text (λ w. w ++ (10 ∷ []))))
    ∙ cut_ended 10 (map line_text ls) (λ w m. let (l, k, e) = of_map line_text ls m in subst (λ (t : List ℕ). free 10 t) (sym e) (line_free (f l k)))

listing_pieces : (ls : List Line) → ((l : Line) → l ∈ ls → Readable l) → lines (listing ls) ≡ first_text ∷ (map line_text ls ++ ([] ∷ []))
unfolding lines listing first_line first_text all
listing_pieces ls f =
    cut_first 10 first_text (each ls (λ l. line_text l ++ (10 ∷ []))) tt ∙ ap (λ (x : List (List ℕ)). first_text ∷ x) (cut_lines ls f)

-- the pieces between the first and the last; there are two or more, and the last is empty
between : {A : Type 0} (x z : A) (l : List A) → take (length (x ∷ (l ++ (z ∷ []))) - 2) (drop 1 (x ∷ (l ++ (z ∷ [])))) ≡ l
between x z l = take_at l (z ∷ []) (suc (length (l ++ (z ∷ []))) - 2) (omega (arith, length-append l (z ∷ [])))

two_pieces : {A : Type 0} (x z : A) (l : List A) → T (leb 2 (length (x ∷ (l ++ (z ∷ [])))))
two_pieces x z l = le→leb 2 (suc (length (l ++ (z ∷ [])))) (omega (arith, length-append l (z ∷ [])))

empty_last : (x : List ℕ) (l : List (List ℕ)) → let p = x ∷ (l ++ ([] ∷ [])) in T (eqb (length (get_or p (length p - 1) [])) 0)
empty_last x l =
    let p : List (List ℕ) = x ∷ (l ++ ([] ∷ [])) in
    eqb_yes (length (get_or p (length p - 1) [])) 0
    (ap length (get_or_at {A = List ℕ} (x ∷ l) [] [] [] (length p - 1) (omega (arith, length-append l ([] ∷ [])))))

first_is : T (is_first (cut 32 first_text))
unfolding is_first first_text cut longer same_bytes
first_is = tt

is_listing_lem : (s : List ℕ) → let p = lines s in T (leb 2 (length p)) → T (is_first (cut 32 (get_or p 0 []))) → T (all is_line (line_words s))
    → T (eqb (length (get_or p (length p - 1) [])) 0) → T (is_listing s)
unfolding is_listing
is_listing_lem s two first form last =
    let p = lines s in
    let a = leb 2 (length p) in
    let b = is_first (cut 32 (get_or p 0 [])) in
    let c = all is_line (line_words s) in
    T_and (a && b && c) (eqb (length (get_or p (length p - 1) [])) 0) (T_and (a && b) c (T_and a b two first) form) last

module _ (ls : List Line) (f : (l : Line) → l ∈ ls → Readable l) where
  listing_words : line_words (listing ls) ≡ map (λ l. cut 32 (line_text l)) ls
  unfolding line_words
  listing_words =
      rw (listing_pieces ls f) (ap (map (cut 32)) (between first_text [] (map line_text ls)) ∙ map-map (cut 32) line_text ls)

  listing_form : T (is_listing (listing ls))
  listing_form =
      let words : Line → List (List ℕ) = λ l. cut 32 (line_text l) in
      let form : T (all is_line (map words ls)) = in_all is_line (map words ls) λ ws m.
      let (l, ml, e) = of_map words ls m in
      subst (λ (w : List (List ℕ)). T (is_line w)) (sym e) (line_form (f l ml)) in
      let e = listing_pieces ls f in
      let texts = map line_text ls in
      is_listing_lem (listing ls)
      (subst (λ (p : List (List ℕ)). T (leb 2 (length p))) (sym e) (two_pieces first_text [] texts))
      (subst (λ (p : List (List ℕ)). T (is_first (cut 32 (get_or p 0 [])))) (sym e) first_is)
      (subst (λ (w : List (List (List ℕ))). T (all is_line w)) (sym listing_words) form)
      (subst (λ (p : List (List ℕ)). T (eqb (length (get_or p (length p - 1) [])) 0)) (sym e) (empty_last first_text texts))

  -- what is written is read back as it was
  pub listing_read_lem : listing_read (listing ls) ≡ some ls
  unfolding listing_read
  listing_read_lem =
      let words : Line → List (List ℕ) = λ l. cut 32 (line_text l) in
      let same : map line_read (line_words (listing ls)) ≡ ls =
      ap (map line_read) listing_words ∙ map-map line_read words ls
      ∙ map_cong (λ l. line_read (words l)) (λ l. l) ls (λ l m. line_read_lem (f l m)) ∙ map-id ls in
      rw (T_true {b = is_listing (listing ls)} listing_form, same)
