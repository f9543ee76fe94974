-- Bytes, pieces, names and values of a sheet: 2 to 8 beside their sentences.
use mathlib.Core.Path.{◌≡◌, refl, sym, ap, ◌∙◌, subst}
use mathlib.Core.Bool.{Bool, true, false, not, cond, ◌||◌}
use mathlib.Core.Logic.{◌⊎◌, inl, inr, ⊎_elim, ◌≢◌, ◌↔◌}
use mathlib.Core.List.Memᴰ
use mathlib.Core.List.{List, [], ◌∷◌, ◌++◌}
use Prim.Native.Nat.{ℕ, zero, suc, ◌+◌, ◌<◌}
use native.Mathlib.Omega.{arith}
use native.Mathlib.Decide.{ℕ_discrete}
use lib.Dec.{T, T_not, not_T, eqb, eqb→eq}
use lib.ListN.{length, length-append, get_or}
use lib.Seq.{get_or_at}
use Rattle.lists.specs.Lists.{◌∈◌, below, keep}
use Rattle.lists.proofs.Tests.{or_T, T_or_left, T_or_right, T_true, eqb_yes}
use Rattle.lists.proofs.Lists.{lt_below, below_lt, in_all, in_keep, of_keep, some_length, no_element, get_d_in, place_of}
use Rattle.pairs.specs.Pairs.{list_number, carried}
use Rattle.interface.specs.Sheet.{
  is_upper,
  is_digit,
  is_name,
  is_cell,
  pair_said,
  longer,
  cut,
  lines,
  names,
  entries,
  words,
  is_among,
  has_equal,
}
use Rattle.interface.specs.Refusals.{most_bytes, wrong_length, is_allowed, wrong_byte, wrong_names, equal_names, most_entries, wrong_count, wrong_lines, is_row, wrong_values}
use Rattle.interface.proofs.Pieces.{some_piece, longer_length, free, cut_last, cut_first}
use Rattle.interface.proofs.Names.{among_in, in_among}
use Rattle.demands.proofs.Cells.{cell_says, says_cell}
use Rattle.demands.specs.Sentences.{
  Upper,
  Digit,
  Name,
  Cell,
  count,
  Pieces,
  last_piece,
  first_piece,
  Parted,
  NoneOrTooMany,
  OtherByte,
  NoNames,
  TwoEqual,
  NoneOrOver32,
  EndsInFeed,
  NotSoManyLines,
  IllFormed,
}
use Rattle.demands.proofs.Agree.{Says, or_says, and_says, not_says, like, eq_says, le_says, lt_says, all_says, some_says}

-- pieces
pieces_longer : {c b : ℕ} {t : List ℕ} {ws : List (List ℕ)} → c ≢ b → Pieces c t ws → Pieces c (b ∷ t) (longer b ws)
unfolding longer
pieces_longer d (last_piece f) = last_piece (λ m. ⊎_elim d f (Memᴰ.cases_cons m))
pieces_longer d (first_piece f r) = first_piece (λ m. ⊎_elim d f (Memᴰ.cases_cons m)) r

pub cut_pieces : (c : ℕ) (s : List ℕ) → Pieces c s (cut c s)
unfolding cut
cut_pieces c [] = last_piece (λ m. Memᴰ.not-nil m)
cut_pieces c (b ∷ t) = go (eqb b c) refl (cut_pieces c t)
  where
    go : (x : Bool) → eqb b c ≡ x → Pieces c t (cut c t) → Pieces c (b ∷ t) (cond x ([] ∷ cut c t) (longer b (cut c t)))
    go true e p = subst (λ (d : ℕ). Pieces c (d ∷ t) ([] ∷ cut c t)) (sym (eqb→eq b c (subst (λ x. T x) (sym e) tt))) (first_piece (λ m. Memᴰ.not-nil m) p)
    go false e p = pieces_longer (λ q. T_not (eqb b c) (subst (λ x. T (not x)) (sym e) tt) (eqb_yes b c (sym q))) p

without : {c : ℕ} {w : List ℕ} → (c ∈ w → ⊥) → free c w
without {c} {w} f = in_all (λ b. not (eqb b c)) w (λ b m. not_T (eqb b c) (λ t. f (Memᴰ.cast (sym (eqb→eq b c t)) m)))

pub pieces_cut : {c : ℕ} {s : List ℕ} {ws : List (List ℕ)} → Pieces c s ws → cut c s ≡ ws
pieces_cut {c} (last_piece {w} f) = cut_last c w (without f)
pieces_cut {c} (first_piece {w} {rest} f r) = cut_first c w rest (without f) ∙ ap (λ (l : List (List ℕ)). w ∷ l) (pieces_cut r)

pub parted : (s : List ℕ) → Parted s
unfolding lines names entries words
parted s = record {
  by_feeds = cut_pieces 10 s;
  by_spaces = cut_pieces 32 (get_or (lines s) 0 []);
  number = refl;
  values_by_spaces = λ i. cut_pieces 32 (get_or (lines s) (suc i) []);
}

-- one piece more than there are bytes between them
pub pieces_count : (c : ℕ) (s : List ℕ) → length (cut c s) ≡ suc (count c s)
unfolding cut keep
pieces_count c [] = refl
pieces_count c (b ∷ t) = go (eqb b c) (pieces_count c t)
  where
    go : (x : Bool) → length (cut c t) ≡ suc (count c t)
        → length (cond x ([] ∷ cut c t) (longer b (cut c t))) ≡ suc (length (cond x (b ∷ keep (λ b. eqb b c) t) (keep (λ b. eqb b c) t)))
    go true e = ap suc e
    go false e = longer_length b (cut c t) (some_piece c t) ∙ e

pub none_counted : (c : ℕ) (s : List ℕ) → (count c s ≡ 0) ↔ (c ∈ s → ⊥)
none_counted c s = (
  λ e m. let h = some_length (keep is s) (in_keep is m (eqb_yes c c refl)) in omega (arith, h),
  λ f. ap length (no_element (keep is s) (λ x m. let (k, t) = of_keep is s m in f (Memᴰ.cast (sym (eqb→eq x c t)) k))),
)
  where
    is : ℕ → Bool
    is b = eqb b c

-- the last byte
data End : List ℕ → Type 0 where
  empty : End []
  ends : (front : List ℕ) (b : ℕ) → End (front ++ (b ∷ []))

end : (s : List ℕ) → End s
end [] = empty
end (x ∷ t) = go (end t)
  where
    go : {t : List ℕ} → End t → End (x ∷ t)
    go empty = ends [] x
    go (ends front b) = ends (x ∷ front) b

longer_snoc : (b : ℕ) (ws : List (List ℕ)) → 0 < length ws → longer b (ws ++ ([] ∷ [])) ≡ longer b ws ++ ([] ∷ [])
unfolding longer
longer_snoc b [] h = absurd (omega arith)
longer_snoc b (w ∷ ws) h = refl

cut_snoc : (c : ℕ) (front : List ℕ) → cut c (front ++ (c ∷ [])) ≡ cut c front ++ ([] ∷ [])
unfolding cut
cut_snoc c [] = rw (T_true {b = eqb c c} (eqb_yes c c refl))
cut_snoc c (b ∷ t) = go (eqb b c) (cut_snoc c t)
  where
    go : (x : Bool) → cut c (t ++ (c ∷ [])) ≡ cut c t ++ ([] ∷ [])
        → cond x ([] ∷ cut c (t ++ (c ∷ []))) (longer b (cut c (t ++ (c ∷ [])))) ≡ cond x ([] ∷ cut c t) (longer b (cut c t)) ++ ([] ∷ [])
    go true e = ap (λ (l : List (List ℕ)). [] ∷ l) e
    go false e = ap (longer b) e ∙ longer_snoc b (cut c t) (some_piece c t)

longer_last : (b : ℕ) (ws : List (List ℕ)) (k : ℕ) → length ws ≡ suc k → 0 < length (get_or ws k []) → 0 < length (get_or (longer b ws) k [])
unfolding longer
longer_last b [] k e h = absurd (omega arith)
longer_last b (w ∷ ws) zero e h = omega arith
longer_last b (w ∷ ws) (suc k) e h = h

last_some : (c b : ℕ) → b ≢ c → (front : List ℕ) (k : ℕ) → length (cut c (front ++ (b ∷ []))) ≡ suc k → 0 < length (get_or (cut c (front ++ (b ∷ []))) k [])
unfolding cut longer
last_some c b d [] k = go (eqb b c) refl k
  where
    go : (x : Bool) → eqb b c ≡ x → (k : ℕ) → length (cond x ([] ∷ [] ∷ []) ((b ∷ []) ∷ [])) ≡ suc k → 0 < length (get_or (cond x ([] ∷ [] ∷ []) ((b ∷ []) ∷ [])) k [])
    go true q k e = absurd (d (eqb→eq b c (subst (λ x. T x) (sym q) tt)))
    go false q zero e = omega arith
    go false q (suc k) e = absurd (omega arith)
last_some c b d (y ∷ t) k = go (eqb y c) k (last_some c b d t)
  where
    rest : List (List ℕ)
    rest = cut c (t ++ (b ∷ []))

    go : (x : Bool) (k : ℕ) → ((k : ℕ) → length rest ≡ suc k → 0 < length (get_or rest k [])) → length (cond x ([] ∷ rest) (longer y rest)) ≡ suc k
        → 0 < length (get_or (cond x ([] ∷ rest) (longer y rest)) k [])
    go true zero ih e = absurd (omega (arith, some_piece c (t ++ (b ∷ []))))
    go true (suc k) ih e = ih k (omega arith)
    go false k ih e =
        let q : length rest ≡ suc k = sym (longer_length y rest (some_piece c (t ++ (b ∷ [])))) ∙ e in
        longer_last y rest k q (ih k q)

-- 2, 3, 6
pub two_says : (s : List ℕ) → Says (wrong_length s) (NoneOrTooMany s)
unfolding wrong_length most_bytes
two_says s = or_says (eq_says (length s) 0) (lt_says 12288 (length s))

upper_says : (b : ℕ) → Says (is_upper b) (Upper b)
unfolding is_upper
upper_says b = and_says (le_says 65 b) (le_says b 90)

digit_says : (b : ℕ) → Says (is_digit b) (Digit b)
unfolding is_digit
digit_says b = and_says (le_says 48 b) (le_says b 57)

allowed_says : (b : ℕ) → Says (is_allowed b) (((((Upper b ⊎ Digit b) ⊎ (b ≡ 45)) ⊎ (b ≡ 46)) ⊎ (b ≡ 32)) ⊎ (b ≡ 10))
unfolding is_allowed
allowed_says b = or_says (or_says (or_says (or_says (or_says (upper_says b) (digit_says b)) (eq_says b 45)) (eq_says b 46)) (eq_says b 32)) (eq_says b 10)

pub three_says : (s : List ℕ) → Says (wrong_byte s) (OtherByte s)
unfolding wrong_byte
three_says s = like (some_says allowed_says s)
    (λ (b, m, f). record {
      byte = b;
      there = m;
      no_upper = λ u. f (inl (inl (inl (inl (inl u)))));
      no_digit = λ d. f (inl (inl (inl (inl (inr d)))));
      none_of_four = (λ e. f (inl (inl (inl (inr e)))), λ e. f (inl (inl (inr e))), λ e. f (inl (inr e)), λ e. f (inr e));
    })
    (λ o. (o.byte, o.there, none o))
  where
    none : (o : OtherByte s) → ((((((Upper o.byte ⊎ Digit o.byte) ⊎ (o.byte ≡ 45)) ⊎ (o.byte ≡ 46)) ⊎ (o.byte ≡ 32)) ⊎ (o.byte ≡ 10))) → ⊥
    none o (inl (inl (inl (inl (inl u))))) = o.no_upper u
    none o (inl (inl (inl (inl (inr d))))) = o.no_digit d
    none o (inl (inl (inl (inr e)))) = o.none_of_four.0 e
    none o (inl (inl (inr e))) = o.none_of_four.1 e
    none o (inl (inr e)) = o.none_of_four.2 e
    none o (inr e) = o.none_of_four.3 e

pub six_says : (n : ℕ) → Says (wrong_count n) (NoneOrOver32 n)
unfolding wrong_count most_entries
six_says n = or_says (eq_says n 0) (lt_says 32 n)

-- 4, 5
pub name_says : (w : List ℕ) → Says (is_name w) (Name w)
unfolding is_name
name_says [] = record { to = λ t. absurd t; from = λ n. absurd (omega (arith, n.bytes.0)) }
name_says (b ∷ w) =
    let parts = and_says (and_says (upper_says b) (all_says (λ c. or_says (upper_says c) (digit_says c)) w)) (le_says (length w) 7) in
    like parts
    (λ ((u, rest), few). record { bytes = (omega arith, omega arith); first = u; others = λ c m. go c u rest (Memᴰ.cases_cons m) })
    (λ n. ((n.first, λ c m. n.others c (Memᴰ.tail m)), omega (arith, n.bytes.1)))
  where
    go : (c : ℕ) → Upper b → ((c : ℕ) → c ∈ w → Upper c ⊎ Digit c) → (c ≡ b) ⊎ (c ∈ w) → Upper c ⊎ Digit c
    go c u rest (inl e) = inl (subst Upper (sym e) u)
    go c u rest (inr m) = rest c m

no_feed_says : (s : List ℕ) → Says (eqb (length (lines s)) 1) (10 ∈ s → ⊥)
unfolding lines
no_feed_says s = like (eq_says (length (lines s)) 1)
    (λ e. (none_counted 10 s).0 (omega (arith, pieces_count 10 s)))
    (λ f. let z = (none_counted 10 s).1 f in omega (arith, pieces_count 10 s, z))

pub four_says : (s : List ℕ) → Says (wrong_names s) (NoNames s)
unfolding wrong_names
four_says s = or_says (no_feed_says s) (some_says name_says (names s))

equal_to : (l : List (List ℕ)) → T (has_equal l) → TwoEqual l
unfolding has_equal
equal_to [] t = absurd t
equal_to (w ∷ l) t = go (or_T (is_among w l) (has_equal l) t) (equal_to l)
  where
    go : T (is_among w l) ⊎ T (has_equal l) → (T (has_equal l) → TwoEqual l) → TwoEqual (w ∷ l)
    go (inl a) ih = let (j, h, e) = place_of l [] (among_in w l a) in record { i = 0; j = suc j; apart = omega arith; there = omega arith; same = e }
    go (inr r) ih = let x = ih r in record { i = suc x.i; j = suc x.j; apart = omega (arith, x.apart); there = omega (arith, x.there); same = x.same }

equal_from : (l : List (List ℕ)) (i j : ℕ) → i < j → j < length l → get_or l i [] ≡ get_or l j [] → T (has_equal l)
unfolding has_equal
equal_from [] i j a h e = absurd (omega arith)
equal_from (w ∷ l) i zero a h e = absurd (omega arith)
equal_from (w ∷ l) zero (suc j) a h e = T_or_left (is_among w l) (has_equal l) (in_among w l (Memᴰ.cast e (get_d_in l j [] (omega arith))))
equal_from (w ∷ l) (suc i) (suc j) a h e = T_or_right (is_among w l) (has_equal l) (equal_from l i j (omega arith) (omega arith) e)

pub equal_says : (l : List (List ℕ)) → Says (has_equal l) (TwoEqual l)
equal_says l = record { to = equal_to l; from = λ x. equal_from l x.i x.j x.apart x.there x.same }

pub five_says : (s : List ℕ) → Says (equal_names s) (TwoEqual (names s))
unfolding equal_names
five_says s = equal_says (names s)

-- 7
pub seven_says : (s : List ℕ) → Says (wrong_lines s) (NotSoManyLines s)
unfolding wrong_lines lines
seven_says s = record { to = λ t. fore (or_T (not (eqb (length (cut 10 s)) (n + 2))) (not (eqb (length tail) 0)) t) (ℕ_discrete (count 10 s) (suc n)); from = λ x. rear x (ℕ_discrete (count 10 s) (suc n)) }
  where
    n : ℕ
    n = entries s

    tail : List ℕ
    tail = get_or (cut 10 s) (n + 1) []

    none : count 10 s ≡ suc n → (0 < length tail) → EndsInFeed s → ⊥
    none e h (front, q) =
        let long : length (cut 10 front) ≡ n + 1 = omega (arith, pieces_count 10 s, ap (λ (t : List ℕ). length (cut 10 t)) q, ap length (cut_snoc 10 front), length-append (cut 10 front) ([] ∷ [])) in
        let z : tail ≡ [] = ap (λ (t : List ℕ). get_or (cut 10 t) (n + 1) []) q ∙ ap (λ (l : List (List ℕ)). get_or l (n + 1) []) (cut_snoc 10 front) ∙ get_or_at (cut 10 front) [] [] [] (n + 1) long in
        omega (arith, h, ap length z)

    fore : T (not (eqb (length (cut 10 s)) (n + 2))) ⊎ T (not (eqb (length tail) 0)) → Dec (count 10 s ≡ suc n) → NotSoManyLines s
    fore _ (no f) = inl f
    fore (inl t) (yes e) = absurd ((not_says (eq_says (length (cut 10 s)) (n + 2))).to t (omega (arith, pieces_count 10 s, e)))
    fore (inr t) (yes e) = inr (none e (let f = (not_says (eq_says (length tail) 0)).to t in omega (arith, f)))

    last : (k : ℕ) → length (cut 10 s) ≡ suc (suc k) → (EndsInFeed s → ⊥) → 0 < length (get_or (cut 10 s) (suc k) [])
    last k e f = go (end s) e f
      where
        go : {t : List ℕ} → End t → length (cut 10 t) ≡ suc (suc k) → (EndsInFeed t → ⊥) → 0 < length (get_or (cut 10 t) (suc k) [])
        go empty e f = absurd (omega (arith, pieces_count 10 [], ap length (pieces_cut {c = 10} (last_piece {w = []} (λ m. Memᴰ.not-nil m)))))
        go (ends front b) e f = last_some 10 b (λ q. f (front, ap (λ (c : ℕ). front ++ (c ∷ [])) q)) front (suc k) e

    rear : NotSoManyLines s → Dec (count 10 s ≡ suc n) → T (not (eqb (length (cut 10 s)) (n + 2)) || not (eqb (length tail) 0))
    rear _ (no f) = T_or_left (not (eqb (length (cut 10 s)) (n + 2))) (not (eqb (length tail) 0))
        ((not_says (eq_says (length (cut 10 s)) (n + 2))).from (λ e. f (omega (arith, pieces_count 10 s))))
    rear (inl f) (yes e) = absurd (f e)
    rear (inr f) (yes e) = T_or_right (not (eqb (length (cut 10 s)) (n + 2))) (not (eqb (length tail) 0))
        ((not_says (eq_says (length tail) 0)).from (λ q. let h = last n (omega (arith, pieces_count 10 s, e)) f in
        let one : n + 1 ≡ suc n = omega arith in omega (arith, h, ap (λ (k : ℕ). length (get_or (cut 10 s) k [])) one, q)))

-- 8
pub formed_says : (w : List ℕ) → Says (is_cell w) (Cell w)
formed_says w = record { to = λ t. (carried (list_number (pair_said w)), cell_says w t); from = λ (_, says). says_cell says }

row_says : (n : ℕ) (ws : List (List ℕ)) → Says (is_row n ws) ((length ws ≡ n) × ((w : List ℕ) → w ∈ ws → Cell w))
unfolding is_row
row_says n ws = and_says (eq_says (length ws) n) (all_says formed_says ws)

pub eight_says : (s : List ℕ) → Says (wrong_values s) (IllFormed s)
unfolding wrong_values is_row
eight_says s = record {
  to = λ t. let (i, m, f) = (some_says {p = λ i. is_row (entries s) (words s i)} (λ i. row_says (entries s) (words s i)) (below (entries s))).to t in
      record { i = i; line = below_lt (entries s) m; ill = which i f (ℕ_discrete (length (words s i)) (entries s)) };
  from = λ x. (some_says {p = λ i. is_row (entries s) (words s i)} (λ i. row_says (entries s) (words s i)) (below (entries s))).from (x.i, lt_below (entries s) x.i x.line, λ (e, are). wrong x.i e are x.ill);
}
  where
    which : (i : ℕ) → ((length (words s i) ≡ entries s) × ((w : List ℕ) → w ∈ words s i → Cell w) → ⊥) → Dec (length (words s i) ≡ entries s)
        → (length (words s i) ≢ entries s) ⊎ ((w : List ℕ) × (w ∈ words s i) × (Cell w → ⊥))
    which i f (no d) = inl d
    which i f (yes e) = inr ((some_says formed_says (words s i)).to ((not_says (all_says formed_says (words s i))).from (λ are. f (e, are))))

    wrong : (i : ℕ) → length (words s i) ≡ entries s → ((w : List ℕ) → w ∈ words s i → Cell w)
        → (length (words s i) ≢ entries s) ⊎ ((w : List ℕ) × (w ∈ words s i) × (Cell w → ⊥)) → ⊥
    wrong i e are (inl f) = f e
    wrong i e are (inr (w, m, f)) = f (are w m)
