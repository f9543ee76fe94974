-- Where a name starts: behind as many spaces as there are names before it, and before the first line feed.
use mathlib.Core.Path.{◌≡◌, refl, sym, ap, ap₂, ◌∙◌, subst}
use mathlib.Core.Logic.{⊎_elim}
use mathlib.Core.List.Memᴰ
use mathlib.Core.List.{List, [], ◌∷◌, ◌++◌, append-nil, append_assoc}
use Prim.Native.Nat.{ℕ, zero, suc, ◌+◌, ◌*◌, ◌<◌}
use native.Mathlib.Omega.{arith}
use lib.Dec.{eqb}
use lib.ListN.{length, length-append, get_or, take, drop}
use lib.Seq.{take-append-add, take-append_seam, drop-append-add}
use Rattle.lists.specs.Lists.{◌∈◌, keep}
use Rattle.lists.proofs.Lists.{keep_append, get_d_in}
use Rattle.interface.specs.Sheet.{cut, lines, names, entries}
use Rattle.interface.specs.SheetText.{joined}
use Rattle.interface.specs.Calls.{start_of}
use Rattle.interface.proofs.Pieces.{some_piece, joined_cut}
use Rattle.demands.specs.Sentences.{count, Pieces, last_piece, first_piece}
use Rattle.demands.proofs.AgreeText.{cut_pieces, none_counted}

-- no piece has the byte between
piece_free : {c : ℕ} {s : List ℕ} {ws : List (List ℕ)} → Pieces c s ws → {w : List ℕ} → w ∈ ws → c ∈ w → ⊥
piece_free {c} (last_piece f) m k = f (subst (λ (u : List ℕ). c ∈ u) (Memᴰ.eq_of_singleton m) k)
piece_free {c} (first_piece f r) m k = ⊎_elim (λ e. f (subst (λ (u : List ℕ). c ∈ u) e k)) (λ n. piece_free r n k) (Memᴰ.cases_cons m)

in_joined : (c x : ℕ) (ws : List (List ℕ)) {w : List ℕ} → w ∈ ws → x ∈ w → x ∈ joined c ws
unfolding joined
in_joined c x [] {w = w} m k = elim m [ ]
in_joined c x (v ∷ []) m k = subst (λ (u : List ℕ). x ∈ u) (Memᴰ.eq_of_singleton m) k
in_joined c x (v ∷ u ∷ ws) m k = ⊎_elim
    (λ e. Memᴰ.append_left (c ∷ joined c (u ∷ ws)) (subst (λ (w : List ℕ). x ∈ w) e k))
    (λ n. Memᴰ.append_right v (Memᴰ.tail (in_joined c x (u ∷ ws) n k)))
    (Memᴰ.cases_cons m)

count_append : (d : ℕ) (v w : List ℕ) → count d (v ++ w) ≡ count d v + count d w
count_append d v w = ap length (keep_append (λ b. eqb b d) v w) ∙ length-append (keep (λ b. eqb b d) v) (keep (λ b. eqb b d) w)

-- how often d stands before piece i, if no piece has it and it stands e times between two
before : (d c e : ℕ) → count d (c ∷ []) ≡ e → (ws : List (List ℕ)) (t : List ℕ) → ((w : List ℕ) → w ∈ ws → count d w ≡ 0) → (i : ℕ) → i < length ws
    → count d (take (start_of ws i) (joined c ws ++ t)) ≡ i * e
unfolding joined start_of keep
before d c e one [] t f i h = absurd (omega arith)
before d c e one (w ∷ ws) t f zero h = omega arith
before d c e one (w ∷ []) t f (suc i) h = absurd (omega arith)
before d c e one (w ∷ v ∷ ws) t f (suc i) h =
    let rest = joined c (v ∷ ws) in
    let k = start_of (v ∷ ws) i in
    let q : length w + 1 + k ≡ length w + suc k = omega arith in
    let taken : take (length w + 1 + k) ((w ++ (c ∷ rest)) ++ t) ≡ w ++ ((c ∷ []) ++ take k (rest ++ t)) =
    ap₂ (λ (j : ℕ) (l : List ℕ). take j l) q (append_assoc w (c ∷ rest) t) ∙ take-append-add w (c ∷ (rest ++ t)) (suc k) in
    ap (count d) taken ∙ count_append d w ((c ∷ []) ++ take k (rest ++ t))
    ∙ omega (arith, f w (Memᴰ.head refl), count_append d (c ∷ []) (take k (rest ++ t)), one, before d c e one (v ∷ ws) t (λ u m. f u (Memᴰ.tail m)) i (omega arith))

-- and there stands piece i
piece_there : (c : ℕ) (ws : List (List ℕ)) (t : List ℕ) (i : ℕ) → i < length ws
    → take (length (get_or ws i [])) (drop (start_of ws i) (joined c ws ++ t)) ≡ get_or ws i []
unfolding joined start_of
piece_there c [] t i h = absurd (omega arith)
piece_there c (w ∷ []) t zero h = take-append_seam w t
piece_there c (w ∷ []) t (suc i) h = absurd (omega arith)
piece_there c (w ∷ v ∷ ws) t zero h =
    ap (take (length w)) (append_assoc w (c ∷ joined c (v ∷ ws)) t) ∙ take-append_seam w (c ∷ (joined c (v ∷ ws) ++ t))
piece_there c (w ∷ v ∷ ws) t (suc i) h =
    let rest = joined c (v ∷ ws) in
    let k = start_of (v ∷ ws) i in
    let q : length w + 1 + k ≡ length w + suc k = omega arith in
    ap (take (length (get_or (v ∷ ws) i []))) (ap₂ (λ (j : ℕ) (l : List ℕ). drop j l) q (append_assoc w (c ∷ rest) t) ∙ drop-append-add w (c ∷ (rest ++ t)) (suc k))
    ∙ piece_there c (v ∷ ws) t i (omega arith)

-- the first of some pieces stands at the front
front : (c : ℕ) (ls : List (List ℕ)) → 0 < length ls → (t : List ℕ) × (joined c ls ≡ get_or ls 0 [] ++ t)
unfolding joined
front c [] h = absurd (omega arith)
front c (w ∷ []) h = ([], sym (append-nil w))
front c (w ∷ v ∷ ls) h = (c ∷ joined c (v ∷ ls), refl)

-- a sheet is its line 1, which is the names with spaces between, and what follows
module _ (s : List ℕ) (i : ℕ) (h : i < entries s) where
  parts : (t : List ℕ) × (s ≡ joined 32 (names s) ++ t)
  unfolding names lines
  parts =
      let (t, e) = front 10 (cut 10 s) (some_piece 10 s) in
      (t, sym (joined_cut 10 s) ∙ e ∙ ap (λ (w : List ℕ). w ++ t) (sym (joined_cut 32 (get_or (cut 10 s) 0 []))))

  free_of : (d e : ℕ) → count d (32 ∷ []) ≡ e → ((w : List ℕ) → w ∈ names s → d ∈ w → ⊥) → count d (take (start_of (names s) i) s) ≡ i * e
  unfolding entries
  free_of d e one f =
      let (t, q) = parts in
      ap (λ (l : List ℕ). count d (take (start_of (names s) i) l)) q
      ∙ before d 32 e one (names s) t (λ w m. (none_counted d w).1 (f w m)) i h

  pub name_there : take (length (get_or (names s) i [])) (drop (start_of (names s) i) s) ≡ get_or (names s) i []
  unfolding entries
  name_there =
      let (t, q) = parts in
      ap (λ (l : List ℕ). take (length (get_or (names s) i [])) (drop (start_of (names s) i) l)) q ∙ piece_there 32 (names s) t i h

  pub spaces_before : count 32 (take (start_of (names s) i) s) ≡ i
  unfolding names keep
  spaces_before = free_of 32 1 refl (λ w m. piece_free (cut_pieces 32 (get_or (lines s) 0 [])) m) ∙ omega arith

  pub no_feed_before : count 10 (take (start_of (names s) i) s) ≡ 0
  unfolding names lines keep
  no_feed_before = free_of 10 0 refl (λ w m k.
      piece_free (cut_pieces 10 s) (get_d_in (cut 10 s) 0 [] (some_piece 10 s))
      (subst (λ (l : List ℕ). 10 ∈ l) (joined_cut 32 (get_or (cut 10 s) 0 [])) (in_joined 32 10 (names s) m k))) ∙ omega arith
