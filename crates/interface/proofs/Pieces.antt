-- Texts cut into pieces, and pieces put together: the byte c between any two (`joined`), or behind each.
use mathlib.Core.Path.{◌≡◌, refl, sym, ap, ap₂, ◌∙◌, subst}
use mathlib.Core.Bool.{Bool, true, false, not, cond}
use mathlib.Core.List.Memᴰ
use mathlib.Core.List.{List, [], ◌∷◌, ◌++◌, append_assoc}
use Prim.Native.Nat.{ℕ, ◌*◌, ◌<◌, ◌≤◌}
use native.Mathlib.Omega.{arith}
use lib.Dec.{T, eqb, eqb→eq, eqb_refl, not_T, T_not}
use lib.ListN.{length, get_or, drop, length-append}
use Rattle.lists.specs.Lists.{◌∈◌, each, all}
use Rattle.lists.proofs.Tests.{and_T, T_and, T_true, T_false, cond_elim}
use Rattle.lists.proofs.Lists.{in_all, all_in}
use Rattle.interface.specs.Sheet.{longer, cut, same_bytes}
use Rattle.interface.specs.SheetText.{joined}

-- there is a piece
pub some_piece : (c : ℕ) (s : List ℕ) → 0 < length (cut c s)
unfolding cut longer
some_piece c [] = omega arith
some_piece c (b ∷ t) = go (eqb b c) (some_piece c t)
  where
    long : (ws : List (List ℕ)) → 0 < length (longer b ws)
    long [] = omega arith
    long (w ∷ ws) = omega arith

    go : (x : Bool) → 0 < length (cut c t) → 0 < length (cond x ([] ∷ cut c t) (longer b (cut c t)))
    go true h = omega arith
    go false h = long (cut c t)

pub longer_length : (b : ℕ) (ws : List (List ℕ)) → 0 < length ws → length (longer b ws) ≡ length ws
unfolding longer
longer_length b [] h = absurd (omega arith)
longer_length b (w ∷ ws) h = refl

-- a text without the byte c
abbrev pub free : ℕ → List ℕ → Type 0
free c w = T (all (λ b. not (eqb b c)) w)

-- a test of every byte
module _ (p : ℕ → Bool) where
  pub all_append : (v w : List ℕ) → T (all p v) → T (all p w) → T (all p (v ++ w))
  unfolding all
  all_append [] w s t = t
  all_append (b ∷ v) w s t = let (h, r) = and_T (p b) (all p v) s in T_and (p b) (all p (v ++ w)) h (all_append v w r t)

  -- bytes that pass a test that c does not
  pub all_free : (c : ℕ) → T (not (p c)) → (w : List ℕ) → T (all p w) → free c w
  all_free c u w t = in_all (λ b. not (eqb b c)) w λ b m.
      not_T (eqb b c) (λ e. T_not (p c) u (subst (λ (x : ℕ). T (p x)) (eqb→eq b c e) (all_in p w t m)))

module _ (c : ℕ) where
  pub free_append : (v w : List ℕ) → free c v → free c w → free c (v ++ w)
  free_append v w s t = all_append (λ b. not (eqb b c)) v w s t

  cut_inside : (b : ℕ) (s : List ℕ) → T (not (eqb b c)) → cut c (b ∷ s) ≡ longer b (cut c s)
  unfolding cut
  cut_inside b s t = rw (T_false {b = eqb b c} t)

  -- such a text is one piece; with a byte c behind it, it is the first
  pub cut_last : (w : List ℕ) → free c w → cut c w ≡ w ∷ []
  unfolding cut longer all
  cut_last [] f = refl
  cut_last (b ∷ w) f =
      let (h, r) = and_T (not (eqb b c)) (all (λ b. not (eqb b c)) w) f in
      cut_inside b w h ∙ ap (longer b) (cut_last w r)

  pub cut_first : (w t : List ℕ) → free c w → cut c (w ++ (c ∷ t)) ≡ w ∷ cut c t
  unfolding cut longer all
  cut_first [] t f = rw (T_true {b = eqb c c} (eqb_refl c))
  cut_first (b ∷ w) t f =
      let (h, r) = and_T (not (eqb b c)) (all (λ b. not (eqb b c)) w) f in
      cut_inside b (w ++ (c ∷ t)) h ∙ ap (longer b) (cut_first w t r)

  -- before another text it belongs to the first piece of that
  pub cut_front : (w t : List ℕ) → free c w → cut c (w ++ t) ≡ (w ++ get_or (cut c t) 0 []) ∷ drop 1 (cut c t)
  unfolding longer all
  cut_front [] t f = go (cut c t) (some_piece c t)
    where
      go : (ws : List (List ℕ)) → 0 < length ws → ws ≡ get_or ws 0 [] ∷ drop 1 ws
      go [] h = absurd (omega arith)
      go (v ∷ ws) h = refl
  cut_front (b ∷ w) t f =
      let (h, r) = and_T (not (eqb b c)) (all (λ b. not (eqb b c)) w) f in
      cut_inside b (w ++ t) h ∙ ap (longer b) (cut_front w t r)

  -- pieces without the byte c, put together, are cut again
  pub cut_joined : (ws : List (List ℕ)) → 0 < length ws → ((w : List ℕ) → w ∈ ws → free c w) → cut c (joined c ws) ≡ ws
  unfolding joined
  cut_joined [] h f = absurd (omega arith)
  cut_joined (w ∷ []) h f = cut_last w (f w (Memᴰ.head refl))
  cut_joined (w ∷ v ∷ ws) h f =
      cut_first w (joined c (v ∷ ws)) (f w (Memᴰ.head refl))
      ∙ ap (λ (l : List (List ℕ)). w ∷ l) (cut_joined (v ∷ ws) (omega arith) (λ u m. f u (Memᴰ.tail m)))

  pub cut_ended : (ws : List (List ℕ)) → ((w : List ℕ) → w ∈ ws → free c w) → cut c (each ws λ w. w ++ (c ∷ [])) ≡ ws ++ ([] ∷ [])
  unfolding each cut
  cut_ended [] f = refl
  cut_ended (w ∷ ws) f =
      let rest = each ws (λ w. w ++ (c ∷ [])) in
      ap (cut c) (append_assoc w (c ∷ []) rest)
      ∙ cut_first w rest (f w (Memᴰ.head refl))
      ∙ ap (λ (l : List (List ℕ)). w ∷ l) (cut_ended ws (λ u m. f u (Memᴰ.tail m)))

  -- every byte of them
  pub all_joined : (p : ℕ → Bool) → T (p c) → (ws : List (List ℕ)) → ((w : List ℕ) → w ∈ ws → T (all p w)) → T (all p (joined c ws))
  unfolding joined all
  all_joined p t [] f = tt
  all_joined p t (w ∷ []) f = f w (Memᴰ.head refl)
  all_joined p t (w ∷ v ∷ ws) f =
      let rest = joined c (v ∷ ws) in
      all_append p w (c ∷ rest) (f w (Memᴰ.head refl)) (T_and (p c) (all p rest) t (all_joined p t (v ∷ ws) (λ u m. f u (Memᴰ.tail m))))

  pub all_ended : (p : ℕ → Bool) → T (p c) → (ws : List (List ℕ)) → ((w : List ℕ) → w ∈ ws → T (all p w)) → T (all p (each ws λ w. w ++ (c ∷ [])))
  unfolding each all
  all_ended p t [] f = tt
  all_ended p t (w ∷ ws) f =
      all_append p (w ++ (c ∷ [])) (each ws (λ w. w ++ (c ∷ []))) (all_append p w (c ∷ []) (f w (Memᴰ.head refl)) (T_and (p c) true t tt))
      (all_ended p t ws (λ u m. f u (Memᴰ.tail m)))

  -- their lengths, of pieces shorter than k
  pub length_joined : (k : ℕ) (ws : List (List ℕ)) → 0 < length ws → ((w : List ℕ) → w ∈ ws → length w < k) → length (joined c ws) < length ws * k
  unfolding joined
  length_joined k [] h f = absurd (omega arith)
  length_joined k (w ∷ []) h f = omega (arith, f w (Memᴰ.head refl))
  length_joined k (w ∷ v ∷ ws) h f =
      let rest = length_joined k (v ∷ ws) (omega arith) (λ u m. f u (Memᴰ.tail m)) in
      omega (arith, length-append w (c ∷ joined c (v ∷ ws)), f w (Memᴰ.head refl), rest)

  pub length_ended : (k : ℕ) (ws : List (List ℕ)) → ((w : List ℕ) → w ∈ ws → length w < k) → length (each ws λ w. w ++ (c ∷ [])) ≤ length ws * k
  unfolding each
  length_ended k [] f = omega arith
  length_ended k (w ∷ ws) f =
      let rest = each ws (λ w. w ++ (c ∷ [])) in
      let more = length_ended k ws (λ u m. f u (Memᴰ.tail m)) in
      omega (arith, length-append (w ++ (c ∷ [])) rest, length-append w (c ∷ []), f w (Memᴰ.head refl), more)

-- a text cut into pieces is put together again
joined_longer : (c b : ℕ) (l : List (List ℕ)) → 0 < length l → joined c (longer b l) ≡ b ∷ joined c l
unfolding longer joined
joined_longer c b [] h = absurd (omega arith)
joined_longer c b (w ∷ []) h = refl
joined_longer c b (w ∷ v ∷ l) h = refl

joined_empty : (c : ℕ) (l : List (List ℕ)) → 0 < length l → joined c ([] ∷ l) ≡ c ∷ joined c l
unfolding joined
joined_empty c [] h = absurd (omega arith)
joined_empty c (w ∷ l) h = refl

pub joined_cut : (c : ℕ) (s : List ℕ) → joined c (cut c s) ≡ s
unfolding cut joined
joined_cut c [] = refl
joined_cut c (b ∷ s) = cond_elim (eqb b c) ([] ∷ cut c s) (longer b (cut c s)) (λ l. joined c l ≡ b ∷ s)
    (λ t. joined_empty c (cut c s) (some_piece c s) ∙ ap₂ (λ (x : ℕ) (r : List ℕ). x ∷ r) (sym (eqb→eq b c t)) (joined_cut c s))
    (λ _. joined_longer c b (cut c s) (some_piece c s) ∙ ap (λ (r : List ℕ). b ∷ r) (joined_cut c s))

-- two texts cut into the same pieces are equal
pub cut_once : (c : ℕ) (s t : List ℕ) → cut c s ≡ cut c t → s ≡ t
cut_once c s t e = sym (joined_cut c s) ∙ ap (joined c) e ∙ joined_cut c t

-- equal byte lists are equal
pub same_bytes_lem : (s t : List ℕ) → T (same_bytes s t) → s ≡ t
unfolding same_bytes
same_bytes_lem [] [] h = refl
same_bytes_lem [] (y ∷ t) h = absurd h
same_bytes_lem (x ∷ s) [] h = absurd h
same_bytes_lem (x ∷ s) (y ∷ t) h =
    let (a, r) = and_T (eqb x y) (same_bytes s t) h in
    ap₂ ◌∷◌ (eqb→eq x y a) (same_bytes_lem s t r)
