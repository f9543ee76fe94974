-- The places of names among names, and how the entries of one sheet stand on another with the same names (document 02, 2.4: "in the first
-- sheet's order, whatever the second's").
use mathlib.Core.Path.{◌≡◌, refl, sym, ap, ◌∙◌}
use mathlib.Core.Bool.{Bool, false, not, ◌&&◌}
use mathlib.Core.Logic.{◌⊎◌, inl, inr, ◌≢◌}
use mathlib.Core.List.Memᴰ
use mathlib.Core.List.{List, [], ◌∷◌}
use Prim.Native.Nat.{ℕ, zero, suc, ◌<◌}
use native.Mathlib.Omega.{arith}
use borrow.Author.Tests.{not-false}
use lib.Dec.{T, eqb, eqb→eq, T_not, not_T}
use lib.ListN.{length, get_or}
use Rattle.lists.specs.Lists.{◌∈◌, all, Distinct}
use Rattle.lists.proofs.Tests.{and_T, T_and, T_true, true_T, T_false, T_or_not, T_same, eqb_yes}
use Rattle.lists.proofs.Lists.{all_in, in_all, get_d_in}
use Rattle.lists.proofs.Distinct.{pigeonhole}
use Rattle.clusters.specs.Reordering.{Permutation}
use Rattle.interface.specs.Sheet.{same_bytes, is_among}
use Rattle.interface.specs.Pool.{place_of}
use Rattle.interface.specs.Refusals.{names_differ}
use Rattle.interface.proofs.Pieces.{same_bytes_lem}
use Rattle.interface.proofs.Names.{equal_same, among_in, in_among}

place_here : (w x : List ℕ) (l : List (List ℕ)) → w ≡ x → place_of w (x ∷ l) ≡ 0
unfolding place_of
place_here w x l e = rw (T_true {b = same_bytes w x} (equal_same w x e))

place_later : (w x : List ℕ) (l : List (List ℕ)) → w ≢ x → place_of w (x ∷ l) ≡ suc (place_of w l)
unfolding place_of
place_later w x l f = rw (T_false {b = same_bytes w x} (not_T (same_bytes w x) (λ t. f (same_bytes_lem w x t))))

same_or_not : (v w : List ℕ) → (v ≡ w) ⊎ (v ≢ w)
same_or_not v w = go (T_or_not (same_bytes v w))
  where
    go : T (same_bytes v w) ⊎ T (not (same_bytes v w)) → (v ≡ w) ⊎ (v ≢ w)
    go (inl t) = inl (same_bytes_lem v w t)
    go (inr t) = inr (λ e. T_not (same_bytes v w) t (equal_same v w e))

-- a name that is there has a place, and stands at it
pub place_lt : (w : List ℕ) (l : List (List ℕ)) → w ∈ l → place_of w l < length l
place_lt w [] m = elim m [ ]
place_lt w (x ∷ l) m = go (same_or_not w x) (Memᴰ.cases_cons m) (place_lt w l)
  where
    go : (w ≡ x) ⊎ (w ≢ x) → (w ≡ x) ⊎ (w ∈ l) → (w ∈ l → place_of w l < length l) → place_of w (x ∷ l) < suc (length l)
    go (inl e) _ ih = omega (arith, place_here w x l e)
    go (inr f) (inl e) ih = absurd (f e)
    go (inr f) (inr k) ih = omega (arith, place_later w x l f, ih k)

pub at_place : (w : List ℕ) (l : List (List ℕ)) → w ∈ l → get_or l (place_of w l) [] ≡ w
at_place w [] m = elim m [ ]
at_place w (x ∷ l) m = go (same_or_not w x) (Memᴰ.cases_cons m) (at_place w l)
  where
    go : (w ≡ x) ⊎ (w ≢ x) → (w ≡ x) ⊎ (w ∈ l) → (w ∈ l → get_or l (place_of w l) [] ≡ w) → get_or (x ∷ l) (place_of w (x ∷ l)) [] ≡ w
    go (inl e) _ ih = ap (λ (i : ℕ). get_or (x ∷ l) i []) (place_here w x l e) ∙ sym e
    go (inr f) (inl e) ih = absurd (f e)
    go (inr f) (inr k) ih = ap (λ (i : ℕ). get_or (x ∷ l) i []) (place_later w x l f) ∙ ih k

-- of distinct names each stands at its place only
pub place_at : (l : List (List ℕ)) → Distinct l → (i : ℕ) → i < length l → place_of (get_or l i []) l ≡ i
place_at [] d i h = absurd (omega arith)
place_at (x ∷ l) d zero h = place_here x x l refl
place_at (x ∷ l) d (suc i) h =
    place_later (get_or l i []) x l (λ e. d.0 (Memᴰ.cast (sym e) (get_d_in l i [] (omega arith))))
    ∙ ap suc (place_at l d.1 i (omega arith))

-- two lists of the same names, none of which stands twice in either
pub record Matching (ns ms : List (List ℕ)) : Type 0 where
  pub first : Distinct ns
  pub second : Distinct ms
  pub there : (w : List ℕ) → w ∈ ns → w ∈ ms
  pub back : (w : List ℕ) → w ∈ ms → w ∈ ns

pub turned : {ns ms : List (List ℕ)} → Matching ns ms → Matching ms ns
turned s = record { first = s.second; second = s.first; there = s.back; back = s.there }

pub same_count : {ns ms : List (List ℕ)} → Matching ns ms → length ns ≡ length ms
same_count {ns} {ms} s =
    let l = pigeonhole ns ms s.first s.there in
    let k = pigeonhole ms ns s.second s.back in
    omega arith

-- from the place of a name in the first list to its place in the second, and back
module _ {ns ms : List (List ℕ)} (s : Matching ns ms) where
  abbrev pub moved : ℕ → ℕ
  moved i = place_of (get_or ns i []) ms

  pub moved_lt : (i : ℕ) → i < length ns → moved i < length ns
  moved_lt i h = omega (arith, same_count s, place_lt (get_or ns i []) ms (s.there (get_or ns i []) (get_d_in ns i [] h)))

  -- it stands there by the same name, and nowhere else
  pub moved_name : (i : ℕ) → i < length ns → get_or ms (moved i) [] ≡ get_or ns i []
  moved_name i h = at_place (get_or ns i []) ms (s.there (get_or ns i []) (get_d_in ns i [] h))

  pub moved_only : (i j : ℕ) → j < length ms → get_or ns i [] ≡ get_or ms j [] → moved i ≡ j
  moved_only i j h e = ap (λ (w : List ℕ). place_of w ms) e ∙ place_at ms s.second j h

  pub moved_back : (i : ℕ) → i < length ns → place_of (get_or ms (moved i) []) ns ≡ i
  moved_back i h = ap (λ (w : List ℕ). place_of w ns) (moved_name i h) ∙ place_at ns s.first i h

unfoldable pub renumbering : {ns ms : List (List ℕ)} → Matching ns ms → Permutation (length ns)
renumbering {ns} {ms} s =
    let e = same_count s in
    record {
      to = λ i. place_of (get_or ns i []) ms;
      from = λ j. place_of (get_or ms j []) ns;
      to_lt = moved_lt s;
      from_lt = λ j h. omega (arith, moved_lt (turned s) j (omega arith));
      from_to = moved_back s;
      to_from = λ j h. moved_back (turned s) j (omega arith);
    }

-- 17: "the two name sets differ"
module _ (ns ms : List (List ℕ)) where
  pub same_names : names_differ ns ms ≡ false → ((w : List ℕ) → w ∈ ns → w ∈ ms) × ((w : List ℕ) → w ∈ ms → w ∈ ns)
  unfolding names_differ
  same_names e =
      let there = all (λ w. is_among w ms) ns in
      let back = all (λ w. is_among w ns) ms in
      let (f, g) = and_T there back (true_T (not-false (there && back) e)) in
      (λ w m. among_in w ms (all_in (λ w. is_among w ms) ns f m), λ w m. among_in w ns (all_in (λ w. is_among w ns) ms g m))

  pub names_same : ((w : List ℕ) → w ∈ ns → w ∈ ms) → ((w : List ℕ) → w ∈ ms → w ∈ ns) → names_differ ns ms ≡ false
  unfolding names_differ
  names_same f g =
      let there = all (λ w. is_among w ms) ns in
      let back = all (λ w. is_among w ns) ms in
      ap not (T_true {b = there && back} (T_and there back
      (in_all (λ w. is_among w ms) ns (λ w m. in_among w ms (f w m))) (in_all (λ w. is_among w ns) ms (λ w m. in_among w ns (g w m)))))

  -- it is enough to look for the names of the first sheet on the second, if there are as many on both: a name of the second that is not
  -- on the first would be one more among them
  module _ (first : Distinct ns) (second : Distinct ms) where
    pub by_count : names_differ ns ms ≡ not (eqb (length ns) (length ms) && all (λ w. is_among w ms) ns)
    unfolding names_differ
    by_count = ap not (T_same (there && back) (eqb (length ns) (length ms) && there) fore rear)
      where
        there : Bool
        there = all (λ w. is_among w ms) ns

        back : Bool
        back = all (λ w. is_among w ns) ms

        fore : T (there && back) → T (eqb (length ns) (length ms) && there)
        fore t =
            let (f, g) = same_names (ap not (T_true {b = there && back} t)) in
            let s : Matching ns ms = record { first = first; second = second; there = f; back = g } in
            T_and (eqb (length ns) (length ms)) there (eqb_yes (length ns) (length ms) (same_count s)) (and_T there back t).0

        on_second : T there → (v w : List ℕ) → w ∈ ms → (v ≡ w) ⊎ (v ∈ ns) → v ∈ ms
        on_second t v w m (inl e) = Memᴰ.cast e m
        on_second t v w m (inr k) = among_in v ms (all_in (λ w. is_among w ms) ns t k)

        on_first : length ns ≡ length ms → T there → (w : List ℕ) → w ∈ ms → T (is_among w ns) ⊎ T (not (is_among w ns)) → T (is_among w ns)
        on_first e t w m (inl a) = a
        on_first e t w m (inr a) = absurd (omega (
          arith,
          pigeonhole (w ∷ ns) ms
              (λ k. T_not (is_among w ns) a (in_among w ns k), first) (λ v k. on_second t v w m (Memᴰ.cases_cons k)),
        ))

        rear : T (eqb (length ns) (length ms) && there) → T (there && back)
        rear q =
            let (c, t) = and_T (eqb (length ns) (length ms)) there q in
            T_and there back t
            (in_all (λ w. is_among w ns) ms (λ w m. on_first (eqb→eq (length ns) (length ms) c) t w m (T_or_not (is_among w ns))))
