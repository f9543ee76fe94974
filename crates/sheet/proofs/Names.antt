-- Names, piece by piece of a line.
use mathlib.Core.Path.{◌≡◌, refl, sym, ap}
use mathlib.Core.Bool.{Bool, true, false, ◌&&◌, and-false, or-true}
use mathlib.Core.List.{List, [], ◌∷◌}
use Prim.Native.Nat.{ℕ, zero, suc, ◌<◌}
use native.Mathlib.Omega.{arith}
use lib.Dec.{eqb}
use lib.ListN.{length}
use Rattle.std.specs.List.{slice_split, onto_first, AllWithin, HoldsAt}
use Rattle.std.specs.Cmp.Lexicographic.{pointwise}
use Rattle.std.specs.Prelude.{MatchBool}
use Rattle.lists.specs.Lists.{all}
use Rattle.interface.specs.Sheet.{longer, cut, same_bytes, is_among, has_equal}
use Rattle.interface.proofs.Pieces.{some_piece}

-- two lists of bytes
pub bytes_same : (s t : List ℕ) → pointwise eqb s t ≡ same_bytes s t
unfolding same_bytes
bytes_same [] [] = refl
bytes_same [] (y ∷ t) = refl
bytes_same (x ∷ s) [] = refl
bytes_same (x ∷ s) (y ∷ t) = ap (λ (b : Bool). eqb x y && b) (bytes_same s t)

-- the library's pieces
onto : (b : ℕ) (ws : List (List ℕ)) → 0 < length ws → onto_first b ws ≡ longer b ws
unfolding longer
onto b [] h = absurd (omega arith)
onto b (w ∷ ws) h = refl

pub split_cut : (c : ℕ) (s : List ℕ) → slice_split (λ b. eqb b c) s ≡ cut c s
unfolding cut
split_cut c [] = refl
split_cut c (b ∷ s) = rw (split_cut c s, onto b (cut c s) (some_piece c s))

-- a test of every piece; a word among the pieces
module _ (test : List ℕ → Bool) where
  all_pass : (ws : List (List ℕ)) → AllWithin (λ w. test w ≡ true) ws 0 (length ws) → all test ws ≡ true
  unfolding all
  all_pass [] h = refl
  all_pass (w ∷ ws) h = rw (h 0 [] (omega arith) (omega arith), all_pass ws (λ k d p q. h (suc k) d (omega arith) (omega arith)))

  one_fails : (ws : List (List ℕ)) (k : ℕ) → k < length ws → HoldsAt (λ w. test w ≡ false) ws k → all test ws ≡ false
  unfolding all
  one_fails [] k p h = absurd (omega arith)
  one_fails (w ∷ ws) zero p h = rw (h [])
  one_fails (w ∷ ws) (suc k) p h = rw (one_fails ws k (omega arith) h) (and-false (test w))

  pub all_tested : (ws : List (List ℕ)) (r : Bool)
      → MatchBool r (AllWithin (λ w. test w ≡ true) ws 0 (length ws)) ((k : ℕ) × (k < length ws) × HoldsAt (λ w. test w ≡ false) ws k)
      → r ≡ all test ws
  all_tested ws true h = sym (all_pass ws h)
  all_tested ws false (k, p, h) = sym (one_fails ws k p h)

module _ (word : List ℕ) where
  none_equals : (ws : List (List ℕ)) → AllWithin (λ w. same_bytes word w ≡ false) ws 0 (length ws) → is_among word ws ≡ false
  unfolding is_among
  none_equals [] h = refl
  none_equals (w ∷ ws) h = rw (h 0 [] (omega arith) (omega arith), none_equals ws (λ k d p q. h (suc k) d (omega arith) (omega arith)))

  one_equals : (ws : List (List ℕ)) (k : ℕ) → k < length ws → HoldsAt (λ w. same_bytes word w ≡ true) ws k → is_among word ws ≡ true
  unfolding is_among
  one_equals [] k p h = absurd (omega arith)
  one_equals (w ∷ ws) zero p h = rw (h [])
  one_equals (w ∷ ws) (suc k) p h = rw (one_equals ws k (omega arith) h) (or-true (same_bytes word w))

  pub among_tested : (ws : List (List ℕ)) (r : Bool)
      → MatchBool r ((k : ℕ) × (k < length ws) × HoldsAt (λ w. same_bytes word w ≡ true) ws k) (AllWithin (λ w. same_bytes word w ≡ false) ws 0 (length ws))
      → r ≡ is_among word ws
  among_tested ws true (k, p, h) = sym (one_equals ws k p h)
  among_tested ws false h = sym (none_equals ws h)

-- equal pieces, by the first of them and the others
module _ {ws : List (List ℕ)} {word : List ℕ} where
  pub first_equal : {others : List (List ℕ)} → ws ≡ word ∷ others → is_among word others ≡ true → has_equal ws ≡ true
  unfolding has_equal
  first_equal e among = rw (e, among)

  pub others_equal : {others : List (List ℕ)} → ws ≡ word ∷ others → is_among word others ≡ false → has_equal ws ≡ has_equal others
  unfolding has_equal
  others_equal e among = rw (e, among)

  pub none_equal : ws ≡ word ∷ [] → has_equal ws ≡ false
  unfolding has_equal is_among
  none_equal e = rw e
