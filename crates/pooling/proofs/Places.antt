-- Words among others, and where each stands.
use mathlib.Core.Path.{◌≡◌, refl, sym, ap, ap₂, ◌∙◌}
use mathlib.Core.Bool.{Bool, true, false, ◌&&◌, and-false}
use mathlib.Core.List.{List, [], ◌∷◌, ◌++◌, map-append}
use Prim.Native.Nat.{ℕ, zero, suc, ◌<◌}
use native.Mathlib.Omega.{arith}
use lib.ListN.{length, get_or, length-map}
use Rattle.std.specs.Prelude.{Option, Some, None, MatchOption}
use Rattle.std.specs.List.{AllWithin, HoldsAt}
use Rattle.lists.specs.Lists.{all}
use Rattle.interface.specs.Sheet.{same_bytes, is_among}
use Rattle.interface.specs.Pool.{place_of}
use Rattle.sheet.proofs.Names.{among_tested}
use Rattle.pooling.specs.Pools.{PlaceAmong, Placed}

module _ (w : List ℕ) where
  place_found : (ws : List (List ℕ)) (k : ℕ) → k < length ws → HoldsAt (λ v. same_bytes w v ≡ true) ws k
      → AllWithin (λ v. same_bytes w v ≡ false) ws 0 k → place_of w ws ≡ k
  unfolding place_of
  place_found [] k p h f = absurd (omega arith)
  place_found (v ∷ ws) zero p h f = rw (h [])
  place_found (v ∷ ws) (suc k) p h f =
      rw (f 0 [] (omega arith) (omega arith)) (ap suc (place_found ws k (omega arith) h (λ j d q r. f (suc j) d (omega arith) (omega arith))))

  -- what a search for the first piece that is the word found
  pub searched : (ws : List (List ℕ)) (r : Option ℕ)
      → MatchOption r (AllWithin (λ v. same_bytes w v ≡ false) ws 0 (length ws))
      (λ i. (i < length ws) × HoldsAt (λ v. same_bytes w v ≡ true) ws i × AllWithin (λ v. same_bytes w v ≡ false) ws 0 i)
      → PlaceAmong w ws r
  searched ws None h = sym (among_tested w ws false h)
  searched ws (Some i) (p, h, f) = (sym (among_tested w ws true (i, p, h)), sym (place_found ws i p h f))

-- the places of no names, and of one more
module _ (ms : List (List ℕ)) where
  pub none_placed : {places : List ℕ} → places ≡ [] → Placed [] ms places
  unfolding all
  none_placed e = record { there = refl; are = e }

  all_more : (ns : List (List ℕ)) (w : List ℕ) → all (λ v. is_among v ms) (ns ++ (w ∷ [])) ≡ all (λ v. is_among v ms) ns && is_among w ms
  unfolding all
  all_more [] w = go (is_among w ms)
    where
      go : (a : Bool) → a && true ≡ a
      go true = refl
      go false = refl
  all_more (v ∷ ns) w = rw (all_more ns w) (go (is_among v ms))
    where
      go : (a : Bool) → a && (all (λ v. is_among v ms) ns && is_among w ms) ≡ (a && all (λ v. is_among v ms) ns) && is_among w ms
      go true = refl
      go false = refl

  module _ {ns : List (List ℕ)} {places : List ℕ} (p : Placed ns ms places) where
    pub as_many : length places ≡ length ns
    as_many = ap length p.are ∙ length-map ns (λ w. place_of w ms)

    pub one_more : (w : List ℕ) {at : ℕ} {new : List ℕ} → PlaceAmong w ms (Some at) → new ≡ places ++ (at ∷ []) → Placed (ns ++ (w ∷ [])) ms new
    one_more w (among, is) e = record {
      there = all_more ns w ∙ ap₂ ◌&&◌ p.there among;
      are = e ∙ ap₂ (λ l k. l ++ (k ∷ [])) p.are is ∙ sym (map-append (λ v. place_of v ms) ns (w ∷ []));
    }

  -- a name that is not there
  pub one_missing : (ns : List (List ℕ)) (k : ℕ) {w : List ℕ} → k < length ns → w ≡ get_or ns k w → is_among w ms ≡ false
      → all (λ v. is_among v ms) ns ≡ false
  unfolding all
  one_missing [] k h e f = absurd (omega arith)
  one_missing (v ∷ ns) zero h e f = rw (sym e, f)
  one_missing (v ∷ ns) (suc k) h e f = rw (one_missing ns k (omega arith) e f) (and-false (is_among v ms))
