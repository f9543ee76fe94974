-- The smallest group that two entries share: in any hierarchy, so of any kind.
use mathlib.Core.Path.{◌≡◌, refl, sym, ap, ap₂, subst}
use mathlib.Core.Bool.{Bool, true, false, not, cond, ◌&&◌}
use mathlib.Core.Logic.{inl, inr, ◌≢◌, ◌↔◌}
use mathlib.Core.List.Memᴰ
use mathlib.Core.List.{List, [], ◌∷◌}
use Prim.Native.Nat.{ℕ, suc, ◌^◌, ◌≤◌, ◌<◌}
use native.Mathlib.Omega.{arith}
use lib.Dec.{T, T_not}
use lib.ListN.{length, length-append}
use Rattle.lists.specs.Lists.{◌∈◌}
use Rattle.lists.proofs.Tests.{and_T, T_and}
use Rattle.lists.proofs.Lists.{all_in}
use Rattle.sets.specs.Sets.{has, ◌∋◌, size, all_entries, Subset}
use Rattle.sets.proofs.Sets.{has_yes, yes_has, one_in, size_single, member_size}
use Rattle.sets.proofs.Subsets.{all_entries_in, all_entries_lt}
use Rattle.clusters.specs.Groups.{Rising}
use Rattle.clusters.specs.Nesting.{first_from, holds_both, smallest_shared, smallest_of_all, OnLine}
use Rattle.clusters.specs.declared.Hit.{Hit}
use Rattle.clusters.proofs.Groups.{rising_distinct}
use Rattle.clusters.proofs.Hierarchies.{Hierarchy, all_entries_unlisted}
use Rattle.clusters.proofs.Searches.{First, Outcome, Smallest, first_cases, first_in, first_line_lem, line_unique, searches_agree}
use Rattle.clusters.proofs.Searches.{smallest_only, smallest_unique, first_smallest, smallest_inside}

pub holds_both_lem : (i j A : ℕ) → T (holds_both i j A) ↔ ((A ∋ i) × (A ∋ j))
unfolding holds_both
holds_both_lem i j A = (
  λ t. let (p, q) = and_T (has A i) (has A j) t in (has_yes A i p, has_yes A j q),
  λ (p, q). T_and (has A i) (has A j) (yes_has A i p) (yes_has A j q),
)

-- two tests that say the same find the same
first_cong : (p q : ℕ → Bool) → ((A : ℕ) → p A ≡ q A) → (other line : ℕ) (l : List ℕ) → first_from p other line l ≡ first_from q other line l
unfolding first_from
first_cong p q f other line [] = refl
first_cong p q f other line (A ∷ l) =
    ap₂ {C = Hit} (λ b hit. cond b (record { set = A; line = line }) hit) (f A) (first_cong p q f other (suc line) l)

-- in which order the two are named makes no difference
pub shared_swapped : (n i j : ℕ) (l : List ℕ) → smallest_shared n i j l ≡ smallest_shared n j i l
unfolding smallest_shared holds_both
shared_swapped n i j l = first_cong (holds_both i j) (holds_both j i) (λ A. swapped (has A i) (has A j)) (all_entries n) _ l
  where
    swapped : (a b : Bool) → a && b ≡ b && a
    swapped true true = refl
    swapped true false = refl
    swapped false true = refl
    swapped false false = refl

-- the same entry twice: the first set that holds it
pub shared_same : (n i : ℕ) (l : List ℕ) → smallest_shared n i i l ≡ first_from (λ A. has A i) (all_entries n) 1 l
unfolding smallest_shared holds_both
shared_same n i l = first_cong (holds_both i i) (λ A. has A i) (λ A. twice (has A i)) (all_entries n) 1 l
  where
    twice : (a : Bool) → a && a ≡ a
    twice true = refl
    twice false = refl

-- "it equals the smallest found by reading all lines"
pub shared_of_all : (n i j : ℕ) (l : List ℕ) → Rising n l → smallest_shared n i j l ≡ smallest_of_all n i j l
unfolding smallest_shared smallest_of_all
shared_of_all n i j l up = sym (searches_agree n (holds_both i j) (all_entries n) 0 l up)

module _ (n i j : ℕ) (l : List ℕ) where
  abbrev Answer : Hit → Type 0
  Answer hit = Outcome (holds_both i j) (all_entries n) 1 l hit

  answer : Answer (smallest_shared n i j l)
  unfolding smallest_shared
  answer = first_cases (holds_both i j) (all_entries n) 1 l

  found : (hit : Hit) → Answer hit → hit.line ≢ 0 → First (holds_both i j) 1 l hit
  found hit (inl r) d = r
  found hit (inr (e, _)) d = absurd (d (ap (λ (h : Hit). h.line) e))

  -- the set stands on the line
  pub shared_line_lem : (smallest_shared n i j l).line ≢ 0 → OnLine l (smallest_shared n i j l).line (smallest_shared n i j l).set
  shared_line_lem d = first_line_lem (found (smallest_shared n i j l) answer d)

  pub shared_in : (smallest_shared n i j l).line ≢ 0 → (smallest_shared n i j l).set ∈ l
  shared_in d = first_in (found (smallest_shared n i j l) answer d)

  pub shared_line_le : (smallest_shared n i j l).line ≤ length l
  shared_line_le = go (smallest_shared n i j l) answer
    where
      go : (hit : Hit) → Answer hit → hit.line ≤ length l
      go hit (inl r) = omega (arith, r.place, ap length r.parts, length-append r.before (hit.set ∷ r.after))
      go hit (inr (e, _)) = omega (arith, ap (λ (h : Hit). h.line) e)

  -- line 0 exactly if no line holds both
  pub shared_none : ((smallest_shared n i j l).line ≡ 0) ↔ ((C : ℕ) → C ∈ l → C ∋ i → C ∋ j → ⊥)
  shared_none = (fore (smallest_shared n i j l) answer, back (smallest_shared n i j l) answer)
    where
      fore : (hit : Hit) → Answer hit → hit.line ≡ 0 → (C : ℕ) → C ∈ l → C ∋ i → C ∋ j → ⊥
      fore hit (inl r) e C m p q = absurd (omega (arith, r.place))
      fore hit (inr (_, t)) e C m p q = T_not (holds_both i j C) (all_in (λ A. not (holds_both i j A)) l t m) ((holds_both_lem i j C).1 (p, q))

      back : (hit : Hit) → Answer hit → ((C : ℕ) → C ∈ l → C ∋ i → C ∋ j → ⊥) → hit.line ≡ 0
      back hit (inl r) f = let (p, q) = (holds_both_lem i j hit.set).0 r.passes in absurd (f hit.set (first_in r) p q)
      back hit (inr (e, _)) f = ap (λ (h : Hit). h.line) e

  -- and then the set is all entries
  pub shared_other : (smallest_shared n i j l).line ≡ 0 → (smallest_shared n i j l).set ≡ all_entries n
  shared_other = go (smallest_shared n i j l) answer
    where
      go : (hit : Hit) → Answer hit → hit.line ≡ 0 → hit.set ≡ all_entries n
      go hit (inl r) e = absurd (omega (arith, r.place))
      go hit (inr (e, _)) _ = ap (λ (h : Hit). h.set) e

  -- in either case it holds both
  pub shared_holds : i < n → j < n → ((smallest_shared n i j l).set ∋ i) × ((smallest_shared n i j l).set ∋ j)
  shared_holds hi hj = go (smallest_shared n i j l) answer
    where
      go : (hit : Hit) → Answer hit → (hit.set ∋ i) × (hit.set ∋ j)
      go hit (inl r) = (holds_both_lem i j hit.set).0 r.passes
      go hit (inr (e, _)) = subst (λ (h : Hit). (h.set ∋ i) × (h.set ∋ j)) (sym e) (all_entries_in n hi, all_entries_in n hj)

  module _ (h : Hierarchy n l) where
    pub shared_lt : (smallest_shared n i j l).set < 2 ^ n
    shared_lt = go (smallest_shared n i j l) answer
      where
        go : (hit : Hit) → Answer hit → hit.set < 2 ^ n
        go hit (inl r) = h.low hit.set (first_in r)
        go hit (inr (e, _)) = subst (λ (h : Hit). h.set < 2 ^ n) (sym e) (all_entries_lt n)

    -- all entries are answered on line 0 only
    pub shared_all : ((smallest_shared n i j l).line ≡ 0) ↔ ((smallest_shared n i j l).set ≡ all_entries n)
    shared_all = (shared_other, back (smallest_shared n i j l) answer)
      where
        back : (hit : Hit) → Answer hit → hit.set ≡ all_entries n → hit.line ≡ 0
        back hit (inl r) e = absurd (all_entries_unlisted n h (Memᴰ.cast (sym e) (first_in r)))
        back hit (inr (e, _)) _ = ap (λ (h : Hit). h.line) e

  module _ (h : Hierarchy n l) (hi : i < n) where
    holds_first : (B : ℕ) → B ∈ l → T (holds_both i j B) → B ∋ i
    holds_first B _ t = ((holds_both_lem i j B).0 t).0

    pub shared_smallest : (smallest_shared n i j l).line ≢ 0 → Smallest n (holds_both i j) l (smallest_shared n i j l).set
    shared_smallest d = first_smallest n h (holds_both i j) i hi holds_first (found (smallest_shared n i j l) answer d)

    -- every other set that holds both strictly holds the answer
    pub shared_inside : (C : ℕ) → C ∈ l → C ∋ i → C ∋ j → C ≢ (smallest_shared n i j l).set
        → Subset n (smallest_shared n i j l).set C × (size n (smallest_shared n i j l).set < size n C)
    shared_inside C m p q ne =
        let t = (holds_both_lem i j C).1 (p, q) in
        let r = shared_smallest (λ e. shared_none.0 e C m p q) in
        (smallest_inside n h (holds_both i j) i hi holds_first r C m t, r.least C m t ne)

    -- no other set that holds both is as small
    pub shared_only : (C : ℕ) → C ∈ l → C ∋ i → C ∋ j → ((D : ℕ) → D ∈ l → D ∋ i → D ∋ j → size n C ≤ size n D) → C ≡ (smallest_shared n i j l).set
    shared_only C m p q f =
        smallest_only (shared_smallest (λ e. shared_none.0 e C m p q)) m ((holds_both_lem i j C).1 (p, q))
        (λ D d t. let (a, b) = (holds_both_lem i j D).0 t in f D d a b)

    -- nor does it stand on another line
    pub shared_unique : (B line : ℕ) → Smallest n (holds_both i j) l B → OnLine l line B → smallest_shared n i j l ≡ record { set = B; line = line }
    shared_unique B line r o =
        let (p, q) = (holds_both_lem i j B).0 r.passes in
        let d : (smallest_shared n i j l).line ≢ 0 = λ e. shared_none.0 e B r.listed p q in
        let e : (smallest_shared n i j l).set ≡ B = smallest_unique (shared_smallest d) r in
        ap₂ {C = Hit} (λ A k. record { set = A; line = k }) e
        (line_unique l (rising_distinct n l h.rising) (smallest_shared n i j l).line line B
        (subst (λ (A : ℕ). OnLine l (smallest_shared n i j l).line A) e (shared_line_lem d)) o)

-- the same entry twice: its own line, if it has one
pub shared_single : (n i : ℕ) (l : List ℕ) → Hierarchy n l → i < n → (2 ^ i) ∈ l → (smallest_shared n i i l).set ≡ 2 ^ i
shared_single n i l h hi m = sym (shared_only n i i l h hi (2 ^ i) m (one_in i) (one_in i)
    (λ D _ p _. omega (arith, size_single n i, member_size n D hi p)))
