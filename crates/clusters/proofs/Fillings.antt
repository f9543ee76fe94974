-- The least strong index over all fillings.
use mathlib.Core.Path.{◌≡◌, refl, sym, ap, ap₂, subst}
use mathlib.Core.Bool.{Bool, true, false, xor, cond}
use mathlib.Core.Logic.{◌↔◌}
use Prim.Native.Nat.{ℕ, ◌<◌}
use lib.IntN.{ℤ, pos, neg_ℤ, ◌-ℤ◌}
use lib.Signed.{◌≤ℤ◌, ≤ℤ_refl}
use lib.Dec.{T}
use Rattle.lists.proofs.Tests.{cond_elim, T_true, T_false}
use Rattle.integers.specs.Range.{Within}
use Rattle.integers.proofs.Linear.{up, dn, zarith, -at, neg_up, neg_dn}
use Rattle.sets.specs.Sets.{has, ◌∋◌, ◌∌◌}
use Rattle.sets.proofs.Sets.{yes_has, no_has}
use Rattle.pairs.specs.declared.Carried.{Carried}
use Rattle.pairs.specs.declared.Carried.TheVariants.{Scored, Unscored}
use Rattle.pairs.specs.Pairs.{carried}
use Rattle.pairs.proofs.Pairs.{scored_is}
use Rattle.clusters.specs.PairList.{Similarity, Symmetric, is_allowed_pair}
use Rattle.clusters.specs.Indices.{strong_index}
use Rattle.clusters.specs.Fillings.{Fill, Fills, LeastFilling, AllScored, low, high, worst, filled_index, Scoring, ScoredMore}
use Rattle.clusters.proofs.Strong.{strong_mono, strong_cong}
use Rattle.clusters.proofs.Scored.{AllAllowed, allowed_within}

-- the filling that gives each unscored pair the least score
unfoldable pub lowest : (limit : ℕ) → Similarity → Similarity
lowest limit s a b = low limit (carried (s a b))

-- the scores that a filling may have for a pair are from `low` to `high`, and both are such scores
pub fill_low : (limit : ℕ) (p : Carried) (y : ℤ) → Fill limit p y → low limit p ≤ℤ y
unfolding low
fill_low limit (Scored z) y e = omega zarith
fill_low limit Unscored y h = h.low

pub fill_high : (limit : ℕ) (p : Carried) (y : ℤ) → Fill limit p y → y ≤ℤ high limit p
unfolding high
fill_high limit (Scored z) y e = omega zarith
fill_high limit Unscored y h = h.top

pub low_fill : (limit : ℕ) (p : Carried) → Fill limit p (low limit p)
unfolding low up dn
low_fill limit (Scored z) = refl
low_fill limit Unscored = record { top = omega (zarith, neg_up (pos limit), neg_dn (pos limit)); low = ≤ℤ_refl (neg_ℤ (pos limit)) }

pub high_fill : (limit : ℕ) (p : Carried) → Fill limit p (high limit p)
unfolding high up dn
high_fill limit (Scored z) = refl
high_fill limit Unscored = record { top = ≤ℤ_refl (pos limit); low = omega (zarith, neg_up (pos limit), neg_dn (pos limit)) }

-- inside A the worst filling is least, across its border greatest
module _ (limit : ℕ) (s : Similarity) (A a b : ℕ) where
  pub worst_inside : A ∋ a → A ∋ b → worst limit A s a b ≡ low limit (carried (s a b))
  unfolding worst xor
  worst_inside ka kb = ap₂ (λ p q. cond (xor p q) (high limit (carried (s a b))) (low limit (carried (s a b)))) (T_true {b = has A a} (yes_has A a ka)) (T_true {b = has A b} (yes_has A b kb))

  pub worst_across : A ∋ a → A ∌ b → worst limit A s a b ≡ high limit (carried (s a b))
  unfolding worst xor
  worst_across ka kb = ap₂ (λ p q. cond (xor p q) (high limit (carried (s a b))) (low limit (carried (s a b)))) (T_true {b = has A a} (yes_has A a ka)) (T_false {b = has A b} (no_has A b kb))

xor_comm : (a b : Bool) → xor a b ≡ xor b a
unfolding xor
xor_comm true true = refl
xor_comm true false = refl
xor_comm false true = refl
xor_comm false false = refl

module _ (limit n : ℕ) (s : Similarity) (symm : Symmetric s) where
  pub lowest_fills : Fills limit n s (lowest limit s)
  unfolding lowest
  lowest_fills = record { symmetric = λ a b. ap (λ z. low limit (carried z)) (symm a b); pairs = λ a b _ _. low_fill limit (carried (s a b)) }

  pub worst_fills : (A : ℕ) → Fills limit n s (worst limit A s)
  unfolding worst
  worst_fills A = record {
    symmetric = λ a b. ap₂ (λ c z. cond c (high limit (carried z)) (low limit (carried z))) (xor_comm (has A a) (has A b)) (symm a b);
    pairs = λ a b _ _.
        let p = carried (s a b) in
        cond_elim (xor (has A a) (has A b)) (high limit p) (low limit p) (Fill limit p) (λ _. high_fill limit p) (λ _. low_fill limit p);
  }

-- no filling has a smaller index than the worst one: each of its values is at least the one of the worst
pub filled_least : (limit n : ℕ) (s f : Similarity) (A : ℕ) → Fills limit n s f → filled_index limit n s A ≤ℤ strong_index n f A
unfolding filled_index
filled_least limit n s f A fills = strong_mono n (worst limit A s) f A (λ a b x ha hb hx ka kb kx.
    at (worst_inside limit s A a b ka kb) (worst_across limit s A a x ka kx)
    (fill_low limit (carried (s a b)) (f a b) (fills.pairs a b ha hb)) (fill_high limit (carried (s a x)) (f a x) (fills.pairs a x ha hx)))
  where
    at : {p q l h y z : ℤ} → p ≡ l → q ≡ h → l ≤ℤ y → z ≤ℤ h → (p -ℤ q) ≤ℤ (y -ℤ z)
    at {p} {q} {l} {h} {y} {z} e d k₁ k₂ = omega (zarith, -at p q, -at y z)

-- it goes by the scores of the n entries only
pub filled_cong : (limit n : ℕ) (s t : Similarity) (A : ℕ) → ((a b : ℕ) → a < n → b < n → s a b ≡ t a b) → filled_index limit n s A ≡ filled_index limit n t A
unfolding filled_index worst
filled_cong limit n s t A e = strong_cong n (worst limit A s) (worst limit A t) A
    (λ a b ha hb _. ap (λ z. cond (xor (has A a) (has A b)) (high limit (carried z)) (low limit (carried z))) (e a b ha hb))

-- it is the least over all fillings, and there is one such number
pub least_filling : (limit n : ℕ) (s : Similarity) → Symmetric s → (A : ℕ) → LeastFilling limit n s A (filled_index limit n s A)
unfolding filled_index
least_filling limit n s symm A = record { least = λ f h. filled_least limit n s f A h; filling = worst limit A s; fills = worst_fills limit n s symm A; attained = refl }

pub least_unique : {limit n : ℕ} {s : Similarity} {A : ℕ} {y z : ℤ} → LeastFilling limit n s A y → LeastFilling limit n s A z → y ≡ z
least_unique {y} {z} p q =
    let k₁ = p.least q.filling q.fills in
    let k₂ = q.least p.filling p.fills in
    let e₁ = p.attained in
    let e₂ = q.attained in
    omega zarith

pub least_is : (limit n : ℕ) (s : Similarity) → Symmetric s → (A : ℕ) (z : ℤ) → LeastFilling limit n s A z ↔ (z ≡ filled_index limit n s A)
least_is limit n s symm A z = (
  λ h. least_unique h (least_filling limit n s symm A),
  λ e. subst (LeastFilling limit n s A) (sym e) (least_filling limit n s symm A),
)

-- it is 1 or more exactly if every filling's is
pub filled_positive : (limit n : ℕ) (s : Similarity) → Symmetric s → (A : ℕ)
    → (pos 1 ≤ℤ filled_index limit n s A) ↔ ((f : Similarity) → Fills limit n s f → pos 1 ≤ℤ strong_index n f A)
filled_positive limit n s symm A = (
  λ h f fills. let k = filled_least limit n s f A fills in omega zarith,
  λ h. let r = least_filling limit n s symm A in subst (λ z. pos 1 ≤ℤ z) r.attained (h r.filling r.fills),
)

-- a filling after more pairs are scored is a filling before, so the index can only rise
pub fills_before : {limit n : ℕ} {s later f : Similarity} → ScoredMore limit n s later → Fills limit n later f → Fills limit n s f
fills_before {limit} {n} {s} {later} {f} more fills = record {
  symmetric = fills.symmetric;
  pairs = λ a b ha hb. at (f a b) (carried (s a b)) (carried (later a b)) (more.pairs a b ha hb) (fills.pairs a b ha hb);
}
  where
    at : (y : ℤ) (p q : Carried) → Scoring limit p q → Fill limit q y → Fill limit p y
    at y (Scored z) q e h = subst (λ (q : Carried). Fill limit q y) e h
    at y Unscored (Scored w) t h = subst (Within limit) (sym h) (allowed_within t)
    at y Unscored Unscored t h = h

pub scoring_raises : (limit n : ℕ) (s later : Similarity) → Symmetric later → ScoredMore limit n s later
    → (A : ℕ) → filled_index limit n s A ≤ℤ filled_index limit n later A
scoring_raises limit n s later symm more A =
    let r = least_filling limit n later symm A in
    subst (λ z. filled_index limit n s A ≤ℤ z) r.attained (filled_least limit n s r.filling A (fills_before more r.fills))

-- with every pair scored the list is its own filling, and the only one
pub scored_fills : (limit n : ℕ) (s : Similarity) → Symmetric s → AllScored n s → Fills limit n s s
scored_fills limit n s symm all = record { symmetric = symm; pairs = λ a b ha hb. subst (λ p. Fill limit p (s a b)) (sym (scored_is (all a b ha hb))) refl }

pub scored_filling : {limit n : ℕ} {s f : Similarity} → AllScored n s → Fills limit n s f → (a b : ℕ) → a < n → b < n → f a b ≡ s a b
scored_filling {limit} {f} all fills a b ha hb = subst (λ p. Fill limit p (f a b)) (scored_is (all a b ha hb)) (fills.pairs a b ha hb)

-- a filling of an allowed list is in range, and every pair of it is scored
pub filling_within : {limit n : ℕ} {s f : Similarity} → AllAllowed limit n s → Fills limit n s f → (a b : ℕ) → a < n → b < n → Within limit (f a b)
filling_within {limit} {s} {f} allowed fills a b ha hb = at (f a b) (carried (s a b)) (allowed a b ha hb) (fills.pairs a b ha hb)
  where
    at : (y : ℤ) (p : Carried) → T (is_allowed_pair limit p) → Fill limit p y → Within limit y
    at y (Scored z) t e = subst (Within limit) (sym e) (allowed_within t)
    at y Unscored t h = h
