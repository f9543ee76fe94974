-- The indices are the least of all values, and attained.
use mathlib.Core.Path.{◌≡◌, refl, sym, ap, ◌∙◌, subst}
use mathlib.Core.Logic.{◌⊎◌, inl, inr, ◌≢◌}
use mathlib.Core.List.{List}
use Prim.Native.Nat.{ℕ, ◌≤◌, ◌<◌}
use native.Mathlib.Omega.{arith}
use native.Mathlib.Decide.{dec_lt}
use lib.IntN.{ℤ, pos, ◌+ℤ◌, ◌-ℤ◌}
use lib.Signed.{◌≤ℤ◌}
use Rattle.lists.specs.Lists.{◌∈◌}
use Rattle.integers.specs.Integers.{eq_z, max_z}
use Rattle.integers.proofs.Linear.{zarith, +at, -at}
use Rattle.integers.proofs.Least.{max_left, max_right, max_is}
use Rattle.sets.specs.Sets.{◌∋◌, size}
use Rattle.clusters.specs.PairList.{Similarity, score, score_limit}
use Rattle.clusters.specs.Indices.{strong_index, weight, clean_index, separation_index}
use Rattle.clusters.specs.Groups.{strong, kind_of, index}
use Rattle.clusters.specs.declared.Group.{Group}
use Rattle.clusters.specs.Triples.{Triple, triple_weight, TripleOf}
use Rattle.clusters.proofs.Groups.{least_size, speaks_size, of_listed, in_groups}
use Rattle.clusters.proofs.Strong.{strong_least, strong_attained, separation_least, separation_attained}
use Rattle.clusters.proofs.Triples.{clean_least, clean_attained}
use Rattle.clusters.proofs.Untouched.{untouched_index}
use Rattle.clusters.proofs.Unscored.{listed_untouched}
use Rattle.demands.specs.Demands.{Wrote}
use Rattle.demands.specs.Least.{SamePair, Inside, StrongLeast, UnorderedTriple, CleanLeast, SeparationLeast, LeastIndices}
use Rattle.demands.proofs.Demands.{wrote, wrote_allowed, demand_3}
use Rattle.demands.proofs.Spoken.{sizes}

-- each index, of a set that its kind speaks of
strong_is : (n : ℕ) (s : Similarity) (A : ℕ) → 1 ≤ size n A → size n A < n → StrongLeast n s A (strong_index n s A)
strong_is n s A some proper =
    let (a, a', x, ha, ha', hx, ka, ka', kx, e) = strong_attained n s A some proper in
    record {
      least = λ b b' y i. let (hb, hb', hy) = i.there in strong_least n s A hb hb' hy i.in_A.0 i.in_A.1 i.outside;
      a = a;
      a' = a';
      x = x;
      these = record { there = (ha, ha', hx); in_A = (ka, ka'); outside = kx };
      attained = e;
    }

clean_is : (n : ℕ) (s : Similarity) (A : ℕ) → size n A < n → CleanLeast n s A (clean_index n s A)
clean_is n s A proper =
    let (ts, chosen, e) = clean_attained n s A proper in
    record { least = clean_least n s A; triples = ts; these = chosen; attained = e }

separation_is : (n : ℕ) (d : Similarity) (A : ℕ) → 1 ≤ size n A → size n A < n → SeparationLeast n d A (separation_index n d A)
separation_is n d A some proper =
    let (a, a', b, b', ha, ha', hb, hb', ka, ka', kb, kb', e) = separation_attained n d A some proper in
    record {
      least = λ v v' w w' i.
          let (hv, hv', hw, hw') = i.there in
          separation_least n d A hv hv' hw hw' i.in_A.0 i.in_A.1 i.outside.0 i.outside.1;
      a = a;
      a' = a';
      b = b;
      b' = b';
      these = record { there = (ha, ha', hb, hb'); in_A = (ka, ka'); outside = (kb, kb') };
      attained = e;
    }

-- there is one least
equal : (y z : ℤ) → y ≤ℤ z → z ≤ℤ y → y ≡ z
equal y z a b = omega (zarith, a, b)

one_strong : {n : ℕ} {s : Similarity} {A : ℕ} {y z : ℤ} → StrongLeast n s A y → StrongLeast n s A z → y ≡ z
one_strong {y = y} {z} l m = equal y z
    (subst (λ x. y ≤ℤ x) (sym m.attained) (l.least m.a m.a' m.x m.these))
    (subst (λ x. z ≤ℤ x) (sym l.attained) (m.least l.a l.a' l.x l.these))

one_clean : {n : ℕ} {s : Similarity} {A : ℕ} {y z : ℤ} → CleanLeast n s A y → CleanLeast n s A z → y ≡ z
one_clean {y = y} {z} l m = equal y z
    (subst (λ x. y ≤ℤ x) (sym m.attained) (l.least m.triples m.these))
    (subst (λ x. z ≤ℤ x) (sym l.attained) (m.least l.triples l.these))

one_separation : {n : ℕ} {d : Similarity} {A : ℕ} {y z : ℤ} → SeparationLeast n d A y → SeparationLeast n d A z → y ≡ z
one_separation {y = y} {z} l m = equal y z
    (subst (λ x. y ≤ℤ x) (sym m.attained) (l.least m.a m.a' m.b m.b' m.these))
    (subst (λ x. z ≤ℤ x) (sym l.attained) (m.least l.a l.a' l.b l.b' l.these))

-- a group of each kind
strong_group : {n : ℕ} {l : List ℤ} {found : List Group} → Wrote (pos 1) n l found → (g : Group) → g ∈ found → StrongLeast n (score l) g.set g.index
unfolding index least_size kind_of eq_z
strong_group {n} {l} w g m =
    let s = score l in
    let (_, t, e) = (in_groups strong n s g).0 (subst (λ (found : List Group). g ∈ found) (wrote w) m) in
    let (some, proper) = speaks_size strong n g.set (of_listed strong n s g.set t).0 in
    let as_lent = untouched_index score_limit n s g.set (listed_untouched n s (wrote_allowed w) g.set t) in
    subst (StrongLeast n s g.set) (sym (e ∙ as_lent)) (strong_is n s g.set some proper)

clean_group : {n : ℕ} {l : List ℤ} {found : List Group} → Wrote (pos 2) n l found → (g : Group) → g ∈ found → CleanLeast n (score l) g.set g.index
unfolding kind_of eq_z
clean_group {n} {l} w g m =
    let p = (((demand_3 (pos 2)).complete w).exactly g.set g.index).0 (g, m, refl, refl) in
    subst (CleanLeast n (score l) g.set) (sym p.index_is) (clean_is n (score l) g.set (sizes p.spoken.0).1)

split_group : {n : ℕ} {l : List ℤ} {found : List Group} → Wrote (pos 3) n l found → (g : Group) → g ∈ found → SeparationLeast n (score l) g.set g.index
unfolding kind_of eq_z least_size
split_group {n} {l} w g m =
    let p = (((demand_3 (pos 3)).complete w).exactly g.set g.index).0 (g, m, refl, refl) in
    let (some, proper) = sizes p.spoken.0 in
    subst (SeparationLeast n (score l) g.set) (sym p.index_is) (separation_is n (score l) g.set some proper)

-- what is less by the larger of two
less_larger : (u v w : ℤ) → let z = u -ℤ max_z v w in ((z +ℤ v) ≤ℤ u) × ((z +ℤ w) ≤ℤ u) × ((z ≡ u -ℤ v) ⊎ (z ≡ u -ℤ w))
less_larger u v w = (
  omega (zarith, max_left v w, -at u (max_z v w), +at (u -ℤ max_z v w) v),
  omega (zarith, max_right v w, -at u (max_z v w), +at (u -ℤ max_z v w) w),
  go (max_is v w),
)
  where
    go : (max_z v w ≡ v) ⊎ (max_z v w ≡ w) → (u -ℤ max_z v w ≡ u -ℤ v) ⊎ (u -ℤ max_z v w ≡ u -ℤ w)
    go (inl e) = inl (ap (λ y. u -ℤ y) e)
    go (inr e) = inr (ap (λ y. u -ℤ y) e)

-- two different numbers in falling order: there is one such order
pub record Falling (i j : ℕ) : Type 0 where
  pub high : ℕ
  pub low : ℕ
  pub falls : low < high
  pub same : SamePair high low i j
  pub only : (x y : ℕ) → y < x → SamePair x y i j → (x ≡ high) × (y ≡ low)

pub falling : (i j : ℕ) → i ≢ j → Falling i j
falling i j d = go (dec_lt j i)
  where
    go : Dec (j < i) → Falling i j
    go (yes l) = record { high = i; low = j; falls = l; same = inl (refl, refl); only = one }
      where
        one : (x y : ℕ) → y < x → SamePair x y i j → (x ≡ i) × (y ≡ j)
        one x y h (inl e) = e
        one x y h (inr (p, q)) = absurd (omega arith)
    go (no l) = record { high = j; low = i; falls = omega arith; same = inr (refl, refl); only = other }
      where
        other : (x y : ℕ) → y < x → SamePair x y i j → (x ≡ j) × (y ≡ i)
        other x y h (inl (p, q)) = absurd (omega arith)
        other x y h (inr e) = e

-- what holds of two entries holds of them in either order
pub either_order : (P : ℕ → Type 0) (x y i j : ℕ) → SamePair x y i j → P i → P j → P x × P y
either_order P x y i j (inl (e, f)) p q = (subst P (sym e) p, subst P (sym f) q)
either_order P x y i j (inr (e, f)) p q = (subst P (sym e) q, subst P (sym f) p)

unordered : (n A a b c : ℕ) → Inside n A a b c → a ≢ b
    → (t : Triple) × UnorderedTriple n A t a b c × ((u : Triple) → UnorderedTriple n A u a b c → u ≡ t)
unordered n A a b c i d =
    let (ha, hb, hc) = i.there in
    let (ka, kb) = i.in_A in
    let f = falling a b d in
    let t : Triple = record { a = f.high; b = f.low; c = c } in
    let (hf, _) = either_order (λ i. i < n) f.high f.low a b f.same ha hb in
    let (kf, kf') = either_order (λ i. A ∋ i) f.high f.low a b f.same ka kb in (
      t,
      record { of_A = record { pair = (hf, f.falls, kf, kf'); outside = (hc, i.outside) }; pair = f.same; outside = refl },
      λ u o. equal u t (f.only u.a u.b o.of_A.pair.1 o.pair) o.outside,
    )
  where
    equal : (u t : Triple) → (u.a ≡ t.a) × (u.b ≡ t.b) → u.c ≡ t.c → u ≡ t
    equal u t (e, f) g = λ i. record { a = e i; b = f i; c = g i }

of_entries : (n A : ℕ) (t : Triple) → TripleOf n A t → Inside n A t.a t.b t.c × (t.a ≢ t.b)
of_entries n A t o =
    let (ha, l, ka, kb) = o.pair in
    let (hc, kc) = o.outside in
    (record { there = (ha, omega arith, hc); in_A = (ka, kb); outside = kc }, λ e. omega arith)

pub least_indices : LeastIndices
unfolding triple_weight weight
least_indices = record {
  strong_index_lem = λ n s A p z.
      let (some, proper) = sizes p in
      (λ e. subst (StrongLeast n s A) (sym e) (strong_is n s A some proper), λ l. one_strong l (strong_is n s A some proper));
  clean_index_lem = λ n s A p z.
      let (_, proper) = sizes p in
      (λ e. subst (CleanLeast n s A) (sym e) (clean_is n s A proper), λ l. one_clean l (clean_is n s A proper));
  separation_index_lem = λ n d A p z.
      let (some, proper) = sizes p in
      (λ e. subst (SeparationLeast n d A) (sym e) (separation_is n d A some proper), λ l. one_separation l (separation_is n d A some proper));
  strong = strong_group;
  weight = λ s t. less_larger (s t.a t.b) (s t.a t.c) (s t.b t.c);
  unordered = unordered;
  of_entries = of_entries;
  clean = clean_group;
  separation = split_group;
}
