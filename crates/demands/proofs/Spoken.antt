-- Which sets a kind speaks of, by entries.
use mathlib.Core.Bool.{◌&&◌}
use mathlib.Core.Logic.{◌≢◌}
use mathlib.Core.List.Memᴰ
use mathlib.Core.List.{List, [], ◌∷◌}
use mathlib.Core.Path.{refl}
use Prim.Native.Nat.{ℕ, ◌<◌, ◌≤◌}
use native.Mathlib.Omega.{arith}
use native.Mathlib.Decide.{dec_lt}
use lib.Dec.{leb}
use lib.ListN.{length}
use Rattle.lists.specs.Lists.{◌∈◌, Distinct}
use Rattle.sets.specs.Sets.{members, size, ◌∋◌}
use Rattle.sets.proofs.Sets.{has_no, no_has, of_members, members_distinct, member_size, size_member, size_less, less_size}
use Rattle.clusters.specs.Groups.{Kind, strong, clean, splits, proper, speaks_of}
use Rattle.demands.specs.Demands.{Proper, Spoken}
use Rattle.demands.proofs.Agree.{Says, and_says, like, le_says, lt_says}
use Rattle.sets.proofs.Subsets.{two_size}

proper_says : (n A : ℕ) → Says (leb 1 (size n A) && proper n A) (Proper n A)
unfolding proper
proper_says n A = like (and_says (le_says 1 (size n A)) (lt_says (size n A) n))
    (λ (some, less).
    let (a, ha, ka) = size_member n A some in
    let (x, hx, kx) = size_less n A less in
    record { a = a; x = x; there = (ha, hx); inside = ka; outside = kx })
    (λ p. let (ha, hx) = p.there in (member_size n A ha p.inside, less_size n A hx p.outside))

pub sizes : {n A : ℕ} → Proper n A → (1 ≤ size n A) × (size n A < n)
sizes {n} {A} p = let (ha, hx) = p.there in (member_size n A ha p.inside, less_size n A hx p.outside)

-- two of different elements
two_of : (l : List ℕ) → Distinct l → 2 ≤ length l → (x y : ℕ) × (x ∈ l) × (y ∈ l) × (x ≢ y)
two_of [] d h = absurd (omega arith)
two_of (x ∷ []) d h = absurd (omega arith)
two_of (x ∷ y ∷ l) d h = (x, y, Memᴰ.head refl, Memᴰ.tail (Memᴰ.head refl), λ e. d.0 (Memᴰ.head e))

pub two_members : (n A : ℕ) {i j : ℕ} → i < n → j < n → A ∋ i → A ∋ j → i ≢ j → 2 ≤ size n A
two_members n A {i} {j} hi hj ki kj d = go (dec_lt i j)
  where
    go : Dec (i < j) → 2 ≤ size n A
    go (yes l) = two_size n A hj l kj ki
    go (no l) = two_size n A {i = i} {j = j} hi (omega arith) ki kj

pub spoken_says : (k : Kind) (n A : ℕ) → Says (speaks_of k n A) (Spoken k n A)
unfolding speaks_of proper size
spoken_says strong n A = proper_says n A
spoken_says clean n A = like (and_says (le_says 2 (size n A)) (lt_says (size n A) n))
    (λ (two, less).
    let (a, b, ma, mb, d) = two_of (members n A) (members_distinct n A) two in
    let (ha, ka) = of_members n A ma in
    let (hb, kb) = of_members n A mb in
    let (x, hx, kx) = size_less n A less in
    (record { a = a; x = x; there = (ha, hx); inside = ka; outside = kx }, (a, b, ha, hb, ka, kb, d)))
    (λ (p, (a, b, ha, hb, ka, kb, d)). (two_members n A ha hb ka kb d, (sizes p).1))
spoken_says splits n A = and_says (proper_says n A) (record { to = has_no A 0; from = no_has A 0 })
