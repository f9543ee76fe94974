-- The values of the strong and of the separation index, of which the index is the least; what an index of 1 or more says.
use mathlib.Core.Path.{◌≡◌, refl, sym, subst, subst₂}
use mathlib.Core.List.Memᴰ
use mathlib.Core.List.{List, [], ◌∷◌, map}
use Prim.Native.Nat.{ℕ, ◌≤◌, ◌<◌}
use lib.IntN.{ℤ, pos, ◌+ℤ◌, ◌-ℤ◌}
use lib.Signed.{◌≤ℤ◌, ◌<ℤ◌, ≤ℤ_refl}
use Rattle.lists.specs.Lists.{◌∈◌, each}
use Rattle.lists.proofs.Lists.{in_each, of_each, in_map, of_map, no_element}
use Rattle.integers.specs.Integers.{least}
use Rattle.integers.proofs.Linear.{up, dn, zarith, -at}
use Rattle.integers.proofs.Least.{least_le, least_of}
use Rattle.sets.specs.Sets.{◌∋◌, ◌∌◌, members, others, size}
use Rattle.sets.proofs.Sets.{in_members, of_members, in_others, of_others, size_member, size_less}
use Rattle.clusters.specs.PairList.{Similarity}
use Rattle.clusters.specs.Indices.{strong_values, strong_index, separation_values, separation_index}

module _ (n : ℕ) (s : Similarity) (A : ℕ) where
  pub in_strong_values : {a b x : ℕ} → a < n → b < n → x < n → A ∋ a → A ∋ b → A ∌ x → (s a b -ℤ s a x) ∈ strong_values n s A
  unfolding strong_values
  in_strong_values {a} {b} ha hb hx ka kb kx =
      in_each (λ a. each (members n A) λ b. map (λ x. s a b -ℤ s a x) (others n A)) (in_members n A ha ka)
      (in_each (λ b. map (λ x. s a b -ℤ s a x) (others n A)) (in_members n A hb kb)
      (in_map (λ x. s a b -ℤ s a x) (in_others n A hx kx)))

  pub of_strong_values : {z : ℤ} → z ∈ strong_values n s A → (a b x : ℕ) × (a < n) × (b < n) × (x < n) × (A ∋ a) × (A ∋ b) × (A ∌ x) × (z ≡ s a b -ℤ s a x)
  unfolding strong_values
  of_strong_values m =
      let (a, ma, ra) = of_each (members n A) (λ a. each (members n A) λ b. map (λ x. s a b -ℤ s a x) (others n A)) m in
      let (b, mb, rb) = of_each (members n A) (λ b. map (λ x. s a b -ℤ s a x) (others n A)) ra in
      let (x, mx, e) = of_map (λ x. s a b -ℤ s a x) (others n A) rb in
      let (ha, ka) = of_members n A ma in
      let (hb, kb) = of_members n A mb in
      let (hx, kx) = of_others n A mx in
      (a, b, x, ha, hb, hx, ka, kb, kx, e)

  -- the index is the least of them, and one of them if A is not empty and not all entries
  pub strong_least : {a b x : ℕ} → a < n → b < n → x < n → A ∋ a → A ∋ b → A ∌ x → strong_index n s A ≤ℤ (s a b -ℤ s a x)
  unfolding strong_index
  strong_least ha hb hx ka kb kx = least_le (strong_values n s A) (in_strong_values ha hb hx ka kb kx)

  pub strong_attained : 1 ≤ size n A → size n A < n
      → (a b x : ℕ) × (a < n) × (b < n) × (x < n) × (A ∋ a) × (A ∋ b) × (A ∌ x) × (strong_index n s A ≡ s a b -ℤ s a x)
  unfolding strong_index
  strong_attained some proper =
      let (a, ha, ka) = size_member n A some in
      let (x, hx, kx) = size_less n A proper in
      of_strong_values (least_of (strong_values n s A) (in_strong_values ha ha hx ka ka kx))

  pub strong_lt : pos 1 ≤ℤ strong_index n s A → (a b x : ℕ) → a < n → b < n → x < n → A ∋ a → A ∋ b → A ∌ x → s a x <ℤ s a b
  unfolding up dn
  strong_lt h a b x ha hb hx ka kb kx = omega (zarith, strong_least ha hb hx ka kb kx, -at (s a b) (s a x))

-- an index is at most another if its values are: those of the same a, a' in A and x outside
module _ (n : ℕ) (s t : Similarity) (A : ℕ) where
  abbrev Below : Type 0
  Below = (a b x : ℕ) → a < n → b < n → x < n → A ∋ a → A ∋ b → A ∌ x → (s a b -ℤ s a x) ≤ℤ (t a b -ℤ t a x)

  pub strong_mono : Below → strong_index n s A ≤ℤ strong_index n t A
  unfolding strong_index
  strong_mono h = go (strong_values n t A) refl
    where
      go : (l : List ℤ) → strong_values n t A ≡ l → least (strong_values n s A) ≤ℤ least (strong_values n t A)
      go [] e = subst₂ (λ k l. least k ≤ℤ least l) (sym none) (sym e) (≤ℤ_refl (least []))
        where
          none : strong_values n s A ≡ []
          none = no_element (strong_values n s A) (λ z m.
              let (a, b, x, ha, hb, hx, ka, kb, kx, _) = of_strong_values n s A m in
              Memᴰ.not-nil (subst (λ l. (t a b -ℤ t a x) ∈ l) e (in_strong_values n t A ha hb hx ka kb kx)))
      go (z ∷ l) e =
          let (a, b, x, ha, hb, hx, ka, kb, kx, q) = of_strong_values n t A (least_of (strong_values n t A) {z = z} (subst (λ k. z ∈ k) (sym e) (Memᴰ.head refl))) in
          let k₁ = strong_least n s A ha hb hx ka kb kx in
          let k₂ = h a b x ha hb hx ka kb kx in
          omega zarith

pub strong_cong : (n : ℕ) (s t : Similarity) (A : ℕ) → ((a b : ℕ) → a < n → b < n → A ∋ a → s a b ≡ t a b) → strong_index n s A ≡ strong_index n t A
strong_cong n s t A e =
    let k₁ = strong_mono n s t A (λ a b x ha hb hx ka _ _. subst₂ (λ y z. (s a b -ℤ s a x) ≤ℤ (y -ℤ z)) (e a b ha hb ka) (e a x ha hx ka) (≤ℤ_refl (s a b -ℤ s a x))) in
    let k₂ = strong_mono n t s A (λ a b x ha hb hx ka _ _. subst₂ (λ y z. (y -ℤ z) ≤ℤ (s a b -ℤ s a x)) (e a b ha hb ka) (e a x ha hx ka) (≤ℤ_refl (s a b -ℤ s a x))) in
    omega zarith

-- the value of a, a' in A and b, b' outside
abbrev separation : Similarity → ℕ → ℕ → ℕ → ℕ → ℤ
separation d a a' b b' = d a b +ℤ d a' b' -ℤ d a a' -ℤ d b b'

module _ (n : ℕ) (d : Similarity) (A : ℕ) where
  pub in_separation_values : {a a' b b' : ℕ} → a < n → a' < n → b < n → b' < n → A ∋ a → A ∋ a' → A ∌ b → A ∌ b'
      → (d a b +ℤ d a' b' -ℤ d a a' -ℤ d b b') ∈ separation_values n d A
  unfolding separation_values
  in_separation_values {a} {a'} {b} {b'} ha ha' hb hb' ka ka' kb kb' =
      in_each (λ a. each (members n A) λ a'. each (others n A) λ b. map (separation d a a' b) (others n A)) (in_members n A ha ka)
      (in_each (λ a'. each (others n A) λ b. map (separation d a a' b) (others n A)) (in_members n A ha' ka')
      (in_each (λ b. map (separation d a a' b) (others n A)) (in_others n A hb kb)
      (in_map (separation d a a' b) (in_others n A hb' kb'))))

  pub of_separation_values : {z : ℤ} → z ∈ separation_values n d A
      → (a a' b b' : ℕ) × (a < n) × (a' < n) × (b < n) × (b' < n) × (A ∋ a) × (A ∋ a') × (A ∌ b) × (A ∌ b') × (z ≡ d a b +ℤ d a' b' -ℤ d a a' -ℤ d b b')
  unfolding separation_values
  of_separation_values m =
      let (a, ma, ra) = of_each (members n A) (λ a. each (members n A) λ a'. each (others n A) λ b. map (separation d a a' b) (others n A)) m in
      let (a', ma', ra') = of_each (members n A) (λ a'. each (others n A) λ b. map (separation d a a' b) (others n A)) ra in
      let (b, mb, rb) = of_each (others n A) (λ b. map (separation d a a' b) (others n A)) ra' in
      let (b', mb', e) = of_map (separation d a a' b) (others n A) rb in
      let (ha, ka) = of_members n A ma in
      let (ha', ka') = of_members n A ma' in
      let (hb, kb) = of_others n A {i = b} mb in
      let (hb', kb') = of_others n A {i = b'} mb' in
      (a, a', b, b', ha, ha', hb, hb', ka, ka', kb, kb', e)

  -- the index is the least of them, and one of them if neither side is empty
  pub separation_least : {a a' b b' : ℕ} → a < n → a' < n → b < n → b' < n → A ∋ a → A ∋ a' → A ∌ b → A ∌ b'
      → separation_index n d A ≤ℤ (d a b +ℤ d a' b' -ℤ d a a' -ℤ d b b')
  unfolding separation_index
  separation_least ha ha' hb hb' ka ka' kb kb' = least_le (separation_values n d A) (in_separation_values ha ha' hb hb' ka ka' kb kb')

  pub separation_attained : 1 ≤ size n A → size n A < n
      → (a a' b b' : ℕ) × (a < n) × (a' < n) × (b < n) × (b' < n) × (A ∋ a) × (A ∋ a') × (A ∌ b) × (A ∌ b')
      × (separation_index n d A ≡ d a b +ℤ d a' b' -ℤ d a a' -ℤ d b b')
  unfolding separation_index
  separation_attained some proper =
      let (a, ha, ka) = size_member n A some in
      let (b, hb, kb) = size_less n A proper in
      of_separation_values (least_of (separation_values n d A) (in_separation_values ha ha hb hb ka ka kb kb))
