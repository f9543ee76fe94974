use mathlib.Core.Path.{◌≡◌, sym, ap, ap₂, ◌∙◌, subst}
use Prim.Native.Nat.{ℕ, ◌-◌, ◌^◌, ◌≤◌, ◌<◌}
use native.Mathlib.Omega.{arith}
use mathlib.Core.List.{List}
use lib.IntN.{ℤ}
use mir.Syntax.{w64}
use Rattle.integers.specs.Integers.{sum}
use Rattle.integers.specs.Range.{Bounded}
use Rattle.integers.proofs.Held.{passed}
use Rattle.sets.specs.Sets.{size}
use Rattle.clusters.specs.PairList.{score}
use Rattle.matrix.specs.declared.PairList.{PairList}
use Rattle.indices.specs.Triples.{keep_all}
use Rattle.indices.proofs.Clean.{counted, kept_within, kept_clean}
use Rattle.indices.proofs.clean_index.Goals.{After-size}
use Rattle.indices.proofs.clean_index.Goals as goal

-- the size of the set, as the code counts it
size_is : (c : After-size) → let a = c.args in (c.size.result ≡ size a.list.now.n a.set) × (1 ≤ c.size.result) × (c.size.result < 32)
size_is c = counted c.args.list.now.fits c.requires.0 c.size.ensures

pub new-nearest-requires : goal.new-nearest-requires
new-nearest-requires c = c.requires.1

pub overflow_sub-size : goal.overflow_sub-size
overflow_sub-size c = omega (arith, (size_is c).1)

pub new-kept-requires : goal.new-kept-requires
new-kept-requires c = let (_, some, few) = size_is c in omega arith

-- what is kept of the list and the set that were handed over
kept_is : {l m : PairList} {A B : ℕ} {kept : List ℤ} (start : List ℤ) → kept ≡ keep_all l.n (score l.pairs.now) A start → (l ≡ m) × (A ≡ B)
    → kept ≡ keep_all m.n (score m.pairs.now) B start
kept_is start e (p, q) = e ∙ ap₂ (λ (l : PairList) (A : ℕ). keep_all l.n (score l.pairs.now) A start) p q

pub total-requires : goal.total-requires
total-requires c = subst (Bounded (2 ^ 30)) (sym (kept_is _ c.keep_all.ensures c.new-nearest.ensures ∙ ap (keep_all _ _ _) c.new-kept.ensures)) (kept_within c.requires.0 c.requires.1 _)

-- one weight less than the set has entries
pub returns : goal.returns
returns c = let e = size_is (goal.at.returns c).After-size in
    passed w64 c.total.type_inv
    (c.total.ensures ∙ ap sum (kept_is _ c.keep_all.ensures c.new-nearest.ensures ∙ ap (keep_all _ _ _) c.new-kept.ensures) ∙ kept_clean c.requires.0 c.requires.1 _ (ap (λ (m : ℕ). m - 1) e.0))
