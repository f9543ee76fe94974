-- Slots that start with the sets and the indices of some groups hold these groups; the group in slot k.
use mathlib.Core.Path.{◌≡◌, ap₂, ◌∙◌}
use mathlib.Core.List.{List, ◌++◌}
use Prim.Native.Nat.{ℕ, ◌<◌}
use native.Mathlib.Omega.{arith}
use lib.IntN.{ℤ, pos}
use lib.ListN.{length, length-map, get_or, get_or-append, get_or-map}
use lib.Seq.{ext_get_or}
use Rattle.lists.specs.Lists.{below}
use Rattle.lists.proofs.Lists.{count_below, get_d_below}
use Rattle.clusters.specs.Groups.{sets_of, indices_of}
use Rattle.clusters.specs.declared.Group.{Group}
use Rattle.interface.specs.Calls.{groups_in}

pub length_groups_in : (count : ℕ) (sets : List ℕ) (indices : List ℤ) → length (groups_in count sets indices) ≡ count
unfolding groups_in
length_groups_in count sets indices = length-map {B = Group} (below count) _ ∙ count_below count

pub group_at : (count : ℕ) (sets : List ℕ) (indices : List ℤ) (k : ℕ) (none : Group) → k < count
    → get_or (groups_in count sets indices) k none ≡ record { set = get_or sets k 0; index = get_or indices k (pos 0) }
unfolding groups_in
group_at count sets indices k none h = get_d_below _ count k none h

pub groups_slots : (groups : List Group) (sets : List ℕ) (indices : List ℤ)
    → groups_in (length groups) (sets_of groups ++ sets) (indices_of groups ++ indices) ≡ groups
groups_slots groups sets indices =
    let n = length groups in
    let none : Group = record { set = 0; index = pos 0 } in
    ext_get_or none _ groups (length_groups_in n _ _) λ k h.
    let h : k < n = omega (arith, length_groups_in n (sets_of groups ++ sets) (indices_of groups ++ indices)) in
    group_at n (sets_of groups ++ sets) (indices_of groups ++ indices) k none h
    ∙ ap₂ {C = Group} (λ A z. record { set = A; index = z })
    (get_or-append (sets_of groups) sets 0 k (omega (arith, length-map groups (λ (g : Group). g.set))) ∙ get_or-map (λ (g : Group). g.set) groups k none)
    (get_or-append (indices_of groups) indices (pos 0) k (omega (arith, length-map groups (λ (g : Group). g.index))) ∙ get_or-map (λ (g : Group). g.index) groups k none)
