-- What the search answers where it stops, what the checks leave, and the two ways out of the call.
use mathlib.Core.Path.{◌≡◌, refl, sym, ap, ◌∙◌}
use mathlib.Core.Bool.{true, false}
use mathlib.Core.List.{List}
use Prim.Native.Nat.{ℕ, ◌+◌, ◌≤◌, ◌<◌}
use lib.IntN.{ℤ, pos}
use lib.ListN.{length, get_or, length-map, get_or-map}
use native.Mathlib.Omega.{arith}
use Rattle.lists.proofs.Tests.{or_none, T_false}
use Rattle.lists.specs.Lists.{all}
use Rattle.integers.specs.Integers.{eq_z}
use Rattle.sets.specs.Sets.{all_entries}
use Rattle.clusters.specs.PairList.{score}
use Rattle.clusters.specs.Groups.{kind_of, groups, sets_of}
use Rattle.clusters.specs.declared.Group.{Group}
use Rattle.clusters.specs.Nesting.{holds_both, smallest_shared}
use Rattle.clusters.specs.declared.Hit.{Hit}
use Rattle.clusters.proofs.Searches.{Looked, look_started, look_next, look_found, look_ended}
use Rattle.std.specs.Prelude.{Ok, Err}
use Rattle.answers.specs.declared.Refusal.{Refusal}
use Rattle.answers.specs.Answers.{number}
use Rattle.answers.proofs.WaysOut.{is_refused, is_found}
use Rattle.interface.specs.Listing.{groups_found}
use Rattle.interface.specs.Refusals.{wrong_kind, wrong_group_kind, wrong_unscored, wrong_distances, shared_checks, shared_refusal}
use Rattle.interface.specs.Calls.{sets_found, shared_found, SharedCall}
use Rattle.interface.proofs.Refusals.{under, passes}
use Rattle.interface.proofs.Accepted.{shared_left}
use Rattle.kinds.specs.Kinds.{Accepted}
use Rattle.kinds.proofs.Listed.{accepted}
use Rattle.matrix.proofs.Checks.{checked}

-- the search has passed the groups before place i
pub record Passed (n a b : ℕ) (l : List Group) (i : ℕ) : Type 0 where
  pub looked : Looked (holds_both a b) (all_entries n) (sets_of l) i (smallest_shared n a b (sets_of l))

pub started : {n a b : ℕ} {l : List Group} → Passed n a b l 0
unfolding smallest_shared
started = record { looked = look_started }

module _ {n a b : ℕ} {l : List Group} {i : ℕ} (s : Passed n a b l i) where
  long : length (sets_of l) ≡ length l
  long = length-map l _

  -- the group at place i
  abbrev here : Group
  here = get_or l i (record { set = 0; index = pos 0 })

  there : get_or (sets_of l) i 0 ≡ here.set
  there = get_or-map (λ (g : Group). g.set) l i (record { set = 0; index = pos 0 })

  pub next : i < length l → holds_both a b here.set ≡ false → Passed n a b l (i + 1)
  next h e = record { looked = look_next s.looked (omega (arith, long, h)) (rw there e) }

  pub found : i < length l → holds_both a b here.set ≡ true → record { set = here.set; line = i + 1 } ≡ smallest_shared n a b (sets_of l)
  found h e = rw (sym there) (sym (look_found s.looked (omega (arith, long, h)) (rw there e)))

  pub not_found : {A : ℕ} → A ≡ all_entries n → length l ≤ i → record { set = A; line = 0 } ≡ smallest_shared n a b (sets_of l)
  not_found e h = ap {B = Hit} (λ (B : ℕ). record { set = B; line = 0 }) e ∙ sym (look_ended s.looked (omega (arith, long, h)))

-- line 12 is of kind 3, which is no kind of groups
pub no_distances : (kind : ℤ) (n : ℕ) (l : List ℤ) → wrong_group_kind kind ≡ false → wrong_distances kind n l ≡ false
unfolding wrong_group_kind wrong_distances
no_distances kind n l e = rw (or_none (wrong_kind kind) (eq_z kind (pos 3)) e).1

pub shared_pass : (kind : ℤ) (n : ℕ) (l : List ℤ) (i j : ℕ) → shared_refusal kind n l i j ≡ 0 → Accepted (kind_of kind) n l × (i < n) × (j < n)
unfolding shared_refusal shared_checks under all
shared_pass kind n l i j e =
    let checks = shared_checks kind n l i j in
    let (_, hi, hj) = shared_left kind n l i j e in
    (accepted kind (checked n l checks tt e refl refl refl) (T_false {b = wrong_unscored kind l} (passes 16 checks tt e)), hi, hj)

module _ {kind : ℤ} {n : ℕ} {l : List ℤ} {i j : ℕ} where
  pub shared_refused : {e : Refusal} → number e ≡ shared_refusal kind n l i j → SharedCall kind n l i j (Err e)
  shared_refused h = record { answered = is_refused (shared_found kind n l i j) h }

  -- what is gone down is the groups
  pub shared_answered : {found : List Group} {hit : Hit} → 0 ≡ shared_refusal kind n l i j → found ≡ groups (kind_of kind) n (score l)
      → hit ≡ smallest_shared n i j (sets_of found) → SharedCall kind n l i j (Ok hit)
  unfolding shared_found sets_found groups_found
  shared_answered z e q = record { answered = is_found (shared_found kind n l i j) (sym z) (q ∙ ap (λ found. smallest_shared n i j (sets_of found)) e) }
