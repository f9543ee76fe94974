-- The two ways out of the numbers call.
use mathlib.Core.Path.{◌≡◌, sym, ap, ap₂, ◌∙◌}
use mathlib.Core.Bool.{false}
use mathlib.Core.List.{List, ◌++◌, map, append-nil}
use Prim.Native.Nat.{ℕ, ◌*◌, ◌-◌, ◌≤◌}
use native.Mathlib.Omega.{arith}
use borrow.Author.Tests.{ne_eqb, ltb-false}
use lib.Dec.{ltb}
use lib.IntN.{ℤ, pos}
use lib.ListN.{length, get_or, drop, replicate, length-map}
use Rattle.lists.proofs.Tests.{or_none, T_false}
use Rattle.lists.specs.Lists.{all}
use Rattle.std.proofs.lemmas.List.{drop-replicate}
use Rattle.lists.proofs.Written.{Written, all_written, by_places}
use Rattle.clusters.specs.Groups.{groups, sets_of, indices_of, kind_of}
use Rattle.clusters.specs.declared.Group.{Group}
use Rattle.clusters.specs.PairList.{score}
use Rattle.interface.specs.Refusals.{few_slots, numbers_checks, numbers_refusal}
use Rattle.interface.proofs.Refusals.{under, passes}
use Rattle.std.specs.Prelude.{Ok, Err, ◌≢◌}
use Rattle.answers.specs.declared.Refusal.{Refusal}
use Rattle.answers.specs.Answers.{number, filled}
use Rattle.answers.proofs.Answers.{number_above}
use Rattle.answers.proofs.WaysOut.{is_refused, is_found}
use Rattle.interface.specs.Listing.{groups_found}
use Rattle.interface.specs.Calls.{sets_found, indices_found, NumbersCall}

-- what the call relies on once no check refuses it
room : (n sets indices : ℕ) → few_slots n sets indices ≡ false → (2 * n ≤ sets) × (2 * n ≤ indices)
unfolding few_slots
room n sets indices e =
    let (p, q) = or_none (ltb sets (2 * n)) (ltb indices (2 * n)) e in
    (ltb-false sets (2 * n) p, ltb-false indices (2 * n) q)

pub numbers_room : (kind : ℤ) (n : ℕ) (l : List ℤ) (sets indices : ℕ) → numbers_refusal kind n l sets indices ≡ 0 → (2 * n ≤ sets) × (2 * n ≤ indices)
unfolding numbers_refusal numbers_checks under all
numbers_room kind n l sets indices e = room n sets indices (T_false {b = few_slots n sets indices} (passes 13 (numbers_checks kind n l sets indices) tt e))

-- slots that held `nil` hold what f gives of the groups, from the front
pub all_filled : {A : Type 0} (nil : A) (f : Group → A) (found : List Group) (lent : List A) {cleared slots : List A} {i : ℕ}
    → cleared ≡ replicate (length lent) nil → Written (λ k. get_or (map f found) k nil) cleared slots i
    → i ≤ length found → length found ≤ i → slots ≡ filled nil 0 (map f found) lent
unfolding filled
all_filled nil f found lent e w h k =
    let values = map f found in let long = length-map found f in
    let none : length values - length values ≡ 0 = omega arith in
    all_written (length values) w (omega (arith, long, h)) (omega (arith, long, k))
    ∙ ap₂ (λ xs ys. xs ++ ys) (by_places nil values (length values) (omega arith) ∙ rw none (append-nil values))
    (ap (drop (length values)) e ∙ drop-replicate (length values) (length lent) nil)

module _ {kind : ℤ} {n : ℕ} {l : List ℤ} {sets : List ℕ} {indices : List ℤ} where
  pub numbers_refused : {e : Refusal} → number e ≡ numbers_refusal kind n l (length sets) (length indices) → NumbersCall kind n l sets indices (Err e) sets indices
  unfolding filled
  numbers_refused {e} h =
      let f : numbers_refusal kind n l (length sets) (length indices) ≢ 0 = λ z. let a = number_above e in omega (arith, a, h, z) in
      record {
        answered = is_refused (length (groups_found kind n l)) h;
        sets_written = rw (ne_eqb _ 0 f);
        indices_written = rw (ne_eqb _ 0 f);
      }

  pub numbers_counted : {found : List Group} {sets' : List ℕ} {indices' : List ℤ} → 0 ≡ numbers_refusal kind n l (length sets) (length indices)
      → found ≡ groups (kind_of kind) n (score l) → sets' ≡ filled 0 0 (sets_of found) sets → indices' ≡ filled (pos 0) 0 (indices_of found) indices
      → NumbersCall kind n l sets indices (Ok (length found)) sets' indices'
  unfolding sets_found indices_found groups_found
  numbers_counted z g s x = record {
    answered = is_found (length (groups_found kind n l)) (sym z) (ap length g);
    sets_written = s ∙ rw (sym z, g);
    indices_written = x ∙ rw (sym z, g);
  }
