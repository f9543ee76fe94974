-- Request 2.1, from the outcomes of the call and the theorems about groups.
use mathlib.Core.Path.{◌≡◌, refl, sym, ap, ap₂, ◌∙◌, subst, subst₂}
use mathlib.Core.Bool.{Bool, true, false, not, cond, ◌||◌}
use mathlib.Core.Logic.{◌⊎◌, inl, inr, ◌≢◌}
use mathlib.Core.List.{List, ◌∷◌, ◌++◌, []}
use Prim.Native.Nat.{ℕ, ◌^◌, ◌<◌}
use lib.Dec.{T, T_not}
use lib.IntN.{ℤ, pos}
use Rattle.lists.specs.Lists.{◌∈◌}
use Rattle.lists.proofs.Tests.{false_T}
use Rattle.integers.specs.Integers.{eq_z}
use Rattle.clusters.specs.PairList.{Similarity, Symmetric, score}
use Rattle.clusters.specs.Groups.{Kind, strong, clean, splits, kind_of, group_sets, sets_of}
use Rattle.clusters.specs.Reordering.{image}
use Rattle.clusters.specs.Nesting.{smallest_shared}
use Rattle.clusters.specs.declared.Hit.{Hit}
use Rattle.clusters.proofs.PairList.{score_symm}
use Rattle.clusters.proofs.Groups.{groups_rise, groups_sets}
use Rattle.clusters.proofs.Hierarchies.{groups_hierarchy}
use Rattle.clusters.proofs.Shared.{shared_swapped, shared_of_all, shared_line_lem, shared_none, shared_holds, shared_all}
use Rattle.clusters.proofs.Shared.{shared_inside, shared_only, shared_single}
use Rattle.clusters.proofs.Images.{of_groups, shared_image, shared_image_none}
use Rattle.answers.specs.Answers.{number_of}
use Rattle.answers.specs.Shared.{Shared, shared_set, shared_line}
use Rattle.answers.proofs.Answers.{shared_nothing, the_answer, is_answer}
use Rattle.interface.specs.Listing.{groups_found}
use Rattle.interface.specs.Refusals.{wrong_kind, wrong_group_kind, wrong_anchor, wrong_entries, shared_checks, shared_refusal}
use Rattle.interface.specs.Calls.{sets_found, shared_found, SharedCall}
use Rattle.interface.proofs.Accepted.{shared_left}
use Rattle.demands.specs.Sentences.{NoKind, NoEntries}
use Rattle.demands.specs.Tables.{Table, Judged, pair_table, kind_table}
use Rattle.demands.proofs.Agree.{Says, or_says, like, decided, eq_z_says, Agree, done, next, agree_append, judged, none_both}
use Rattle.demands.proofs.AgreeNumbers.{one_says, third_kind, entries_say}
use Rattle.demands.proofs.AgreeTables.{pair_agrees, kind_agrees}
use Rattle.demands.proofs.TurnedAway.{line_in_C}
use Rattle.demands.proofs.Taken.{pair_none, kind_none, neither_entry}
use Rattle.demands.proofs.Demands.{wrote}
use Rattle.requests.specs.Shared.{NoGroupKind, shared_table, SmallestFound, Request2_1}

-- the sets gone down are the groups
found_is : (kind : ℤ) (n : ℕ) (l : List ℤ) (i j : ℕ) → shared_found kind n l i j ≡ smallest_shared n i j (group_sets (kind_of kind) n (score l))
unfolding shared_found sets_found groups_found
found_is kind n l i j = ap (smallest_shared n i j) (groups_sets (kind_of kind) n (score l))

-- an answer that is no refusal: what the checks leave, and what was found
record Found (kind : ℤ) (n : ℕ) (l : List ℤ) (i j set line : ℕ) : Type 0 where
  groups_kind : T (of_groups (kind_of kind))
  first : i < n
  second : j < n
  hit : record { set = set; line = line } ≡ smallest_shared n i j (group_sets (kind_of kind) n (score l))

kind_left : (kind : ℤ) → wrong_group_kind kind ≡ false → T (of_groups (kind_of kind))
unfolding wrong_group_kind wrong_kind kind_of of_groups
kind_left kind e = go (eq_z kind (pos 1)) (eq_z kind (pos 2)) (eq_z kind (pos 3)) e
  where
    go : (a b c : Bool) → (not (a || b || c) || c) ≡ false → T (of_groups (cond a strong (cond b clean splits)))
    go true b c e = tt
    go false true c e = tt
    go false false true e = absurd (T_not true (false_T e) tt)
    go false false false e = absurd (T_not true (false_T e) tt)

found : {kind : ℤ} {n : ℕ} {l : List ℤ} {i j : ℕ} {r : Shared} → SharedCall kind n l i j r → number_of r ≡ 0 → Found kind n l i j (shared_set r) (shared_line r)
unfolding shared_set shared_line
found {kind} {n} {l} {i} {j} {r} c none =
    let hit = shared_found kind n l i j in
    let zero : shared_refusal kind n l i j ≡ 0 = sym c.answered.number ∙ none in
    let (one, hi, hj) = shared_left kind n l i j zero in
    let is = c.answered.is_found zero in
    record {
      groups_kind = kind_left kind one;
      first = hi;
      second = hj;
      hit = ap₂ {C = Hit} (λ A k. record { set = A; line = k }) (ap shared_set is) (ap shared_line is) ∙ found_is kind n l i j;
    }

-- the smallest shared group among all groups
smallest_found : (k : Kind) (n : ℕ) (s : Similarity) → Symmetric s → (i j : ℕ) → i < n → j < n
    → let hit = smallest_shared n i j (group_sets k n s) in SmallestFound n i j (group_sets k n s) hit.set hit.line
smallest_found k n s symm i j hi hj =
    let l = group_sets k n s in
    let h = groups_hierarchy k n s symm in
    record {
      on_line = shared_line_lem n i j l;
      holds_both_lem = shared_holds n i j l hi hj;
      of_all = shared_of_all n i j l (groups_rise k n s);
      inside = shared_inside n i j l h hi;
      only = shared_only n i j l h hi;
      no_line = shared_none n i j l;
      all_entries_lem = shared_all n i j l h;
    }

-- the two entries the other way round
wrong_swapped : (n i j : ℕ) → wrong_entries n j i ≡ wrong_entries n i j
unfolding wrong_entries
wrong_swapped n i j = go (wrong_anchor n j) (wrong_anchor n i)
  where
    go : (a b : Bool) → (a || b) ≡ (b || a)
    go true true = refl
    go true false = refl
    go false true = refl
    go false false = refl

refusal_swapped : (kind : ℤ) (n : ℕ) (l : List ℤ) (i j : ℕ) → shared_refusal kind n l j i ≡ shared_refusal kind n l i j
unfolding shared_refusal shared_checks
refusal_swapped kind n l i j = rw (wrong_swapped n i j)

found_swapped : (kind : ℤ) (n : ℕ) (l : List ℤ) (i j : ℕ) → shared_found kind n l j i ≡ shared_found kind n l i j
unfolding shared_found
found_swapped kind n l i j = shared_swapped n j i (sets_found kind n l)

-- its table
one_groups_says : (kind : ℤ) → Says (wrong_group_kind kind) (NoGroupKind kind)
unfolding wrong_group_kind
one_groups_says kind = like (or_says (one_says kind) (eq_z_says kind (pos 3))) fore (λ (a, b). rear a b (decided (eq_z_says kind (pos 3))))
  where
    fore : NoKind kind ⊎ (kind ≡ pos 3) → NoGroupKind kind
    fore (inl (a, b, _)) = (a, b)
    fore (inr e) = third_kind e

    rear : kind ≢ pos 1 → kind ≢ pos 2 → (kind ≡ pos 3) ⊎ (kind ≢ pos 3) → NoKind kind ⊎ (kind ≡ pos 3)
    rear a b (inl e) = inr e
    rear a b (inr c) = inl (a, b, c)

shared_agrees : (kind : ℤ) (n : ℕ) (l : List ℤ) (i j : ℕ) → Agree (shared_checks kind n l i j) (shared_table kind n l i j)
unfolding shared_checks
shared_agrees kind n l i j =
    agree_append (agree_append (next (one_groups_says kind) λ _. pair_agrees n l) λ _. kind_agrees kind n l) λ _. next (entries_say n i j) λ _. done

shared_judged : {kind : ℤ} {n : ℕ} {l : List ℤ} {i j : ℕ} {r : Shared} → SharedCall kind n l i j r
    → Judged (shared_table kind n l i j) (number_of r) ((shared_set r ≡ 0) × (shared_line r ≡ 0))
unfolding shared_refusal
shared_judged {kind} {n} {l} {i} {j} {r} c = judged (shared_agrees kind n l i j) c.answered.number (shared_nothing r)

pub request_2_1 : (kind : ℤ) → Request2_1 kind
request_2_1 kind = record {
  judged = shared_judged;
  in_C = λ c. (c.given, c.outcome, line_in_C c.given c.answered, c.written);
  fits = λ {n} {l} f k third {i} {j} c hi hj.
      let before : Table = ((1, NoGroupKind kind) ∷ pair_table n l) ++ kind_table kind n l in
      let (one, rest) = kind_none k in
      let none = none_both ((1, NoGroupKind kind) ∷ pair_table n l) (kind_table kind n l) (λ (a, b). one (a, b, third), pair_none f) rest in
      (shared_judged c).taken.1 (none_both before ((15, NoEntries n i j) ∷ []) none (neither_entry hi hj, tt));
  smallest = λ {n} {l} {i} {j} c z w.
      let a = found c z in
      subst₂ (λ (sets : List ℕ) (hit : Hit). SmallestFound n i j sets hit.set hit.line) (sym (ap sets_of (wrote w) ∙ groups_sets (kind_of kind) n (score l))) (sym a.hit)
      (smallest_found (kind_of kind) n (score l) (score_symm l) i j a.first a.second);
  swapped = λ {n} {l} {i} {j} c c'.
      is_answer c'.answered ∙ ap₂ the_answer (refusal_swapped kind n l i j) (found_swapped kind n l i j)
      ∙ sym (is_answer c.answered);
  twice = λ {n} {l} {i} c z w m.
      let a = found c z in
      ap (λ (hit : Hit). hit.set) a.hit
      ∙ shared_single n i (group_sets (kind_of kind) n (score l)) (groups_hierarchy (kind_of kind) n (score l) (score_symm l)) a.first
      (subst (λ (sets : List ℕ). 2 ^ i ∈ sets) (ap sets_of (wrote w) ∙ groups_sets (kind_of kind) n (score l)) m);
  reordered = λ {n} {l} {l'} {i} {j} p c z c' z' r.
      let a = found c z in
      let a' = found c' z' in
      let k = kind_of kind in
      let s = score_symm l in
      let s' = score_symm l' in
      let set_is = ap (λ (hit : Hit). hit.set) a.hit in
      let line_is = ap (λ (hit : Hit). hit.line) a.hit in
      let line-is' = ap (λ (hit : Hit). hit.line) a'.hit in
      let (to, from) = shared_image_none k a.groups_kind n p (score l) (score l') r s s' i j a.first a.second in (
        ap (λ (hit : Hit). hit.set) a'.hit
            ∙ shared_image k a.groups_kind n p (score l) (score l') r s s' i j a.first a.second
            ∙ sym (ap (image n p) set_is),
        (λ e. line-is' ∙ to (sym line_is ∙ e), λ e. line_is ∙ from (sym line-is' ∙ e)),
      );
}
