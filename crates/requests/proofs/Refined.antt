-- 2.5, the refined weight of a split, from the outcomes of the call and the theorems about quartets.
use mathlib.Core.Path.{◌≡◌, refl, sym, ap, ap₂, ◌∙◌, subst}
use mathlib.Core.Bool.{Bool, true, false, not}
use mathlib.Core.Logic.{◌⊎◌, inl, inr}
use mathlib.Core.List.{List, ◌∷◌, []}
use Prim.Native.Nat.{ℕ, ◌-◌, ◌^◌, ◌<◌}
use native.Mathlib.Omega.{arith}
use borrow.Author.Tests.{eq-eqb}
use lib.Dec.{lit<}
use lib.IntN.{ℤ, pos, ◌+ℤ◌, ◌-ℤ◌, ◌*ℤ◌}
use lib.Signed.{◌≤ℤ◌}
use lib.ListN.{length}
use Rattle.lists.specs.Lists.{all}
use Rattle.lists.proofs.Tests.{T_false, cond_elim, false_T, T_true}
use Rattle.integers.specs.Integers.{eq_z, min_z, sum_of}
use Rattle.integers.proofs.Linear.{zarith, +at, -at}
use Rattle.integers.proofs.Least.{min_left, min_right, min_is}
use Rattle.sets.specs.Sets.{has, ◌∋◌, ◌∌◌, complement}
use Rattle.sets.proofs.Sets.{clash, in_complement, of_complement, size_complement, complement_lt}
use Rattle.clusters.specs.PairList.{score, row_start, has_length, scores_in_range, has_unscored}
use Rattle.clusters.specs.Fillings.{AllScored}
use Rattle.clusters.specs.Groups.{HasLine, splits, kind_of, index, groups, written_set}
use Rattle.clusters.specs.declared.Group.{Group}
use Rattle.clusters.specs.Refined.{Quartet, doubled_score, refined_weight, Compatible, Across, quartets}
use Rattle.clusters.proofs.PairList.{score_symm}
use Rattle.clusters.proofs.Groups.{line_of}
use Rattle.clusters.proofs.Scored.{list_scored}
use Rattle.clusters.proofs.Crossing.{refined_never_cross}
use Rattle.clusters.proofs.Refined.{refined_ge, split_refined, refined_either_side, refined_image, refined_least, refined_attained}
use Rattle.answers.specs.Answers.{number_of}
use Rattle.answers.specs.Refined.{Refined, answered_weight}
use Rattle.answers.proofs.Answers.{refined_nothing, the_answer, is_answer}
use Rattle.interface.specs.Refusals.{wrong_unscored, wrong_distances, wrong_side, refined_checks, refined_refusal}
use Rattle.interface.specs.Calls.{RefinedCall}
use Rattle.interface.proofs.Refusals.{gives, first_no, no_more, under, passes, right_length}
use Rattle.interface.proofs.Accepted.{Passed}
use Rattle.interface.proofs.Sides.{Sides, sides, right_side}
use Rattle.demands.specs.Tables.{Table, Judged, distance_table}
use Rattle.demands.proofs.Agree.{Says, denied, Agree, done, next, agree_append, judged, none_both, given_behind}
use Rattle.demands.proofs.AgreeTables.{distance_agrees}
use Rattle.demands.proofs.Spoken.{two_members}
use Rattle.demands.proofs.Taken.{distance_none}
use Rattle.demands.proofs.Least.{falling, either_order}
use Rattle.demands.proofs.Demands.{wrote, wrote_passed}
use Rattle.requests.specs.Refined.{OnSides, TwoSides, refined_table, Unordered, Weighs, by_refined_call, Request2_5}
use Rattle.lists.proofs.Lists.{length_some}
use Rattle.clusters.proofs.Quartets.{quartets_many, in_quartets}
use Rattle.sets.proofs.Subsets.{fits_members, members_fit}

-- as the request says it: by entries
of_sides : (n A : ℕ) (q : Quartet) → Across n A q → OnSides n A q.a q.a' q.b q.b'
of_sides n A q x =
    let (ha, la, ka, ka') = x.one_side in
    let (hb, lb, kb, kb') = x.other_side in
    record { one_side = (ha, omega arith, ka, ka', λ e. omega arith); other_side = (hb, omega arith, kb, kb', λ e. omega arith) }

two_sides : {n A : ℕ} → Sides n A → TwoSides n A
two_sides {n} {A} s =
    let (q, m) = length_some (quartets n A) (omega (arith, quartets_many n A s.two s.rest, s.two, s.rest)) in
    record {
      members = fits_members n A s.fits;
      a = q.a;
      a' = q.a';
      b = q.b;
      b' = q.b';
      entries = of_sides n A q ((in_quartets n A q).0 m);
    }

of_two_sides : {n A : ℕ} → TwoSides n A → Sides n A
of_two_sides {n} {A} t =
    let (ha, ha', ka, ka', d) = t.entries.one_side in
    let (hb, hb', kb, kb', e) = t.entries.other_side in
    let others = two_members n (complement n A) hb hb' (in_complement n A hb kb) (in_complement n A hb' kb') e in
    record { fits = members_fit n A t.members; two = two_members n A ha ha' ka ka' d; rest = omega (arith, others, size_complement n A) }

-- so different entries of either side are one quartet
unordered : (n A a a' b b' : ℕ) → OnSides n A a a' b b' → (q : Quartet) × Unordered n A q a a' b b' × ((r : Quartet) → Unordered n A r a a' b b' → r ≡ q)
unordered n A a a' b b' s =
    let (ha, ha', ka, ka', d) = s.one_side in
    let (hb, hb', kb, kb', e) = s.other_side in
    let f = falling a a' d in
    let g = falling b b' e in
    let q : Quartet = record { a = f.high; a' = f.low; b = g.high; b' = g.low } in
    let (hf, _) = either_order (λ i. i < n) f.high f.low a a' f.same ha ha' in
    let (kf, kf') = either_order (λ i. A ∋ i) f.high f.low a a' f.same ka ka' in
    let (hg, _) = either_order (λ i. i < n) g.high g.low b b' g.same hb hb' in
    let (kg, kg') = either_order (λ i. A ∌ i) g.high g.low b b' g.same kb kb' in (
      q,
      record {
        across = record { one_side = (hf, f.falls, kf, kf'); other_side = (hg, g.falls, kg, kg') };
        one_pair = f.same;
        other_pair = g.same;
      },
      λ r u. equal r q
          (f.only r.a r.a' u.across.one_side.1 u.one_pair)
          (g.only r.b r.b' u.across.other_side.1 u.other_pair),
    )
  where
    equal : (r q : Quartet) → (r.a ≡ q.a) × (r.a' ≡ q.a') → (r.b ≡ q.b) × (r.b' ≡ q.b') → r ≡ q
    equal r q (e, f) (g, h) = λ i. record { a = e i; a' = f i; b = g i; b' = h i }

-- its table
nineteen_says : (n A : ℕ) → Says (wrong_side n A) (TwoSides n A → ⊥)
nineteen_says n A = denied (record { to = λ t. two_sides (sides (T_false {b = wrong_side n A} t)); from = λ x. false_T (right_side (of_two_sides x)) })

refined_agrees : (n : ℕ) (l : List ℤ) (A : ℕ) → Agree (refined_checks n l A) (refined_table n l A)
unfolding refined_checks
refined_agrees n l A = agree_append (distance_agrees n l) λ _. next (nineteen_says n A) λ _. done

refined_judged : {n : ℕ} {l : List ℤ} {A : ℕ} {r : Refined} → RefinedCall n l A r → Judged (refined_table n l A) (number_of r) (answered_weight r ≡ pos 0)
unfolding refined_refusal
refined_judged {n} {l} {A} {r} c = judged (refined_agrees n l A) c.answered.number (refined_nothing r)

-- a list that a call took for kind 3: only 19 is left
third_left : {n : ℕ} {l : List ℤ} → Passed (pos 3) n l → {A : ℕ} → Sides n A → refined_refusal n l A ≡ 0
unfolding refined_refusal refined_checks has_length wrong_unscored eq_z
third_left {n} {l} p s =
    sym (gives (first_no p.count (first_no (ap not (eq-eqb (length l) (row_start n) p.long)) (first_no (ap not (T_true {b = scores_in_range l} p.range))
    (first_no (T_false {b = has_unscored l} p.sixteen) (first_no (T_false {b = wrong_distances (pos 3) n l} p.twelve) (first_no (right_side s) no_more)))))))

-- an answer that is no refusal
pub record Found (n : ℕ) (l : List ℤ) (A : ℕ) (w : ℤ) : Type 0 where
  of_sides : Sides n A
  pub scored : AllScored n (score l)
  pub weight : w ≡ refined_weight n (score l) A

pub found : {n : ℕ} {l : List ℤ} {A : ℕ} {w : ℤ} → Weighs n l A w → Found n l A w
unfolding refined_refusal refined_checks under all answered_weight
found (by_refined_call {r} c none) =
    found_of c none
  where
    found_of : {n : ℕ} {l : List ℤ} {A : ℕ} → RefinedCall n l A r → number_of r ≡ 0 → Found n l A (answered_weight r)
    found_of {n} {l} {A} c none =
        let checks = refined_checks n l A in
        let zero : refined_refusal n l A ≡ 0 = sym c.answered.number ∙ none in
        record {
          of_sides = sides (T_false {b = wrong_side n A} (passes 19 checks tt zero));
          scored = list_scored n l (right_length n l (T_false {b = not (has_length n l)} (passes 10 checks tt zero))) (passes 16 checks tt zero);
          weight = ap answered_weight (c.answered.is_found zero);
        }

-- the other side
other_side : {n A : ℕ} → Sides n A → Sides n (complement n A)
other_side {n} {A} s = record {
  fits = complement_lt n A;
  two = omega (arith, s.rest, size_complement n A);
  rest = omega (arith, s.two, size_complement n A);
}

back : {n A : ℕ} → A < 2 ^ n → Sides n (complement n A) → Sides n A
back {n} {A} h s = record {
  fits = h;
  two = omega (arith, s.rest, size_complement n A);
  rest = omega (arith, s.two, size_complement n A);
}

wrong_other : (n A : ℕ) → A < 2 ^ n → wrong_side n (complement n A) ≡ wrong_side n A
wrong_other n A h = go (wrong_side n (complement n A)) (wrong_side n A) refl refl
  where
    go : (b c : Bool) → wrong_side n (complement n A) ≡ b → wrong_side n A ≡ c → b ≡ c
    go true true e f = refl
    go false false e f = refl
    go true false e f = sym e ∙ right_side (other_side (sides f))
    go false true e f = sym (right_side (back h (sides e))) ∙ f

refusal_other : (n : ℕ) (l : List ℤ) (A : ℕ) → A < 2 ^ n → refined_refusal n l (complement n A) ≡ refined_refusal n l A
unfolding refined_refusal refined_checks
refusal_other n l A h = rw (wrong_other n A h)

-- a line of kind 3: the weight of the side that is written
module _ (n : ℕ) (l : List ℤ) (A : ℕ) where
  written_weight : refined_weight n (score l) (written_set splits n A) ≡ refined_weight n (score l) A
  unfolding written_set
  written_weight = cond_elim (has A 0) (complement n A) A (λ (B : ℕ). refined_weight n (score l) B ≡ refined_weight n (score l) A)
      (λ _. refined_either_side n (score l) (score_symm l) A) (λ _. refl)

  written_sides : Sides n A → Sides n (written_set splits n A)
  unfolding written_set
  written_sides s = cond_elim (has A 0) (complement n A) A (Sides n) (λ _. other_side s) (λ _. s)

  line_weight : Sides n A → (z : ℤ) → HasLine (groups splits n (score l)) (written_set splits n A) z
      → ((pos (n - 3) *ℤ z) ≤ℤ refined_weight n (score l) A) × (pos 1 ≤ℤ refined_weight n (score l) A)
  unfolding index
  line_weight s z m =
      let B = written_set splits n A in
      let (h, t, e) = (line_of splits n (score l) B z).0 m in
      let b = written_sides s in
      subst (λ w. ((pos (n - 3) *ℤ z) ≤ℤ w) × (pos 1 ≤ℤ w)) written_weight (
        subst (λ z. (pos (n - 3) *ℤ z) ≤ℤ refined_weight n (score l) B) (sym e) (refined_ge n (score l) B b.two b.rest (score_symm l)),
        split_refined n (score l) B b.two b.rest (score_symm l) t,
      )

-- a difference, together with what was taken away
taken_back : (m w : ℤ) → m -ℤ w +ℤ w ≡ m
taken_back m w = omega (zarith, -at m w, +at (m -ℤ w) w)

smaller_of : (u v w : ℤ) → let s = min_z u v -ℤ w +ℤ w in (s ≤ℤ u) × (s ≤ℤ v) × ((s ≡ u) ⊎ (s ≡ v))
smaller_of u v w = subst (λ s. (s ≤ℤ u) × (s ≤ℤ v) × ((s ≡ u) ⊎ (s ≡ v))) (sym (taken_back (min_z u v) w)) (min_left u v, min_right u v, min_is u v)

compatible : {n : ℕ} {l : List ℤ} {A C : ℕ} {w w' : ℤ} → Weighs n l A w → Weighs n l C w'
    → pos 1 ≤ℤ w → pos 1 ≤ℤ w' → Compatible n A C
compatible {n} {l} {A} {C} c c' h h' =
    refined_never_cross n (score l) (score_symm l) A C (subst (λ w. pos 1 ≤ℤ w) (found c).weight h) (subst (λ w. pos 1 ≤ℤ w) (found c').weight h')

-- splits that do not cross
apart : (n A C : ℕ) → Compatible n A C → (i j k m : ℕ) → i < n → j < n → k < n → m < n
    → (A ∋ i) × (C ∋ i) → (A ∋ j) × (C ∌ j) → (A ∌ k) × (C ∋ k) → (A ∌ m) × (C ∌ m) → ⊥
apart n A C (inl (inl s)) i j k m hi hj hk hm _ (p, q) _ _ = clash (s.all j hj p) q
apart n A C (inl (inr s)) i j k m hi hj hk hm (p, q) _ _ _ = clash q (of_complement n C hi (s.all i hi p))
apart n A C (inr (inl s)) i j k m hi hj hk hm _ _ _ (p, q) = clash (s.all m hm (in_complement n A hm p)) q
apart n A C (inr (inr s)) i j k m hi hj hk hm _ _ (p, q) _ = clash q (of_complement n C hk (s.all k hk (in_complement n A hk p)))

pub request_2_5 : Request2_5
unfolding kind_of eq_z doubled_score
request_2_5 = record {
  judged = refined_judged;
  in_C = λ c. (c.given, c.outcome, c.answered, c.written);
  fits = λ {n} {l} f d {A} c.
      let j = refined_judged c in
      let none = distance_none f d in
      let last : Table = (19, TwoSides n A → ⊥) ∷ [] in (
        λ t. j.taken.1 (none_both (distance_table n l) last none (λ g. g t, tt)),
        λ g. (j.refused 19 (lit< tt)).1 (given_behind (distance_table n l) last 19 none (inl (refl, g))),
      );
  unordered = unordered;
  of_sides = of_sides;
  doubled = λ d q. smaller_of (d q.a q.b +ℤ d q.a' q.b') (d q.a q.b' +ℤ d q.a' q.b) (d q.a q.a' +ℤ d q.b q.b');
  smallest = λ {n} {l} {A} c qs chosen. let f = found c in
      subst (λ w. w ≤ℤ sum_of qs (doubled_score (score l))) (sym f.weight) (refined_least n (score l) A qs chosen);
  attained = λ {n} {l} {A} c. let f = found c in
      let (qs, chosen, e) = refined_attained n (score l) A f.of_sides.two f.of_sides.rest in
      (qs, chosen, f.weight ∙ e);
  either_side = λ {n} {l} {A} h c c'.
      is_answer c'.answered ∙ ap₂ the_answer (refusal_other n l A h) (refined_either_side n (score l) (score_symm l) A) ∙ sym (is_answer c.answered);
  reordered = λ {n} {l} {l'} {A} p c c' r.
      (found c').weight ∙ refined_image n p (score l) (score l') r (score_symm l) (score_symm l') A ∙ sym (found c).weight;
  never_cross = λ c c' h h'. compatible c c' h h';
  not_all_four = λ {n} {l} {A} {C} c c' h h'. apart n A C (compatible c c' h h');
  taken = λ {n} {l} {A} c w fits two rest. c.answered.number ∙ third_left (wrote_passed w) (record { fits = fits; two = two; rest = rest });
  of_line = λ {n} {l} {A} c w two rest z m.
      let f = found c in
      subst (λ v. ((pos (n - 3) *ℤ z) ≤ℤ v) × (pos 1 ≤ℤ v)) (sym f.weight)
      (line_weight n l A f.of_sides z (subst (λ (g : List Group). HasLine g (written_set splits n A) z) (wrote w) m));
}
