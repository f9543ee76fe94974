-- The values of a sheet that passes 8: 9, 16 and 12 beside their sentences; and what a cell carries, by its bytes.
use mathlib.Core.Path.{◌≡◌, refl, sym, ap, ◌∙◌, subst}
use mathlib.Core.Bool.{not, true≢false}
use mathlib.Core.Logic.{◌⊎◌, inl, inr, ◌≢◌, ◌↔◌}
use mathlib.Core.List.Memᴰ
use mathlib.Core.List.{List, [], ◌∷◌}
use Prim.Native.Nat.{ℕ, ◌<◌}
use native.Mathlib.Omega.{arith}
use lib.Dec.{T, T_not, not_T}
use lib.IntN.{ℤ, pos}
use lib.Signed.{◌≤ℤ◌}
use Rattle.lists.specs.Lists.{◌∈◌, below, all}
use Rattle.lists.proofs.Lists.{below_lt}
use Rattle.integers.specs.Integers.{eq_z}
use Rattle.pairs.specs.declared.Carried.{Carried}
use Rattle.pairs.specs.declared.Carried.TheVariants.{Scored, Unscored}
use Rattle.pairs.specs.Pairs.{mark, number_for, list_number, carried, is_scored}
use Rattle.pairs.proofs.Pairs.{marked, number_carried}
use Rattle.clusters.specs.PairList.{row_start, has_unscored, are_distances}
use Rattle.clusters.proofs.PairList.{of_pair_list, pair_list_at}
use Rattle.clusters.proofs.Scored.{unscored_there}
use Rattle.interface.specs.Sheet.{is_lone_minus, pair_said, entries, value, mirrored, pairs}
use Rattle.interface.specs.Refusals.{wrong_values, wrong_unscored, wrong_distances}
use Rattle.demands.specs.Sentences.{InPoints, CellSays, points, lone_minus, word_at, MirroredDiffer, Unmeasured, NoDistance, lower, NoDistances}
use Rattle.interface.proofs.Accepted.{mirrored_same, unscored_left}
use Rattle.demands.proofs.Cells.{said_points, one_cell, cell, listed_value}
use Rattle.demands.proofs.Agree.{Says, says, and_says, not_says, like, eq_z_says, all_says, some_says}
use Rattle.demands.proofs.AgreeNumbers.{third_kind, no_distances_say}

-- a score is not the mark
no_score : {z : ℤ} → Unscored ≡ Scored z → ⊥
unfolding is_scored
no_score e = true≢false (sym (ap is_scored e))

lone_value : list_number (pair_said (45 ∷ [])) ≡ mark
unfolding pair_said is_lone_minus list_number number_for
lone_value = refl

lone : {w : List ℕ} {c : Carried} → CellSays w c → c ≡ Unscored → w ≡ 45 ∷ []
lone (points _ _) e = absurd (no_score (sym e))
lone lone_minus e = refl

scored_points : {w : List ℕ} {c : Carried} {z : ℤ} → CellSays w c → c ≡ Scored z → InPoints w z
unfolding number_for
scored_points {w} (points p _) e = subst (InPoints w) (ap number_for e) p
scored_points lone_minus e = absurd (no_score e)

-- a sheet of which 8 passes
module _ (s : List ℕ) (formed : T (not (wrong_values s))) where
  abbrev n : ℕ
  n = entries s

  pub carried_says : (i j : ℕ) → i < entries s → j < entries s → {z : ℤ} → (carried (value s i j) ≡ Scored z) ↔ InPoints (word_at s i j) z
  carried_says i j h k = (scored_points (cell s formed i j h k), said_points (cell s formed i j h k))

  says_number : {i j : ℕ} → i < entries s → j < entries s → {z : ℤ} → InPoints (word_at s i j) z → value s i j ≡ z
  unfolding number_for
  says_number {i} {j} h k p = sym (number_carried (value s i j)) ∙ ap number_for ((carried_says i j h k).1 p)

  -- 9
  pub nine_says : Says (not (mirrored (entries s) (value s))) (MirroredDiffer s)
  unfolding mirrored
  nine_says = record {
    to = λ t.
        let (i, m, f) = (some_says row (below n)).to t in
        let (j, k, g) = (some_says (at i) (below n)).to ((not_says (row i)).from f) in
        let hi = below_lt n m in
        let hj = below_lt n k in
        record {
          i = i;
          j = j;
          here = (hi, hj);
          one = carried (value s i j);
          other = carried (value s j i);
          says = cell s formed i j hi hj;
          mirrored_says = cell s formed j i hj hi;
          differ = λ e. g (sym (number_carried (value s i j)) ∙ ap number_for e ∙ number_carried (value s j i));
        };
    from = λ m. not_T (mirrored n (value s)) (λ t.
        let (h, k) = m.here in
        m.differ (one_cell m.says (cell s formed m.i m.j h k) ∙ ap carried (mirrored_same n (value s) t m.i m.j h k)
        ∙ one_cell (cell s formed m.j m.i k h) m.mirrored_says));
  }
    where
      at : (i j : ℕ) → Says (eq_z (value s i j) (value s j i)) (value s i j ≡ value s j i)
      at i j = eq_z_says (value s i j) (value s j i)

      row : (i : ℕ) → Says (all (λ j. eq_z (value s i j) (value s j i)) (below n)) ((j : ℕ) → j ∈ below n → value s i j ≡ value s j i)
      row i = all_says (at i) (below n)

  -- and 9
  module _ (same : T (mirrored (entries s) (value s))) where
    of_pairs : {z : ℤ} → z ∈ pairs s → (i j : ℕ) × (i < entries s) × (j < entries s) × (z ≡ value s i j)
    unfolding pairs
    of_pairs m = let (i, j, h, k, e) = of_pair_list n (value s) m in (i, j, h, omega arith, e)

    -- 16
    mark_says : Says (has_unscored (pairs s)) (Unmeasured s)
    unfolding value
    mark_says = like (says (unscored_there (pairs s)))
        (λ m.
        let (i, j, h, k, e) = of_pairs m in
        record { i = i; j = j; here = (h, k); lone_minus = lone (cell s formed i j h k) (marked (sym e)) })
        (λ u.
        let (h, k) = u.here in
        Memᴰ.cast (sym (ap (λ (w : List ℕ). list_number (pair_said w)) u.lone_minus ∙ lone_value)) (listed_value s same u.i u.j h k))

    pub sixteen_says : (kind : ℤ) → Says (wrong_unscored kind (pairs s)) ((kind ≢ pos 1) × Unmeasured s)
    unfolding wrong_unscored
    sixteen_says kind = and_says (not_says (eq_z_says kind (pos 1))) mark_says

    -- 12, behind 16
    own_value : (i : ℕ) → i < entries s → lower (pairs s) i i ≡ value s i i
    unfolding pairs row_start
    own_value i h = pair_list_at n (value s) i i h (omega arith)

    module _ (scored : T (not (has_unscored (pairs s)))) where
      number_at_lem : (i j : ℕ) → i < entries s → j < entries s → InPoints (word_at s i j) (value s i j)
      number_at_lem i j h k = go refl (cell s formed i j h k)
        where
          go : {w : List ℕ} {c : Carried} → w ≡ word_at s i j → CellSays w c → InPoints (word_at s i j) (value s i j)
          go e (points {z = z} p _) =
              let q = subst (λ (v : List ℕ). InPoints v z) e p in
              subst (InPoints (word_at s i j)) (sym (says_number h k q)) q
          go e lone_minus = absurd (T_not (has_unscored (pairs s)) scored (mark_says.from (record { i = i; j = j; here = (h, k); lone_minus = sym e })))

      distances_say : Says (not (are_distances (entries s) (pairs s))) (NoDistance s)
      distances_say = like (no_distances_say n (pairs s)) fore (λ d. rear d d.wrong)
        where
          fore : NoDistances n (pairs s) → NoDistance s
          fore (inl (z, m, f)) =
              let (i, j, h, k, e) = of_pairs m in
              record { i = i; j = j; here = (h, k); z = value s i j; says = number_at_lem i j h k; wrong = inl (λ x. f (subst (λ y. pos 0 ≤ℤ y) (sym e) x)) }
          fore (inr (i, h, f)) =
              record { i = i; j = i; here = (h, h); z = value s i i; says = number_at_lem i i h h; wrong = inr (refl, λ e. f (own_value i h ∙ e)) }

          rear : (d : NoDistance s) → (pos 0 ≤ℤ d.z → ⊥) ⊎ ((d.i ≡ d.j) × (d.z ≢ pos 0)) → NoDistances n (pairs s)
          rear d (inl f) = let (h, k) = d.here in inl (d.z, Memᴰ.cast (sym (says_number h k d.says)) (listed_value s same d.i d.j h k), f)
          rear d (inr (e, f)) =
              let (h, k) = d.here in
              inr (d.i, h, λ q. f (sym (says_number h k d.says) ∙ sym (ap (value s d.i) e) ∙ sym (own_value d.i h) ∙ q))

    pub twelve_says : (kind : ℤ) → T (not (wrong_unscored kind (pairs s))) → Says (wrong_distances kind (entries s) (pairs s)) ((kind ≡ pos 3) × NoDistance s)
    unfolding wrong_distances
    twelve_says kind t = record {
      to = λ u. let (e, f) = test.to u in (e, (distances_say (unscored_left kind (pairs s) (third_kind e).0 t)).to f);
      from = λ (e, d). test.from (e, (distances_say (unscored_left kind (pairs s) (third_kind e).0 t)).from d);
    }
      where
        test : Says (wrong_distances kind (entries s) (pairs s)) ((kind ≡ pos 3) × T (not (are_distances n (pairs s))))
        test = and_says (eq_z_says kind (pos 3)) (record { to = λ t. t; from = λ t. t })
