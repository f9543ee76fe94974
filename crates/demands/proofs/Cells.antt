-- The cells of a sheet that passes 2 to 9: each has half points or the mark, as its bytes say; and what 11 then means.
use mathlib.Core.Path.{◌≡◌, refl, sym, ap, ◌∙◌, subst}
use mathlib.Core.Bool.{not, true≢false}
use mathlib.Core.Logic.{◌⊎◌, inl, inr, ◌≢◌, ◌↔◌}
use mathlib.Core.List.Memᴰ
use mathlib.Core.List.{List, [], ◌∷◌}
use Prim.Native.Nat.{ℕ, ◌<◌, ◌≤◌}
use native.Mathlib.Omega.{arith}
use native.Mathlib.Decide.{dec_le}
use lib.Dec.{T, T_not, not_T, eqb, eqb→eq}
use lib.IntN.{ℤ}
use lib.ListN.{length}
use Rattle.lists.specs.Lists.{◌∈◌, below, all}
use Rattle.lists.proofs.Lists.{lt_below, all_in, get_d_in, some_fails}
use Rattle.lists.proofs.Tests.{and_T, or_T, T_or_not, T_or_right}
use Rattle.integers.specs.Integers.{eq_z}
use Rattle.integers.specs.Range.{Within}
use Rattle.integers.proofs.Linear.{up, dn, zarith}
use Rattle.integers.proofs.Range.{dn_le}
use Rattle.pairs.specs.declared.Carried.{Carried}
use Rattle.pairs.specs.declared.Carried.TheVariants.{Scored}
use Rattle.pairs.specs.Pairs.{mark, number_for, list_number, carried}
use Rattle.pairs.proofs.Pairs.{unmarked}
use Rattle.clusters.specs.PairList.{score, score_limit, one_point, point_limit, is_allowed_pair, scores_in_range}
use Rattle.clusters.proofs.PairList.{in_pair_list, of_pair_list, score_mirrored}
use Rattle.clusters.proofs.Scored.{allowed_within, within_range}
use Rattle.interface.specs.Sheet.{is_lone_minus, is_value, is_cell, value_of, pair_said, entries, words, value, mirrored, pairs}
use Rattle.interface.specs.Refusals.{none, wrong_values, is_row, reader_checks}
use Rattle.demands.specs.Sentences.{InPoints, CellSays, points, lone_minus, word_at, PointsOut}
use Rattle.interface.proofs.Refusals.{first_none, under, passes}
use Rattle.interface.proofs.Accepted.{not_not, mirrored_same}
use Rattle.interface.proofs.Values.{signed_lone, value_back, lone_word, said_value}
use Rattle.demands.proofs.InPoints.{says_written, says_value, written_says, well_formed}

-- a value is not the mark's number: 7 digits are too few
pub value_scored : {z : ℤ} → Within 19999999 z → z ≢ mark
unfolding mark up dn
value_scored h e = omega (zarith, dn_le h, ap dn e)

scored : {z : ℤ} → Within 19999999 z → carried z ≡ Scored z
scored h = unmarked (value_scored h)

lone_formed : T (is_cell (45 ∷ []))
unfolding is_cell is_lone_minus
lone_formed = tt

alone : CellSays (45 ∷ []) (carried (list_number (pair_said (45 ∷ []))))
unfolding is_lone_minus pair_said list_number number_for carried eq_z mark
alone = lone_minus

pub cell_says : (w : List ℕ) → T (is_cell w) → CellSays w (carried (list_number (pair_said w)))
unfolding is_cell
cell_says w t = go (T_or_not (is_lone_minus w)) (or_T (is_lone_minus w) (is_value w) t)
  where
    go : T (is_lone_minus w) ⊎ T (not (is_lone_minus w)) → T (is_lone_minus w) ⊎ T (is_value w) → CellSays w (carried (list_number (pair_said w)))
    go (inl l) _ = subst (λ (v : List ℕ). CellSays v (carried (list_number (pair_said v)))) (sym (lone_word w l)) alone
    go (inr f) (inl l) = absurd (T_not (is_lone_minus w) f l)
    go (inr f) (inr v) =
        let (back, h) = value_back w v in
        subst (CellSays w) (sym (ap carried (said_value w f) ∙ scored h))
        (points (subst (λ (u : List ℕ). InPoints u (value_of w)) back (written_says (value_of w))) h)

-- a cell that says half points carries them
no_lone : {z : ℤ} → InPoints (45 ∷ []) z → ⊥
unfolding is_lone_minus
no_lone {z} p = true≢false (ap is_lone_minus (says_written p) ∙ signed_lone z)

pub said_points : {w : List ℕ} {c : Carried} {z : ℤ} → CellSays w c → InPoints w z → c ≡ Scored z
said_points (points q _) p = ap Scored (sym (says_value q) ∙ says_value p)
said_points lone_minus p = absurd (no_lone p)

-- a cell says one thing
pub one_cell : {w : List ℕ} {c d : Carried} → CellSays w c → CellSays w d → c ≡ d
one_cell p (points q _) = said_points p q
one_cell (points p _) lone_minus = absurd (no_lone p)
one_cell lone_minus lone_minus = refl

-- a word that says something is well formed
pub says_cell : {w : List ℕ} {c : Carried} → CellSays w c → T (is_cell w)
unfolding is_cell
says_cell (points {w} {z} p h) = T_or_right (is_lone_minus w) (is_value w) ((well_formed w).1 (z, p, h))
says_cell lone_minus = lone_formed

-- of a sheet
module _ (s : List ℕ) where
  pub cell_at : T (not (wrong_values s)) → (i j : ℕ) → i < entries s → j < entries s → T (is_cell (word_at s i j))
  unfolding wrong_values is_row
  cell_at t i j h k =
      let n = entries s in
      let rows = not_not (all (λ i. is_row n (words s i)) (below n)) t in
      let row = all_in (λ i. is_row n (words s i)) (below n) rows (lt_below n i h) in
      let (e, are) = and_T (eqb (length (words s i)) n) (all is_cell (words s i)) row in
      all_in is_cell (words s i) are (get_d_in (words s i) j [] (omega (arith, eqb→eq (length (words s i)) n e)))

  pub cell : T (not (wrong_values s)) → (i j : ℕ) → i < entries s → j < entries s → CellSays (word_at s i j) (carried (value s i j))
  unfolding value
  cell t i j h k = cell_says (word_at s i j) (cell_at t i j h k)

  -- the value of any cell stands in the pair list
  pub listed_value : T (mirrored (entries s) (value s)) → (i j : ℕ) → i < entries s → j < entries s → value s i j ∈ pairs s
  unfolding pairs
  listed_value same i j h k = go (dec_le j i)
    where
      go : Dec (j ≤ i) → value s i j ∈ pairs s
      go (yes l) = in_pair_list (entries s) (value s) h l
      go (no l) = Memᴰ.cast (mirrored_same (entries s) (value s) same i j h k) (in_pair_list (entries s) (value s) k (omega arith))

  module _ (t : T (none (reader_checks s))) where
    pub formed : T (not (wrong_values s))
    unfolding reader_checks under all
    formed = passes 8 (reader_checks s) tt ((first_none (reader_checks s) tt).1 t)

    pub same : T (mirrored (entries s) (value s))
    unfolding reader_checks under all
    same = not_not (mirrored (entries s) (value s)) (passes 9 (reader_checks s) tt ((first_none (reader_checks s) tt).1 t))

    pub cells : (i j : ℕ) → i < entries s → j < entries s → CellSays (word_at s i j) (carried (value s i j))
    cells = cell formed

    -- and has this score in it
    pub listed_score : (i j : ℕ) → i < entries s → j < entries s → score (pairs s) i j ≡ value s i j
    unfolding pairs
    listed_score = score_mirrored (entries s) (value s) (mirrored_same (entries s) (value s) same)

    -- a value is out of the range exactly if it is so in points
    fore : T (not (scores_in_range (pairs s))) → PointsOut s
    unfolding scores_in_range pairs is_allowed_pair score_limit one_point point_limit
    fore f =
        let (v, m, o) = some_fails (λ v. is_allowed_pair score_limit (carried v)) (pairs s) f in
        let (i, j, h, k, e) = of_pair_list (entries s) (value s) m in
        go i j h (omega arith) refl (cells i j h (omega arith)) (subst (λ z. T (not (is_allowed_pair score_limit (carried z)))) e o)
      where
        go : (i j : ℕ) → i < entries s → j < entries s → {w : List ℕ} {c : Carried} → w ≡ word_at s i j → CellSays w c → T (not (is_allowed_pair score_limit c)) → PointsOut s
        go i j h k e (points {z = z} says _) o = record {
          i = i;
          j = j;
          here = (h, k);
          z = z;
          says = subst (λ (w : List ℕ). InPoints w z) e says;
          out = λ r. T_not (is_allowed_pair score_limit (Scored z)) o (within_range r);
        }
        go i j h k e lone_minus o = absurd o

    rear : PointsOut s → T (not (scores_in_range (pairs s)))
    unfolding scores_in_range score_limit one_point point_limit
    rear p = not_T (scores_in_range (pairs s)) λ r.
        let (h, k) = p.here in
        let allowed = all_in (λ v. is_allowed_pair score_limit (carried v)) (pairs s) r (listed_value same p.i p.j h k) in
        p.out (allowed_within (subst (λ c. T (is_allowed_pair score_limit c)) (said_points (cells p.i p.j h k) p.says) allowed))

    pub points_out : T (not (scores_in_range (pairs s))) ↔ PointsOut s
    points_out = (fore, rear)
