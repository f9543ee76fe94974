-- A row read up to its own place, beside the lines before it.
use mathlib.Core.Path.{◌≡◌, refl, sym, ap, ◌∙◌, subst}
use mathlib.Core.List.{List}
use mathlib.Core.Logic.{◌⊎◌}
use Prim.Native.Nat.{ℕ, ◌+◌, ◌≤◌, ◌<◌}
use native.Mathlib.Omega.{arith}
use lib.Dec.{T}
use lib.IntN.{ℤ}
use lib.ListN.{length, get_or, set}
use lib.Seq.{get_or-set_same, get_or-set_other}
use Rattle.lists.proofs.Lists.{below_more}
use Rattle.pairs.specs.Pairs.{list_number}
use Rattle.interface.specs.Sheet.{is_cell, pair_said, value}
use Rattle.accept.specs.Places.{part, cell, Said, CellAt, BothAt, At, After, Mirror, RowRead}
use Rattle.accept.proofs.Cursors.{cell_space, at_space, cell_is, cell_after}

-- cells (i, 0) .. (i, j - 1) are read, and their mirrored ones passed over; the cursors of the others still stand before theirs
pub record RowState (s : List ℕ) (stop i j at : ℕ) (cur : List ℕ) : Type 0 where
  pub here : At s i j at
  pub mirror : Mirror s i j
  pub done : (b : ℕ) → b < j → After s stop b i (get_or cur b 0)
  pub wait : (b : ℕ) → j ≤ b → b < i → At s b i (get_or cur b 0)

pub row_start_lem : {s : List ℕ} {stop i at : ℕ} {cur : List ℕ} → At s i 0 at → ((j : ℕ) → j < i → At s j i (get_or cur j 0)) → RowState s stop i 0 at cur
row_start_lem a f = record {
  here = a;
  mirror = record { good = λ j h. absurd (omega arith); same = λ j h. absurd (omega arith) };
  done = λ b h. absurd (omega arith);
  wait = λ b _ h. f b h;
}

pub mirror_more : {s : List ℕ} {i j : ℕ} → Mirror s i j → T (is_cell (cell s i j)) → cell s j i ≡ cell s i j → Mirror s i (j + 1)
mirror_more {s} {i} m g e = record { good = below_more {P = λ b. T (is_cell (cell s i b))} m.good g; same = below_more {P = λ b. cell s b i ≡ cell s i b} m.same e }

good_at : {s : List ℕ} (i j : ℕ) {p k : ℕ} {z : ℤ} → Said s p z k → cell s i j ≡ part s p k → T (is_cell (cell s i j))
good_at i j d e = subst (λ (w : List ℕ). T (is_cell w)) (sym e) d.good

-- the number of a cell
number_at_lem : {s : List ℕ} (i j : ℕ) {p k : ℕ} {z : ℤ} → Said s p z k → cell s i j ≡ part s p k → z ≡ value s i j
unfolding value
number_at_lem i j d e = d.number ∙ sym (ap (λ (w : List ℕ). list_number (pair_said w)) e)

module _ {s : List ℕ} {stop i j at : ℕ} {cur : List ℕ} (r : RowState s stop i j at cur) where
  -- a cell and the mirrored one
  module _ {z : ℤ} {k : ℕ} (c : BothAt s at (get_or cur j 0) 32 stop z k) (h : j < i) where
    other : At s j i (get_or cur j 0)
    other = r.wait j (omega arith) h

    pub row_number : z ≡ value s i j
    row_number = number_at_lem i j c.near.said (cell_space r.here c.near)

    pub row_step : (stop ≡ 32) ⊎ (stop ≡ 10) → i < length cur → RowState s stop i (j + 1) (at + k + 1) (set cur j (get_or cur j 0 + k + 1))
    row_step t long =
        let e = cell_space r.here c.near in
        record {
          here = at_space r.here c.near;
          mirror = mirror_more r.mirror (good_at i j c.near.said e) (cell_is other c.far t ∙ sym c.same ∙ sym e);
          done = below_more {P = λ b. After s stop b i (get_or (set cur j (get_or cur j 0 + k + 1)) b 0)}
              (λ b q. subst (After s stop b i) (sym (get_or-set_other cur j b _ 0 (λ y. omega (arith, y)))) (r.done b q))
              (subst (After s stop j i) (sym (get_or-set_same cur j _ 0 (omega arith))) (cell_after other c.far));
          wait = λ b p q. subst (At s b i) (sym (get_or-set_other cur j b _ 0 (λ y. omega (arith, y)))) (r.wait b (omega arith) q);
        }

  -- the own cell
  module _ {z : ℤ} {k : ℕ} (c : CellAt s at stop z k) (t : (stop ≡ 32) ⊎ (stop ≡ 10)) (e : j ≡ i) where
    pub own_number : z ≡ value s i i
    own_number = subst (λ (b : ℕ). z ≡ value s i b) e (number_at_lem i j c.said (cell_is r.here c t))

    pub row_end : i < length cur → RowRead s stop i (at + k + 1) (set cur i (at + k + 1))
    row_end long =
        let here : At s i i at = subst (λ (b : ℕ). At s i b at) e r.here in
        let mirror : Mirror s i i = subst (Mirror s i) e r.mirror in
        record {
          mirror = mirror_more mirror (good_at i i c.said (cell_is here c t)) refl;
          after = below_more {P = λ b. After s stop b i (get_or (set cur i (at + k + 1)) b 0)}
              (λ b q. subst (After s stop b i) (sym (get_or-set_other cur i b _ 0 (λ y. omega (arith, y)))) (r.done b (omega arith)))
              (subst (After s stop i i) (sym (get_or-set_same cur i _ 0 long)) (cell_after here c));
          last = sym (get_or-set_same cur i _ 0 long);
        }
