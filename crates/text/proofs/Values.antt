-- What is read at a place of a line, as one value, by which the proofs go.
use mathlib.Core.Path.{◌≡◌, refl, sym, ap, ap₂, ◌∙◌, subst}
use mathlib.Core.Bool.{Bool, true, false, cond}
use mathlib.Core.List.{List}
use Prim.Native.Nat.{ℕ, ◌+◌}
use native.Mathlib.Omega.{arith}
use lib.IntN.{pos}
use lib.ListN.{length}
use Rattle.pairs.specs.declared.Carried.TheVariants.{Scored}
use Rattle.pairs.specs.declared.Pair.{Pair}
use Rattle.pairs.specs.Pairs.{list_number}
use Rattle.answers.specs.declared.Cursor.{Cursor}
use Rattle.std.specs.Prelude.{Ok, Err}
use Rattle.answers.specs.declared.Refusal.{Refusal}
use Rattle.answers.specs.declared.Refusal.TheVariants.{WrongValues}
use Rattle.answers.specs.Answers.{number_of}
use Rattle.answers.specs.Values.{ValueRead, read_pair, read_place}
use Rattle.answers.proofs.Answers.{number_above, number_only}
use Rattle.interface.specs.Sheet.{space, is_cell, pair_said}
use Rattle.interface.specs.Calls.{piece_at, ValueCall}

-- a pair if the test passes, else none
abbrev pub value_if : Bool → Pair → (place : ℕ) → ValueRead
value_if test p place = cond test (Ok (p, record { at = place })) (Err WrongValues)

unfoldable pub value_at : List ℕ → ℕ → ValueRead
value_at line at = value_if (is_cell (piece_at space line at)) (pair_said (piece_at space line at)) (at + length (piece_at space line at))

-- the three definitions by cases tell such a value
abbrev Tells : Bool → Pair → ℕ → ValueRead → Type 0
Tells test p place r =
    (number_of r ≡ cond test 0 8) × (read_pair r ≡ cond test p (record { carries = Scored (pos 0) })) × (read_place r ≡ cond test place 0)

tells : (test : Bool) (p : Pair) (place : ℕ) → Tells test p place (value_if test p place)
unfolding read_pair read_place
tells true p place = (refl, refl, refl)
tells false p place = (refl, refl, refl)

told : (test : Bool) (p : Pair) (place : ℕ) (r : ValueRead) → Tells test p place r → r ≡ value_if test p place
unfolding read_pair read_place
told true p place (Ok (q, next)) (n, e, a) = ap₂ {C = ValueRead} (λ (x : Pair) (k : ℕ). Ok (x, record { at = k })) e a
told true p place (Err f) (n, e, a) = let h = number_above f in absurd (omega (arith, h, n))
told false p place (Ok (q, next)) (n, e, a) = absurd (omega (arith, n))
told false p place (Err f) (n, e, a) = ap Err (number_only f WrongValues n)

-- the contract, and the value, either way
module _ {line : List ℕ} {at : ℕ} {r : ValueRead} where
  pub value_call : r ≡ value_at line at → ValueCall line at r
  unfolding value_at
  value_call e =
      let w = piece_at space line at in
      let (n, p, a) = subst (Tells (is_cell w) (pair_said w) (at + length w)) (sym e) (tells (is_cell w) (pair_said w) (at + length w)) in
      record { number = n; pair = p; place = a }

  pub call_value : ValueCall line at r → r ≡ value_at line at
  unfolding value_at
  call_value c =
      let w = piece_at space line at in
      told (is_cell w) (pair_said w) (at + length w) r (c.number, c.pair, c.place)

-- what an answer of `read_value` says
pub record Got (s : List ℕ) (at : ℕ) (p : Pair) (next : Cursor) : Type 0 where
  pub good : is_cell (piece_at space s at) ≡ true
  pub number : list_number p ≡ list_number (pair_said (piece_at space s at))
  pub end : next.at ≡ at + length (piece_at space s at)

pub value_got : {s : List ℕ} {at : ℕ} {r : ValueRead} (p : Pair) (next : Cursor) → ValueCall s at r → r ≡ Ok (p, next) → Got s at p next
unfolding value_at
value_got {s} {at} p next h q = go (is_cell w) refl (sym q ∙ call_value h)
  where
    w : List ℕ
    w = piece_at space s at

    go : (b : Bool) → is_cell w ≡ b → Ok (p, next) ≡ value_if b (pair_said w) (at + length w) → Got s at p next
    go true t e =
        let both : ◌≡◌ {A = Pair × Cursor} (p, next) (pair_said w, record { at = at + length w }) = cc in
        let is : p ≡ pair_said w = ap (λ (x : Pair × Cursor). x.0) both in
        let x : next ≡ record { at = at + length w } = ap (λ (x : Pair × Cursor). x.1) both in
        record { good = t; number = ap list_number is; end = ap (λ (c : Cursor). c.at) x }
    go false t e = let z : ◌≡◌ {A = ℕ} 0 1 = cc in absurd (omega arith)

pub value_not : {s : List ℕ} {at : ℕ} {r : ValueRead} → {e : Refusal} → ValueCall s at r → r ≡ Err e → is_cell (piece_at space s at) ≡ false
unfolding value_at
value_not {s = s} {at = at} {e = e} h q = go (is_cell w) refl (sym q ∙ call_value h)
  where
    w : List ℕ
    w = piece_at space s at

    go : (b : Bool) → is_cell w ≡ b → Err e ≡ value_if b (pair_said w) (at + length w) → is_cell w ≡ false
    go true t x = let z : ◌≡◌ {A = ℕ} 0 1 = cc in absurd (omega arith)
    go false t x = t
