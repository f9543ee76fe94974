use mathlib.Core.Path.{refl, sym, ◌∙◌}
use mir.Syntax.{w32}
use native.Mathlib.Omega.{arith}
use lib.Dec.{lit<}
use Rattle.integers.proofs.Range.{within_neg}
use Rattle.indices.proofs.Parted.{far_within, number_within, table_set, part_more}
use Rattle.indices.proofs.Values.{read}
use Rattle.indices.proofs.Sides.part.Goals.{then-has, else-has}
use Rattle.indices.proofs.Sides.part.Goals as goal

pub loop-y-preserved : goal.loop-y-preserved
loop-y-preserved g c =
    let l = c.loop-y in
    let (inside, outside) = l.self.tables in
    let t = sym c.has.ensures in
    let e = read w32 (lit< tt) refl (c.requires.3 l.y (omega arith)) in
    elim c.if-has.branch [
      | then-has w ↦ (
        omega arith,
        rw w.self-is (part_more l.invariant.1 (t ∙ w.if-has.true) (omega (arith, inside.long)) (omega (arith, outside.long)) e refl),
      )
      | else-has w ↦ (
        omega arith,
        rw w.self-is (part_more l.invariant.1 (t ∙ w.if-has.false) (omega (arith, inside.long)) (omega (arith, outside.long)) refl e),
      )
    ]

pub loop-y-init : goal.loop-y-init
loop-y-init g c = (omega arith, record { members = λ y h. absurd (omega arith); others = λ y h. absurd (omega arith) })

-- the tables stay as small as they have to be
pub invariant_of-self : goal.invariant_of-self
invariant_of-self g c = let (inside, outside) = c.loop-y.self.tables in
    let y = c.loop-y.y in
    (record { tables = (table_set y (omega arith) inside (number_within (c.requires.3 y (omega arith))), table_set y (omega arith) outside far_within) })

pub invariant_of-self-else-has : goal.invariant_of-self-else-has
invariant_of-self-else-has g c = let (inside, outside) = c.loop-y.self.tables in
    let y = c.loop-y.y in
    (record { tables = (table_set y (omega arith) inside (within_neg far_within), table_set y (omega arith) outside (number_within (c.requires.3 y (omega arith)))) })

pub returns : goal.returns
returns g c = let l = c.loop-y in
    record {
      members = λ y h. l.invariant.1.members y (omega arith);
      others = λ y h. l.invariant.1.others y (omega arith);
    }
