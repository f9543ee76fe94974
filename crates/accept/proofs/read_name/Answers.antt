use mathlib.Core.Path.{sym, ◌∙◌, subst}
use Prim.Native.Nat.{ℕ, ◌+◌, ◌*◌}
use native.Mathlib.Omega.{arith}
use Rattle.lists.proofs.Tests.{true_T}
use Rattle.accept.specs.Names.{NameRun}
use Rattle.accept.proofs.Named.{name_byte_small, name_none, name_small, name_more}
use Rattle.accept.proofs.read_name.Goals as goal

pub loop-size-init : goal.loop-size-init
loop-size-init c = name_none _ _ c.requires

pub overflow_mul-packed : goal.overflow_mul-packed
overflow_mul-packed c = omega (arith, name_small c.loop-size.invariant (omega arith))

pub overflow_add-packed : goal.overflow_add-packed
overflow_add-packed c = omega (arith, name_small c.loop-size.invariant (omega arith), name_byte_small _ (true_T (sym c.is_name_byte.ensures ∙ c.if-not-is_name_byte.false)))

pub loop-size-preserved : goal.loop-size-preserved
loop-size-preserved c =
    subst (λ (x : ℕ). NameRun c.args.sheet.now c.args.p (c.loop-size.packed * 256 + x) (c.loop-size.size + 1)) (sym c.from.ensures)
    (name_more c.loop-size.invariant (omega arith) (omega arith) (true_T (sym c.is_name_byte.ensures ∙ c.if-not-is_name_byte.false)))

pub returns : goal.returns
returns c = subst (NameRun c.args.sheet.now c.args.p c.loop-size.packed) (omega arith) c.loop-size.invariant
