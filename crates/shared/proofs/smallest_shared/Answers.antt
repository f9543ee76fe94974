use mathlib.Core.Path.{◌≡◌, sym, ◌∙◌}
use mathlib.Core.List.{List}
use Prim.Native.Nat.{ℕ, ◌<◌}
use lib.IntN.{ℤ}
use mir.Facts.{to_z-of_z}
use mir.Syntax.{w32}
use mir.Val.{SFits, to_z, of_z}
use Rattle.std.proofs.lemmas.Result.{err_from_is_err_and}
use Rattle.clusters.specs.Groups.{kind_of}
use Rattle.interface.specs.Refusals.{shared_refusal}
use Rattle.kinds.specs.Kinds.{Accepted}
use Rattle.kinds.proofs.Read.{kind_read}
use Rattle.shared.proofs.Answers.{shared_pass, shared_refused, shared_answered}
use Rattle.shared.proofs.smallest_shared.Goals as goal

-- what the checks leave
passes : {kind : ℤ} {n : ℕ} {l : List ℤ} {i j : ℕ} → SFits w32 kind → 0 ≡ shared_refusal (to_z w32 (of_z w32 kind)) n l i j
    → Accepted (kind_of kind) n l × (i < n) × (j < n)
passes {kind} {n} {l} {i} {j} f e = shared_pass kind n l i j (sym (rw (to_z-of_z {w = w32} f) at e))

pub returns-in_err-accepted : goal.returns-in_err-accepted
returns-in_err-accepted c = let p = err_from_is_err_and c.from_residual.result c.from_residual.ensures.1 in
    rw (p.1, p.2) (shared_refused (rw (to_z-of_z {w = w32} c.ranges.kind) at c.in_err-accepted.ensures.refusal))

pub first_shared-requires : goal.first_shared-requires
first_shared-requires c = let (a, ha, hb) = passes c.ranges.kind c.in_ok-accepted.ensures.refusal in (a.checked.some, a.checked.few, ha, hb)

pub returns : goal.returns
returns c = let s = c.in_ok-accepted.ensures.same in
    shared_answered (rw (to_z-of_z {w = w32} c.ranges.kind) at c.in_ok-accepted.ensures.refusal)
    (c.as_slice.ensures.value ∙ rw (kind_read _ c.ranges.kind s.0, s.1, s.2) at c.of_kind-found.ensures) c.first_shared.ensures
