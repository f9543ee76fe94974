-- What a linkage call answers, by its checks.
use mathlib.Core.Path.{◌≡◌, refl, sym}
use mathlib.Core.List.{List, []}
use Prim.Native.Nat.{ℕ, ◌-◌}
use native.Mathlib.Omega.{arith}
use lib.IntN.{ℤ}
use lib.ListN.{length, length-map}
use Rattle.sets.specs.Sets.{◌∪◌}
use Rattle.clusters.specs.PairList.{score}
use Rattle.clusters.specs.Linkage.{Linkage, merged_blocks}
use Rattle.clusters.proofs.Exists.{tree_length}
use Rattle.interface.proofs.Refusals.{Gives}
use Rattle.std.specs.Prelude.{Ok, Err}
use Rattle.answers.specs.declared.Refusal.{Refusal}
use Rattle.answers.specs.Answers.{number}
use Rattle.answers.proofs.Answers.{number_above}
use Rattle.answers.proofs.WaysOut as ways
use Rattle.interface.specs.Refusals.{linkage_checks, linkage_refusal}
use Rattle.interface.specs.Calls.{LinkageCall}
use Rattle.linkage.specs.Steps.{Merged}

-- the two ways out
module _ {linkage : Linkage} {n : ℕ} {l : List ℤ} {lent : List ℕ} where
  pub refused : {e : Refusal} → Gives (linkage_checks n l (length lent)) (number e) → LinkageCall linkage n l lent (Err e) lent
  unfolding linkage_refusal
  refused {e} g = let (a, w) = ways.refused (n - 1) (merged_blocks []) lent g.is in
      record { answered = a; merges = []; tree = λ z. let above = number_above e in absurd (omega (arith, above, g.is, z)); written = w }

  pub accepted : {after : List ℕ} → Gives (linkage_checks n l (length lent)) 0 → Merged linkage n l lent after
      → LinkageCall linkage n l lent (Ok (n - 1)) after
  unfolding linkage_refusal merged_blocks
  accepted g m =
      let merges = tree_length linkage n (score l) m.merges m.tree in
      let long : length (merged_blocks m.merges) ≡ n - 1 = omega (arith, length-map m.merges (λ x. x.0 ∪ x.1), merges) in
      let (a, w) = ways.counted (n - 1) (merged_blocks m.merges) lent (sym g.is) refl long m.written in
      record { answered = a; merges = m.merges; tree = λ _. m.tree; written = w }
