-- The two ways out of a call that lends slots: refused, or counted.
use mathlib.Core.Path.{◌≡◌, sym, ap, ◌∙◌}
use mathlib.Core.List.{List, ◌++◌}
use Prim.Native.Nat.{ℕ}
use native.Mathlib.Omega.{arith}
use borrow.Author.Tests.{eq-eqb, ne_eqb}
use lib.ListN.{length, drop}
use Rattle.std.specs.Prelude.{Ok, Err}
use Rattle.answers.specs.declared.Refusal.{Refusal}
use Rattle.answers.specs.Answers.{number, Answered, slots}
use Rattle.answers.proofs.Answers.{number_above}

-- a refusal whose number is k
module _ {A : Type 0} {k : ℕ} (found : A) where
  pub is_refused : {e : Refusal} → number e ≡ k → Answered k found (Err e)
  is_refused {e} h = record { number = h; is_found = λ z. let a = number_above e in absurd (omega (arith, a, h, z)) }

  pub is_found : {a : A} → k ≡ 0 → a ≡ found → Answered k found (Ok a)
  is_found z e = record { number = sym z; is_found = λ _. ap Ok e }

-- with the slots: the checks give k
module _ {ℓ} {A : Type ℓ} {k : ℕ} (c : ℕ) (result lent : List A) where
  pub refused : {e : Refusal} → number e ≡ k → Answered k c (Err e) × (lent ≡ slots k result lent)
  unfolding slots
  refused {e} h = (is_refused c h, rw (ne_eqb k 0 (λ z. let a = number_above e in omega (arith, a, h, z))))

  pub counted : {m : ℕ} {o : List A} → k ≡ 0 → m ≡ c → length result ≡ c → o ≡ result ++ drop c lent → Answered k c (Ok m) × (o ≡ slots k result lent)
  unfolding slots
  counted z p q h = (is_found c z p, h ∙ rw (eq-eqb k 0 z, q))
