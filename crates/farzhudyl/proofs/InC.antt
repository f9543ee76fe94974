-- The faces in C that put what they find in a slot: a name's start, a score, a set.
use mathlib.Core.Path.{◌≡◌, refl, sym, ap, ◌∙◌}
use mathlib.Core.List.{List}
use Prim.Native.Nat.{ℕ, ◌-◌, ◌^◌, ◌<◌, ◌≤◌}
use native.Mathlib.Omega.{arith}
use borrow.Author.Tests.{ne_eqb}
use lib.IntN.{ℤ, pos, neg_ℤ}
use lib.ListN.{length, length-drop, length-map}
use lib.Seq.{length-take-le}
use Rattle.pairs.specs.Pairs.{list_number, pair_of}
use Rattle.clusters.specs.PairList.{score}
use Rattle.clusters.specs.Groups.{sets_of, kind_of, groups}
use Rattle.clusters.specs.declared.Group.{Group}
use Rattle.clusters.proofs.Shared.{shared_line_le}
use Rattle.std.specs.Prelude.{Ok, Err}
use Rattle.clusters.specs.declared.Hit.{Hit}
use Rattle.answers.specs.declared.Refusal.{Refusal}
use Rattle.answers.specs.Answers.{number}
use Rattle.answers.specs.Shared.{shared_set}
use Rattle.answers.proofs.Answers.{number_above, found_is}
use Rattle.interface.specs.Listing.{groups_found}
use Rattle.interface.specs.Refusals.{score_refusal, shared_refusal}
use Rattle.interface.specs.Calls.{c_number, line_answer, sets_found, NameInC, pair_among, ScoreInC, shared_found, SharedCall, SharedInC}
use Rattle.interface.proofs.Room.{groups_few}
use Rattle.reader.specs.Names.{NamePart}
use Rattle.triangle.proofs.Among.{scored}
use Rattle.shared.proofs.Answers.{shared_pass}

pub name_told : (s : List ℕ) (i from to : ℕ) → NamePart s i from to → NameInC s i (to - from) from
name_told s i from to p = record {
  answered = sym (length-take-le (to - from) _ (omega (arith, p.ordered, p.inside, length-drop from s))) ∙ ap length p.bytes;
  lies = p.lies;
  bytes = p.bytes;
}

module _ (n : ℕ) (l : List ℤ) (a b : ℕ) (lent : ℤ) where
  pub score_refused : (e : Refusal) {r : ℤ} → number e ≡ score_refusal n l a b → r ≡ pos (number e) → ScoreInC n l a b lent r lent
  score_refused e h q = record {
    answered = q ∙ ap pos h;
    written = rw (ne_eqb (score_refusal n l a b) 0 (λ z. let above = number_above e in omega (arith, above, h, z)));
  }

  pub score_put : {after : ℤ} → 0 ≡ score_refusal n l a b → after ≡ list_number (pair_among n l a b) → ScoreInC n l a b lent (pos 0) after
  unfolding pair_among
  score_put z q = let first = sym z in
      record { answered = ap pos z; written = q ∙ ap (λ y. list_number (pair_of y)) (scored n l a b first) ∙ rw first }

module _ (kind : ℤ) (n : ℕ) (l : List ℤ) (i j : ℕ) where
  -- a line is one of at most 62
  line_le : shared_refusal kind n l i j ≡ 0 → (shared_found kind n l i j).line ≤ 62
  unfolding shared_found sets_found groups_found
  line_le z =
      let found = groups (kind_of kind) n (score l) in
      omega (
        arith,
        shared_line_le n i j (sets_of found),
        length-map found (λ (g : Group). g.set),
        groups_few (kind_of kind) n l (shared_pass kind n l i j z).0.checked.few,
      )

  pub shared_small : {hit : Hit} → SharedCall kind n l i j (Ok hit) → hit.line < 2 ^ 63
  shared_small c = let (z, is) = found_is c.answered in omega (arith, line_le z, ap (λ (h : Hit). h.line) is)

  pub shared_put : {hit : Hit} {r : ℤ} → SharedCall kind n l i j (Ok hit) → r ≡ pos hit.line → SharedInC kind n l i j r hit.set
  unfolding shared_set line_answer c_number
  shared_put {hit} c e = record { given = Ok hit; outcome = c; answered = e; written = refl }

  pub shared_refused : {e : Refusal} {r : ℤ} → SharedCall kind n l i j (Err e) → r ≡ neg_ℤ (pos (number e)) → SharedInC kind n l i j r 0
  unfolding shared_set line_answer c_number
  shared_refused {e} c h = record { given = Err e; outcome = c; answered = h; written = refl }
