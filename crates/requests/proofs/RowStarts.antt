-- Request 2.3: row i of a pair list starts at i(i+1)/2.
use mathlib.Core.Path.{◌≡◌, ap, ◌∙◌}
use mathlib.Core.Bool.{cond}
use mathlib.Core.List.{List}
use Prim.Native.Nat.{ℕ, ◌<◌, ◌≤◌}
use native.Mathlib.Omega.{arith}
use lib.Dec.{eqb}
use lib.IntN.{ℤ, pos}
use Rattle.pairs.specs.Pairs.{list_number, pair_of}
use Rattle.pairs.proofs.Pairs.{number_pair}
use Rattle.clusters.specs.PairList.{Similarity, row_start, score}
use Rattle.clusters.specs.Farris.{farris, unfarris, anchored_scores, distances_back}
use Rattle.clusters.proofs.PairList.{score_symm, score_row}
use Rattle.interface.specs.Sheet.{entries, value, pairs}
use Rattle.interface.specs.Refusals.{score_refusal}
use Rattle.interface.specs.Calls.{ScoreInC}
use Rattle.demands.specs.Sentences.{lower}
use Rattle.requests.specs.RowStarts.{WrotePairs, by_reader, by_anchored_call, by_back_call, Request2_3}
use Rattle.interface.proofs.Outcomes.{counted}
use Rattle.demands.proofs.Written.{at_row}

pub written_at : {n : ℕ} {s : Similarity} {after : List ℤ} → WrotePairs n s after → (i j : ℕ) → i < n → j ≤ i → lower after i j ≡ s i j
unfolding pairs anchored_scores distances_back
written_at (by_reader {sheet} {lent} c none) i j h =
    let e = c.answered in
    at_row (entries sheet) (value sheet) lent _ _ e none c.written i j (omega (arith, counted _ _ e none))
written_at (by_anchored_call {n} {x} {l} {lent} c none) i j h =
    at_row n (farris (score l) x) lent _ _ c.answered none c.written i j h
written_at (by_back_call {n} {l = l} {lent = lent} c none) i j h =
    at_row n (unfarris (score l)) lent _ _ c.answered none c.written i j h

looked : {n a b : ℕ} {l : List ℤ} {lent r after : ℤ} → ScoreInC n l a b lent r after → r ≡ pos 0 → after ≡ score l a b
looked {n} {a} {b} {l} {lent} c q =
    let z : score_refusal n l a b ≡ 0 = cc in
    c.written ∙ ap (λ (k : ℕ). cond (eqb k 0) (list_number (pair_of (score l a b))) lent) z ∙ number_pair (score l a b)

pub request_2_3 : Request2_3
unfolding row_start
request_2_3 = record {
  written = λ w i j h. written_at w i j h;
  looked_up = λ {n} {i} {j} {l} c q h. looked c q ∙ score_row l i j h;
  looked_up_swapped = λ {n} {i} {j} {l} c q h. looked c q ∙ score_symm l j i ∙ score_row l i j h;
}
