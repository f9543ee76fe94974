-- Request 2.3, row starts by formula, said of the pair lists that calls write and of a score looked up.
use Rattle.std.specs.Prelude.{◌≡◌, List, ℕ, ◌+◌, ◌*◌, ◌/◌, ◌<◌, ◌≤◌, ℤ, pos, get_or}
use Rattle.clusters.specs.PairList.{Similarity, score}
use Rattle.clusters.specs.Farris.{farris, unfarris}
use Rattle.answers.specs.Answers.{number_of, Answer, count_of}
use Rattle.interface.specs.Sheet.{value}
use Rattle.interface.specs.Calls.{AnchoredCall, BackCall, ReaderCall, ScoreInC}

-- a pair list of n entries that a call wrote, and what it holds
pub data WrotePairs : (n : ℕ) → Similarity → (after : List ℤ) → Type 0 where
  by_reader : {sheet : List ℕ} {lent after : List ℤ} {r : Answer} → ReaderCall sheet lent r after
      → number_of r ≡ 0 → WrotePairs (count_of r) (value sheet) after
  by_anchored_call : {n x : ℕ} {l lent after : List ℤ} {r : Answer} → AnchoredCall n x l lent r after
      → number_of r ≡ 0 → WrotePairs n (farris (score l) x) after
  by_back_call : {n x : ℕ} {l lent after : List ℤ} {r : Answer} → BackCall n x l lent r after
      → number_of r ≡ 0 → WrotePairs n (unfarris (score l)) after

-- "i(i+1)/2 for row i, counted from 0": there stands the first value of row i, the others follow it
pub record Request2_3 : Type 0 where
  pub written : {n : ℕ} {s : Similarity} {after : List ℤ} → WrotePairs n s after
      → (i j : ℕ) → i < n → j ≤ i → get_or after (i * (i + 1) / 2 + j) (pos 0) ≡ s i j
  -- in a pair list that is lent, for a score looked up in C, whichever entry is named first
  pub looked_up : {n i j : ℕ} {l : List ℤ} {lent r after : ℤ} → ScoreInC n l i j lent r after → r ≡ pos 0
      → j ≤ i → after ≡ get_or l (i * (i + 1) / 2 + j) (pos 0)
  pub looked_up_swapped : {n i j : ℕ} {l : List ℤ} {lent r after : ℤ} → ScoreInC n l j i lent r after → r ≡ pos 0
      → j ≤ i → after ≡ get_or l (i * (i + 1) / 2 + j) (pos 0)
