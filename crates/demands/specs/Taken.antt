-- Whatever fits is taken: names and scores that a sheet can have, said by bytes, lengths and numbers, get a listing,
-- and the pair list that they give is taken by every call on it (those of the requests in their own files). A buffer or
-- a slice is short only if it measures so.
use Rattle.std.specs.Prelude.{◌≡◌, ◌⊎◌, ◌≢◌, List, [], ℕ, ◌+◌, ◌-◌, ◌*◌, ◌/◌, ◌<◌, ◌≤◌, ℤ, pos, neg_ℤ, ◌≤ℤ◌, length}
use Rattle.std.specs.Prelude.{get_or, take, drop}
use Rattle.lists.specs.Lists.{◌∈◌}
use Rattle.integers.specs.Range.{Within}
use Rattle.clusters.specs.PairList.{Similarity}
use Rattle.clusters.specs.Linkage.{Linkage}
use Rattle.answers.specs.Answers.{number_of, Answer, count_of}
use Rattle.interface.specs.Listing.{sheet_listing}
use Rattle.interface.specs.SheetText.{sheet_text}
use Rattle.interface.specs.Calls.{CCall, NumbersCall, LinkageCall, AnchoredCall, ReaderCall, NameInC, ScoreInC}
use Rattle.demands.specs.Sentences.{Name, mark_number, HasMark, lower, Distances}

-- names and scores that a sheet can have: 1 to 32 names, no two equal; of each pair one number for both orders, half
-- points from −1,000,000 to 1,000,000 points or the mark's
pub record FitsSheet (ns : List (List ℕ)) (s : Similarity) : Type 0 where
  pub count : (1 ≤ length ns) × (length ns ≤ 32)
  pub named : (w : List ℕ) → w ∈ ns → Name w
  pub different : (i j : ℕ) → i < j → j < length ns → get_or ns i [] ≢ get_or ns j []
  pub symmetric : (i j : ℕ) → i < length ns → j < length ns → s i j ≡ s j i
  pub range : (i j : ℕ) → i < length ns → j < length ns → (s i j ≡ mark_number) ⊎ Within (2 * 1000000) (s i j)

-- the kinds for which they fit: 1 always, 2 if every pair is scored, 3 if they are distances
pub data FitsKind (n : ℕ) (s : Similarity) : (kind : ℤ) → Type 0 where
  always : FitsKind n s (pos 1)
  if_scored : ((i j : ℕ) → i < n → j < n → s i j ≢ mark_number) → FitsKind n s (pos 2)
  if_distances : ((i j : ℕ) → i < n → j < n → pos 0 ≤ℤ s i j) → ((i : ℕ) → i < n → s i i ≡ pos 0) → FitsKind n s (pos 3)

-- the same of a pair list of n entries
pub record FitsList (n : ℕ) (l : List ℤ) : Type 0 where
  pub count : (1 ≤ n) × (n ≤ 32)
  pub long : length l ≡ n * (n + 1) / 2
  pub range : (z : ℤ) → z ∈ l → (z ≡ mark_number) ⊎ Within (2 * 1000000) z

pub data ListKind (n : ℕ) (l : List ℤ) : (kind : ℤ) → Type 0 where
  every_list : ListKind n l (pos 1)
  scored_list : (HasMark l → ⊥) → ListKind n l (pos 2)
  distance_list : Distances n l → ListKind n l (pos 3)

pub record Taken : Type 0 where
  -- "a 15-byte buffer serves, 14 bytes give 14": a buffer of the listing's length serves, one byte less gives 14
  pub listed : {ns : List (List ℕ)} {s : Similarity} → FitsSheet ns s → {kind : ℤ} → FitsKind (length ns) s kind
      → {lent after : List ℕ} {r : ℤ} → CCall kind (sheet_text ns s) lent r after
      → length (sheet_listing kind (sheet_text ns s)) ≤ length lent
      → r ≡ pos (length (sheet_listing kind (sheet_text ns s)))
  pub short : {ns : List (List ℕ)} {s : Similarity} → FitsSheet ns s → {kind : ℤ} → FitsKind (length ns) s kind
      → {lent after : List ℕ} {r : ℤ} → CCall kind (sheet_text ns s) lent r after
      → length lent < length (sheet_listing kind (sheet_text ns s)) → r ≡ neg_ℤ (pos 14)
  -- and FARZHUDYL_LISTING_MAX bytes are never short, whatever the sheet
  pub room : {kind : ℤ} {sheet lent after : List ℕ} {r : ℤ} → CCall kind sheet lent r after
      → 2048 ≤ length lent → r ≢ neg_ℤ (pos 14)
  -- the reader hands over a pair list that fits, and "the name of an entry is handed back"
  pub read : {ns : List (List ℕ)} {s : Similarity} → FitsSheet ns s
      → {lent after : List ℤ} {r : Answer} → ReaderCall (sheet_text ns s) lent r after
      → let n = length ns in let l = take (n * (n + 1) / 2) after in
      (number_of r ≡ 0) × (count_of r ≡ n) × FitsList n l × ((i j : ℕ) → i < n → j ≤ i → lower l i j ≡ s i j)
  pub name : {ns : List (List ℕ)} {s : Similarity} → FitsSheet ns s
      → {i r start : ℕ} → NameInC (sheet_text ns s) i r start → i < length ns
      → take r (drop start (sheet_text ns s)) ≡ get_or ns i []
  -- of a pair list that fits: the numbers call counts with 2n slots in each slice, and gives 13 with fewer in either
  pub numbers : {n : ℕ} {l : List ℤ} → FitsList n l → {kind : ℤ} → ListKind n l kind
      → {lent_sets sets : List ℕ} {lent_indices indices : List ℤ} {r : Answer}
      → NumbersCall kind n l lent_sets lent_indices r sets indices
      → (2 * n ≤ length lent_sets → 2 * n ≤ length lent_indices → number_of r ≡ 0)
      × (length lent_sets < 2 * n → number_of r ≡ 13) × (length lent_indices < 2 * n → number_of r ≡ 13)
  -- the linkage calls take it if every pair is scored, the anchored call if they are distances
  pub linked : {n : ℕ} {l : List ℤ} → FitsList n l → (HasMark l → ⊥)
      → {linkage : Linkage} {lent after : List ℕ} {r : Answer} → LinkageCall linkage n l lent r after
      → (n - 1 ≤ length lent → number_of r ≡ 0) × (length lent < n - 1 → number_of r ≡ 15)
  pub anchored : {n : ℕ} {l : List ℤ} → FitsList n l → Distances n l
      → {x : ℕ} {lent after : List ℤ} {r : Answer} → AnchoredCall n x l lent r after
      → (x < n → n * (n + 1) / 2 ≤ length lent → number_of r ≡ 0)
      × (n ≤ x → number_of r ≡ 15) × (length lent < n * (n + 1) / 2 → number_of r ≡ 15)
  -- a score is looked up in every list of the right length
  pub looked_up : {n : ℕ} {l : List ℤ} → FitsList n l → {i j : ℕ} {lent r after : ℤ} → ScoreInC n l i j lent r after
      → i < n → j < n → r ≡ pos 0
