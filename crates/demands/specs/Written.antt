-- What the calls write, by bytes and numbers, and what they do not touch. No definition of the writer is named here.
use Rattle.std.specs.Prelude.{◌≡◌, ◌⊎◌, ◌≢◌, List, [], ◌∷◌, ◌++◌, ℕ, ◌+◌, ◌*◌, ◌/◌, ◌<◌, ◌≤◌, max, min, ℤ, pos, ◌+ℤ◌}
use Rattle.std.specs.Prelude.{◌-ℤ◌, length, get_or, drop}
use Rattle.std.proofs.Math.Option.{some}
use Rattle.pairs.specs.declared.Carried.TheVariants.{Scored, Unscored}
use Rattle.pairs.specs.declared.Pair.{Pair}
use Rattle.clusters.specs.Linkage.{Linkage}
use Rattle.answers.specs.Answers.{number_of, Answer, count_of}
use Rattle.interface.specs.Sheet.{entries}
use Rattle.interface.specs.Listing.{Line, listing_read}
use Rattle.interface.specs.Calls.{SheetCall, NumbersCall, LinkageCall, AnchoredCall, BackCall, ReaderCall}
use Rattle.interface.specs.Calls.{pair_among}
use Rattle.demands.specs.Sentences.{DecimalSays, InPoints, mark_number, lower, OtherLength, NoEntries}
use Rattle.demands.specs.Demands.{Listed}

-- "slots beyond are not touched": those behind the first `written`
abbrev pub Beyond : {A : Type 0} → (written : ℕ) (lent after : List A) → Type 0
Beyond written lent after = drop written after ≡ drop written lent

-- lower-case hexadecimal digits, and the number that they say
pub data HexSays : (bytes : List ℕ) → (n : ℕ) → Type 0 where
  no_digit : HexSays [] 0
  one_more_digit : {w : List ℕ} {n : ℕ} → HexSays w n → (d b : ℕ)
      → ((d < 10) × (b ≡ 48 + d)) ⊎ ((10 ≤ d) × (d < 16) × (b ≡ 87 + d)) → HexSays (w ++ (b ∷ [])) (16 * n + d)

-- "the set as 8 lower-case hexadecimal digits ..; the number of members; the index; both decimal, single spaces"
pub record LineSays (bytes : List ℕ) (line : Line) : Type 0 where
  pub set_bytes : List ℕ
  pub size_bytes : List ℕ
  pub index_bytes : List ℕ
  pub are : bytes ≡ set_bytes ++ (32 ∷ []) ++ size_bytes ++ (32 ∷ []) ++ index_bytes
  pub eight : length set_bytes ≡ 8
  pub set : HexSays set_bytes line.set
  pub size : DecimalSays size_bytes line.size
  pub index : InPoints index_bytes line.index

-- "a line feed after each"
pub data LinesSay : (bytes : List ℕ) → List Line → Type 0 where
  no_line : LinesSay [] []
  one_line : {w rest : List ℕ} {l : Line} {ls : List Line} → LineSays w l → LinesSay rest ls
      → LinesSay ((w ++ (10 ∷ [])) ++ rest) (l ∷ ls)

-- "First line `set size index`. Then a line per group"
pub record ListingSays (bytes : List ℕ) (ls : List Line) : Type 0 where
  pub rest : List ℕ
  pub are : bytes ≡ (115 ∷ 101 ∷ 116 ∷ 32 ∷ 115 ∷ 105 ∷ 122 ∷ 101 ∷ 32 ∷ 105 ∷ 110 ∷ 100 ∷ 101 ∷ 120 ∷ 10 ∷ []) ++ rest
  pub lines : LinesSay rest ls

-- the number of two entries in a pair list
abbrev pub looked : List ℤ → (a b : ℕ) → ℤ
looked l a b = lower l (max a b) (min a b)

-- a pair "carries either a score or the mark unscored" (document 02, 2.2): by its number in the list
pub record Carries (p : Pair) (number : ℤ) : Type 0 where
  pub marked : number ≡ mark_number → p.carries ≡ Unscored
  pub scored : number ≢ mark_number → p.carries ≡ Scored number

pub record Written : Type 0 where
  -- nothing but what is answered; that a refusal writes nothing is in `TurnedAway`
  pub sheet : {kind : ℤ} {sheet lent after : List ℕ} {r : Answer} → SheetCall kind sheet lent r after
      → number_of r ≡ 0 → Beyond (count_of r) lent after
  pub linkage : {linkage : Linkage} {n : ℕ} {l : List ℤ} {lent after : List ℕ} {r : Answer}
      → LinkageCall linkage n l lent r after → number_of r ≡ 0 → Beyond (count_of r) lent after
  pub anchored : {n x : ℕ} {l lent after : List ℤ} {r : Answer} → AnchoredCall n x l lent r after
      → number_of r ≡ 0 → Beyond (count_of r) lent after
  pub back : {n x : ℕ} {l lent after : List ℤ} {r : Answer} → BackCall n x l lent r after
      → number_of r ≡ 0 → Beyond (count_of r) lent after
  -- the reader counts the entries and writes a pair list of them
  pub reader : {sheet : List ℕ} {lent after : List ℤ} {r : Answer} → ReaderCall sheet lent r after
      → number_of r ≡ 0 → let n = count_of r in (n ≡ entries sheet) × Beyond (n * (n + 1) / 2) lent after
  -- the numbers call "fills all further slots with 0"
  pub numbers : {kind : ℤ} {n : ℕ} {l lent_indices indices : List ℤ} {lent_sets sets : List ℕ} {r : Answer}
      → NumbersCall kind n l lent_sets lent_indices r sets indices → number_of r ≡ 0
      → (length sets ≡ length lent_sets) × (length indices ≡ length lent_indices)
      × ((k : ℕ) → count_of r ≤ k → (get_or sets k 0 ≡ 0) × (get_or indices k (pos 0) ≡ pos 0))
  -- what is listed says, byte by byte, the lines that are read back from it
  pub listing : {kind : ℤ} {sheet bytes : List ℕ} → Listed kind sheet bytes
      → (ls : List Line) × ListingSays bytes ls × (listing_read bytes ≡ some ls)
  -- "S(a,b) = d(a,x) + d(b,x) − d(a,b), over all of X, x included"
  pub anchored_scores_lem : {n x : ℕ} {l lent after : List ℤ} {r : Answer} → AnchoredCall n x l lent r after
      → number_of r ≡ 0 → (i j : ℕ) → i < n → j ≤ i
      → lower after i j ≡ (looked l i x +ℤ looked l j x) -ℤ looked l i j
  -- "Back: 2·d(a,b) = S(a,a) + S(b,b) − 2·S(a,b)"
  pub distances_back_lem : {n x : ℕ} {l lent after : List ℤ} {r : Answer} → BackCall n x l lent r after
      → number_of r ≡ 0 → (i j : ℕ) → i < n → j ≤ i
      → lower after i j +ℤ lower after i j ≡ (lower l i i +ℤ lower l j j) -ℤ (lower l i j +ℤ lower l i j)
  -- "Scores are looked up by two entries in the pair list as lent", of which the answer is `pair_among`: the pair's
  -- number, and a score of 0 if there is no such pair
  pub looked_up : (n : ℕ) (l : List ℤ) (a b : ℕ) → n ≤ 32 → length l ≡ n * (n + 1) / 2 → a < n → b < n
      → Carries (pair_among n l a b) (looked l a b)
  pub no_pair : (n : ℕ) (l : List ℤ) (a b : ℕ) → (32 < n) ⊎ OtherLength n l ⊎ NoEntries n a b
      → (pair_among n l a b).carries ≡ Scored (pos 0)
