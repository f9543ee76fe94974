-- What each call answers and writes (document 01): its whole outcome, which is the function's contract. What was lent
-- to a call held `lent` before it and holds `after` now.
use Rattle.std.specs.Prelude.{◌≡◌, Ok, Err, Bool, cond, ◌&&◌, List, [], ◌∷◌, map, ℕ, zero, suc, ◌+◌, ◌-◌, ℤ, pos, neg_ℤ}
use Rattle.std.specs.Prelude.{eqb, leb, ltb, length, get_or, take, drop}
use Rattle.lists.specs.Lists.{below}
use Rattle.pairs.specs.declared.Carried.TheVariants.{Scored}
use Rattle.pairs.specs.declared.Pair.{Pair}
use Rattle.pairs.specs.Pairs.{list_number, pair_of}
use Rattle.clusters.specs.PairList.{Similarity, row_start, score, has_length}
use Rattle.clusters.specs.Groups.{sets_of, indices_of}
use Rattle.clusters.specs.declared.Group.{Group}
use Rattle.clusters.specs.Farris.{anchored_scores, distances_back}
use Rattle.clusters.specs.Linkage.{Linkage, Tree, merged_blocks}
use Rattle.clusters.specs.Nesting.{smallest_shared}
use Rattle.clusters.specs.declared.Hit.{Hit}
use Rattle.clusters.specs.Refined.{refined_weight}
use Rattle.answers.specs.Answers.{number, number_of, Answer, Answered, slots, filled}
use Rattle.answers.specs.Shared.{Shared, shared_set}
use Rattle.answers.specs.Refined.{Refined, answered_weight}
use Rattle.answers.specs.Values.{ValueRead, read_pair, read_place}
use Rattle.interface.specs.Sheet.{space, cut, names, entries, is_cell, pair_said, pairs}
use Rattle.interface.specs.Listing.{groups_found, sheet_listing}
use Rattle.interface.specs.Pool.{pool_text}
use Rattle.interface.specs.Refusals.{
  most_entries,
  sheet_refusal,
  numbers_refusal,
  linkage_refusal,
  anchored_refusal,
  back_refusal,
  reader_refusal,
  score_refusal,
  shared_refusal,
  pool_refusal,
  refined_refusal,
}

-- The sheet call: the listing's length, and the listing in the first bytes.
pub record SheetCall (kind : ℤ) (sheet lent : List ℕ) (r : Answer) (after : List ℕ) : Type 0 where
  pub answered : Answered (sheet_refusal kind sheet (length lent)) (length (sheet_listing kind sheet)) r
  pub written : after ≡ slots (sheet_refusal kind sheet (length lent)) (sheet_listing kind sheet) lent

-- "The C call answers the listing's length in bytes, or minus the refusal number": for each case of an answer
unfoldable pub c_number : Answer → ℤ
c_number (Ok length) = pos length
c_number (Err refusal) = neg_ℤ (pos (number refusal))

-- a call in C: the number of an answer of which the call's outcome holds
pub record InC (Outcome : Answer → Type 0) (r : ℤ) : Type 0 where
  pub given : Answer
  pub number : r ≡ c_number given
  pub outcome : Outcome given

abbrev pub CCall : ℤ → (sheet lent : List ℕ) → ℤ → (after : List ℕ) → Type 0
CCall kind sheet lent r after = InC (λ a. SheetCall kind sheet lent a after) r

-- "The numbers call puts sets and indices in two lent slices in this order, returns their count, and fills all further
-- slots with 0."
unfoldable pub sets_found : ℤ → ℕ → List ℤ → List ℕ
sets_found kind n l = sets_of (groups_found kind n l)

unfoldable pub indices_found : ℤ → ℕ → List ℤ → List ℤ
indices_found kind n l = indices_of (groups_found kind n l)

pub record NumbersCall (kind : ℤ) (n : ℕ) (l : List ℤ) (lent_sets : List ℕ) (lent_indices : List ℤ) (r : Answer)
    (sets : List ℕ) (indices : List ℤ) : Type 0 where
  pub answered :
      Answered (numbers_refusal kind n l (length lent_sets) (length lent_indices)) (length (groups_found kind n l)) r
  pub sets_written : sets
      ≡ filled 0 (numbers_refusal kind n l (length lent_sets) (length lent_indices)) (sets_found kind n l) lent_sets
  pub indices_written :
      indices
      ≡ filled (pos 0) (numbers_refusal kind n l (length lent_sets) (length lent_indices))
      (indices_found kind n l) lent_indices

-- the groups in the first n slots, each with its index
unfoldable pub groups_in : ℕ → List ℕ → List ℤ → List Group
groups_in n sets indices = map (λ k. record { set = get_or sets k 0; index = get_or indices k (pos 0) }) (below n)

-- "A linkage call writes the n − 1 merged blocks in the order of merging", of some tree; it "answers how many slots it
-- wrote; slots beyond are not touched".
pub record LinkageCall (linkage : Linkage) (n : ℕ) (l : List ℤ) (lent : List ℕ) (r : Answer) (after : List ℕ)
    : Type 0 where
  pub answered : Answered (linkage_refusal n l (length lent)) (n - 1) r
  pub merges : List (ℕ × ℕ)
  pub tree : linkage_refusal n l (length lent) ≡ 0 → Tree linkage n (score l) merges
  pub written : after ≡ slots (linkage_refusal n l (length lent)) (merged_blocks merges) lent

-- "the anchored call and the way back write a list in the order of the pair list"
pub record AnchoredCall (n x : ℕ) (l lent : List ℤ) (r : Answer) (after : List ℤ) : Type 0 where
  pub answered : Answered (anchored_refusal n x l (length lent)) (row_start n) r
  pub written : after ≡ slots (anchored_refusal n x l (length lent)) (anchored_scores n x l) lent

pub record BackCall (n x : ℕ) (l lent : List ℤ) (r : Answer) (after : List ℤ) : Type 0 where
  pub answered : Answered (back_refusal n x l (length lent)) (row_start n) r
  pub written : after ≡ slots (back_refusal n x l (length lent)) (distances_back n l) lent

-- The reader: the number of entries, and the pair list in the first slots.
pub record ReaderCall (sheet : List ℕ) (lent : List ℤ) (r : Answer) (after : List ℤ) : Type 0 where
  pub answered : Answered (reader_refusal sheet) (entries sheet) r
  pub written : after ≡ slots (reader_refusal sheet) (pairs sheet) lent

-- "The name of an entry is handed back as its own part of the sheet; the answer is the empty part if checks 2 to 9
-- refuse the sheet or the entry number, counted from 0, is n or more."
unfoldable pub has_name : List ℕ → ℕ → Bool
has_name sheet i = eqb (reader_refusal sheet) 0 && ltb i (entries sheet)

unfoldable pub name_of : List ℕ → ℕ → List ℕ
name_of sheet i = cond (has_name sheet i) (get_or (names sheet) i []) []

-- where it starts: behind the names before it, each with the space behind it
unfoldable pub start_of : List (List ℕ) → ℕ → ℕ
start_of ws zero = 0
start_of [] (suc i) = 0
start_of (w ∷ ws) (suc i) = length w + 1 + start_of ws i

unfoldable pub name_start : List ℕ → ℕ → ℕ
name_start sheet i = cond (has_name sheet i) (start_of (names sheet) i) 0

-- k bytes behind a place in memory, which is a block and an offset
unfoldable pub behind : ℕ → ℕ × ℕ → ℕ × ℕ
behind k (block, offset) = (block, k + offset)

-- the sheet lies at the place `at`, the part that is handed back at `place`
pub record NameCall (sheet : List ℕ) (at : ℕ × ℕ) (i : ℕ) (part : List ℕ) (place : ℕ × ℕ) : Type 0 where
  pub bytes : part ≡ name_of sheet i
  pub lies : place ≡ behind (name_start sheet i) at

-- in C: the part's length is answered, and where it starts in the sheet goes to a slot; nothing is copied
pub record NameInC (sheet : List ℕ) (i : ℕ) (r start : ℕ) : Type 0 where
  pub answered : r ≡ length (name_of sheet i)
  pub lies : start ≡ name_start sheet i
  pub bytes : take r (drop start sheet) ≡ name_of sheet i

-- "Scores are looked up by two entries in the pair list as lent": the score of two of n entries, of an unscored pair
-- the mark, and 0 of any other two numbers or if the list is no pair list of n entries
unfoldable pub is_pair : ℕ → List ℤ → ℕ → ℕ → Bool
is_pair n l a b = leb n most_entries && has_length n l && ltb a n && ltb b n

unfoldable pub score_among : ℕ → List ℤ → Similarity
score_among n l a b = cond (is_pair n l a b) (score l a b) (pos 0)

-- as a pair, which "carries either a score or the mark unscored" (document 02, 2.2)
unfoldable pub pair_among : ℕ → List ℤ → (a b : ℕ) → Pair
pair_among n l a b = pair_of (score_among n l a b)

-- in C, where no score must differ from a score of 0: 0 is answered, and the pair's number in the list goes to a slot;
-- or the refusal's number is answered
pub record ScoreInC (n : ℕ) (l : List ℤ) (a b : ℕ) (lent r after : ℤ) : Type 0 where
  pub answered : r ≡ pos (score_refusal n l a b)
  pub written : after ≡ cond (eqb (score_refusal n l a b) 0) (list_number (pair_of (score l a b))) lent

-- The smallest group that two entries share (document 02, 2.1): the search goes down the sets that the numbers call
-- puts, "in its written order", and "Its answer is the set and its line".
unfoldable pub shared_found : ℤ → ℕ → List ℤ → (i j : ℕ) → Hit
shared_found kind n l i j = smallest_shared n i j (sets_found kind n l)

pub record SharedCall (kind : ℤ) (n : ℕ) (l : List ℤ) (i j : ℕ) (r : Shared) : Type 0 where
  pub answered : Answered (shared_refusal kind n l i j) (shared_found kind n l i j) r

-- in C: the line is answered as a count is, a refusal as minus its number; the set goes to a slot, on refusal too
unfoldable pub line_answer : Shared → Answer
line_answer (Ok found) = Ok found.line
line_answer (Err refusal) = Err refusal

pub record SharedInC (kind : ℤ) (n : ℕ) (l : List ℤ) (i j : ℕ) (r : ℤ) (set : ℕ) : Type 0 where
  pub given : Shared
  pub outcome : SharedCall kind n l i j given
  pub answered : r ≡ c_number (line_answer given)
  pub written : set ≡ shared_set given

-- The pool of two sheets (document 02, 2.4), which "is written as a sheet": its length, and the pool in the first
-- bytes.
pub record PoolCall (first second lent : List ℕ) (r : Answer) (after : List ℕ) : Type 0 where
  pub answered : Answered (pool_refusal first second (length lent)) (length (pool_text first second)) r
  pub written : after ≡ slots (pool_refusal first second (length lent)) (pool_text first second) lent

-- The refined weight of a split (document 02, 2.5), of which "one side as a set" is handed in.
pub record RefinedCall (n : ℕ) (l : List ℤ) (A : ℕ) (r : Refined) : Type 0 where
  pub answered : Answered (refined_refusal n l A) (refined_weight n (score l) A) r

-- in C, since a weight may be negative: the refusal's number is answered, 0 for none, and the weight goes to a slot, on
-- refusal too
pub record RefinedInC (n : ℕ) (l : List ℤ) (A : ℕ) (r weight : ℤ) : Type 0 where
  pub given : Refined
  pub outcome : RefinedCall n l A given
  pub answered : r ≡ pos (number_of given)
  pub written : weight ≡ answered_weight given

-- The value reader: "a value is read with the place after it, or the line is refused". What is read is the piece of the
-- line that starts at a place, whatever the place: behind the line's end the piece is empty, and no cell.
unfoldable pub piece_at : ℕ → List ℕ → ℕ → List ℕ
piece_at c s at = get_or (cut c (drop at s)) 0 []

pub record ValueCall (line : List ℕ) (at : ℕ) (r : ValueRead) : Type 0 where
  pub number : number_of r ≡ cond (is_cell (piece_at space line at)) 0 8
  pub pair : read_pair r ≡ cond (is_cell (piece_at space line at)) (pair_said (piece_at space line at))
      (record { carries = Scored (pos 0) })
  pub place : read_place r ≡ cond (is_cell (piece_at space line at)) (at + length (piece_at space line at)) 0
