-- Request 2.4, pooled sheets, said of what the call answers and writes.
use Rattle.std.specs.Prelude.{◌≡◌, ◌⊎◌, ◌≢◌, ◌↔◌, List, [], ◌∷◌, ◌++◌, ℕ, ◌*◌, ◌^◌, ◌<◌, ◌≤◌, ℤ, pos, ◌+ℤ◌, ◌≤ℤ◌}
use Rattle.std.specs.Prelude.{length, get_or, take}
use Rattle.lists.specs.Lists.{◌∈◌}
use Rattle.integers.specs.Range.{Within}
use Rattle.sets.specs.Sets.{◌∋◌}
use Rattle.pairs.specs.declared.Carried.TheVariants.{Scored, Unscored}
use Rattle.pairs.specs.Pairs.{carried}
use Rattle.clusters.specs.Groups.{kind_of, HasLine, written_set}
use Rattle.clusters.specs.declared.Group.{Group}
use Rattle.answers.specs.Answers.{number_of, Answer, count_of}
use Rattle.interface.specs.Sheet.{names, entries, value, pairs}
use Rattle.interface.specs.Pool.{pool_text}
use Rattle.interface.specs.Calls.{PoolCall}
use Rattle.demands.specs.Sentences.{InPoints, word_at, ShortFor}
use Rattle.demands.specs.Tables.{Table, NoneGiven, scores_table}
use Rattle.demands.specs.TurnedAway.{JudgedBy}
use Rattle.demands.specs.Written.{Beyond}
use Rattle.demands.specs.Demands.{Wrote}

-- entry i of one sheet and entry j of the other have the same name
pub record SameName (first second : List ℕ) (i j : ℕ) : Type 0 where
  pub here : i < entries first
  pub there : j < entries second
  pub same : get_or (names first) i [] ≡ get_or (names second) j []

-- 17: "the two name sets differ": not every name of one sheet is on the other
pub record SameNames (first second : List ℕ) : Type 0 where
  pub there : (w : List ℕ) → w ∈ names first → w ∈ names second
  pub back : (w : List ℕ) → w ∈ names second → w ∈ names first

-- 18: "a sum out of range", of the numbers that two names have on either sheet
pub record SumBeyond (first second : List ℕ) : Type 0 where
  pub i : ℕ
  pub j : ℕ
  pub i' : ℕ
  pub j' : ℕ
  pub one : SameName first second i i'
  pub other : SameName first second j j'
  pub y : ℤ
  pub z : ℤ
  pub here : InPoints (word_at first i j) y
  pub there : InPoints (word_at second i' j') z
  pub out : Within (2 * 1000000) (y +ℤ z) → ⊥

-- "The first sheet passes 2 to 9 and 11, then the second; after them 17 means the two name sets differ, 18 a sum out of
-- range, and 14 a short buffer."
abbrev pub both_table : (first second : List ℕ) → (buffer : ℕ) → Table
both_table first second buffer =
    (17, SameNames first second → ⊥)
    ∷ (18, SumBeyond first second)
    ∷ (14, ShortFor (pool_text first second) buffer)
    ∷ []

abbrev pub pool_table : (first second : List ℕ) → (buffer : ℕ) → Table
pool_table first second buffer = scores_table first ++ (scores_table second ++ both_table first second buffer)

-- the pool that a call wrote: as many bytes as it answers, if it did not refuse
pub data Pooled (first second : List ℕ) : (bytes : List ℕ) → Type 0 where
  by_pool_call : {lent after : List ℕ} {r : Answer} → PoolCall first second lent r after
      → number_of r ≡ 0 → Pooled first second (take (count_of r) after)

-- "a set of names": a set of entries of one sheet, and that of the entries of the other with the same names
pub record SameSet (first second : List ℕ) (A B : ℕ) : Type 0 where
  pub here : A < 2 ^ entries first
  pub there : B < 2 ^ entries second
  pub same : (i j : ℕ) → SameName first second i j → (A ∋ i) ↔ (B ∋ j)

pub record Request2_4 : Type 0 where
  -- each number is given if and only if its line holds and none before it does; nothing is then written
  pub judged : {first second lent after : List ℕ} {r : Answer} → PoolCall first second lent r after
      → JudgedBy (pool_table first second (length lent)) r lent after
  -- "answers its length and touches only its bytes"
  pub own_bytes : {first second lent after : List ℕ} {r : Answer} → PoolCall first second lent r after
      → number_of r ≡ 0 → (length (take (count_of r) after) ≡ count_of r) × Beyond (count_of r) lent after
  -- "and 14 a short buffer": one shorter than the pool that another call wrote; any other has room
  pub room : {first second lent after bytes : List ℕ} {r : Answer} → PoolCall first second lent r after
      → Pooled first second bytes → (length lent < length bytes → number_of r ≡ 14)
      × (length bytes ≤ length lent → (number_of r ≡ 0) × (count_of r ≡ length bytes))
  -- a buffer of 10,528 bytes never is
  pub never_short : {first second lent after : List ℕ} {r : Answer} → PoolCall first second lent r after
      → 10528 ≤ length lent → number_of r ≢ 14
  -- "The pool is written as a sheet": one that passes 2 to 9 and 11
  pub a_sheet : {first second bytes : List ℕ} → Pooled first second bytes → NoneGiven (scores_table bytes)
  -- "the names stand in the first sheet's order", and each is on the second
  pub its_names : {first second bytes : List ℕ} → Pooled first second bytes
      → (names bytes ≡ names first) × SameNames first second
  -- "each score is the sum"
  pub sums : {first second bytes : List ℕ} → Pooled first second bytes
      → (i i' j j' : ℕ) → SameName first second i i' → SameName first second j j' → (y z : ℤ)
      → carried (value first i j) ≡ Scored y → carried (value second i' j') ≡ Scored z
      → carried (value bytes i j) ≡ Scored (y +ℤ z)
  -- "A pair unscored in either is unscored in the pool."
  pub unscored : {first second bytes : List ℕ} → Pooled first second bytes
      → (i i' j j' : ℕ) → SameName first second i i' → SameName first second j j'
      → (carried (value first i j) ≡ Unscored) ⊎ (carried (value second i' j') ≡ Unscored)
      → carried (value bytes i j) ≡ Unscored
  -- "whatever the second's": another order of the second's names gives the same bytes
  pub any_order : {first second second' bytes bytes' : List ℕ}
      → Pooled first second bytes → Pooled first second' bytes'
      → ((i i' j j' : ℕ) → SameName second second' i i' → SameName second second' j j'
      → value second' i' j' ≡ value second i j) → bytes' ≡ bytes
  -- "a set of names strong in both is strong in the pool, with an index no smaller than the two added": of all that a
  -- call wrote for the two sheets and for the pool, with unscored pairs too
  pub strong_in_both : {first second bytes : List ℕ} → Pooled first second bytes → {found found' pool : List Group}
      → Wrote (pos 1) (entries first) (pairs first) found
      → Wrote (pos 1) (entries second) (pairs second) found'
      → Wrote (pos 1) (entries bytes) (pairs bytes) pool
      → (A B : ℕ) → SameSet first second A B → (y z : ℤ) → HasLine found A y → HasLine found' B z
      → (x : ℤ) × HasLine pool A x × ((y +ℤ z) ≤ℤ x)
  -- the pool of the sheets the other way round has the same groups and splits, with the same indices
  pub turned : {first second bytes bytes' : List ℕ} → Pooled first second bytes → Pooled second first bytes'
      → {kind : ℤ} {found found' : List Group}
      → Wrote kind (entries bytes) (pairs bytes) found → Wrote kind (entries bytes') (pairs bytes') found'
      → (A B : ℕ) → SameSet bytes bytes' A B → (z : ℤ)
      → HasLine found (written_set (kind_of kind) (entries bytes) A) z
      ↔ HasLine found' (written_set (kind_of kind) (entries bytes') B) z
