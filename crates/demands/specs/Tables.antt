-- Where a call is turned away (document 01), in words: which call makes which checks, and when a number is given.
use Rattle.std.specs.Prelude.{◌≡◌, ◌⊎◌, ◌≢◌, ◌↔◌, List, [], ◌∷◌, ◌++◌, ℕ, ◌-◌, ◌<◌, ℤ, pos}
use Rattle.interface.specs.Sheet.{names, entries}
use Rattle.interface.specs.Listing.{sheet_listing}
use Rattle.demands.specs.Sentences.{
  NoKind,
  NoneOrTooMany,
  OtherByte,
  NoNames,
  TwoEqual,
  NoneOrOver32,
  NotSoManyLines,
  IllFormed,
  MirroredDiffer,
  PointsOut,
  Unmeasured,
  NoDistance,
  ShortFor,
  OtherLength,
  BeyondMillion,
  HasMark,
  NoDistances,
  FewerThan2n,
  AnchorOrShort,
  OfNoDistances,
  NoEntries,
}

-- "Each number is given if and only if its line holds and none before it does": a number with its sentence, down the
-- table; the number k is given; no number is
abbrev pub Table : Type 1
Table = List (ℕ × Type 0)

abbrev pub GivenFirst : Table → (k : ℕ) → Type 0
GivenFirst [] k = ⊥
GivenFirst ((number, sentence) ∷ table) k = ((number ≡ k) × sentence) ⊎ ((sentence → ⊥) × GivenFirst table k)

abbrev pub NoneGiven : Table → Type 0
NoneGiven [] = Unit {0}
NoneGiven ((number, sentence) ∷ table) = (sentence → ⊥) × NoneGiven table

-- of a call: the number that it answers, 0 for none, and what a refusal leaves: "Nothing lent is then written; the
-- count and length are 0"
pub record Judged (table : Table) (number : ℕ) (Nothing : Type 0) : Type 0 where
  pub refused : (k : ℕ) → 0 < k → (number ≡ k) ↔ GivenFirst table k
  pub taken : (number ≡ 0) ↔ NoneGiven table
  pub nothing : number ≢ 0 → Nothing

-- Parts that several calls have. Of a sheet: "if checks 2 to 9 refuse the sheet"; and with 11
abbrev pub reader_table : List ℕ → Table
reader_table sheet =
    (2, NoneOrTooMany sheet)
    ∷ (3, OtherByte sheet)
    ∷ (4, NoNames sheet)
    ∷ (5, TwoEqual (names sheet))
    ∷ (6, NoneOrOver32 (entries sheet))
    ∷ (7, NotSoManyLines sheet)
    ∷ (8, IllFormed sheet)
    ∷ (9, MirroredDiffer sheet)
    ∷ []

abbrev pub scores_table : List ℕ → Table
scores_table sheet = reader_table sheet ++ ((11, PointsOut sheet) ∷ [])

-- of a pair list: 6 and 10; with 11; with 16 "right after 11" (document 02, 2.2); with 12, "judged as kind 3"
abbrev pub length_table : (n : ℕ) → List ℤ → Table
length_table n l = (6, NoneOrOver32 n) ∷ (10, OtherLength n l) ∷ []

abbrev pub pair_table : (n : ℕ) → List ℤ → Table
pair_table n l = length_table n l ++ ((11, BeyondMillion l) ∷ [])

abbrev pub scored_table : (n : ℕ) → List ℤ → Table
scored_table n l = pair_table n l ++ ((16, HasMark l) ∷ [])

abbrev pub distance_table : (n : ℕ) → List ℤ → Table
distance_table n l = scored_table n l ++ ((12, NoDistances n l) ∷ [])

-- of a kind and a pair list
abbrev pub kind_table : (kind : ℤ) (n : ℕ) → List ℤ → Table
kind_table kind n l = (16, (kind ≢ pos 1) × HasMark l) ∷ (12, (kind ≡ pos 3) × NoDistances n l) ∷ []

-- The calls. "The sheet and C calls make checks 1 to 9, 11, 12, 14"
abbrev pub sheet_table : (kind : ℤ) → List ℕ → (buffer : ℕ) → Table
sheet_table kind sheet buffer =
    ((1, NoKind kind) ∷ scores_table sheet)
    ++ ((16, (kind ≢ pos 1) × Unmeasured sheet) ∷ (12, (kind ≡ pos 3) × NoDistance sheet) ∷ [])
    ++ ((14, ShortFor (sheet_listing kind sheet) buffer) ∷ [])

-- "the numbers call 1, 6, 10 to 13"
abbrev pub numbers_table : (kind : ℤ) (n : ℕ) → List ℤ → (sets indices : ℕ) → Table
numbers_table kind n l sets indices =
    ((1, NoKind kind) ∷ pair_table n l) ++ kind_table kind n l ++ ((13, FewerThan2n n sets indices) ∷ [])

-- "the linkage calls 6, 10, 11, 15"; the result has n − 1 blocks
abbrev pub linkage_table : (n : ℕ) → List ℤ → (slots : ℕ) → Table
linkage_table n l slots = scored_table n l ++ ((15, slots < n - 1) ∷ [])

-- "the anchored scores 6, 10, 11, 12, 15, judged as kind 3"
abbrev pub anchored_table : (n anchor : ℕ) → List ℤ → (slots : ℕ) → Table
anchored_table n x l slots = distance_table n l ++ ((15, AnchorOrShort n x slots) ∷ [])

-- "the way back 6, 10, 15"
abbrev pub back_table : (n anchor : ℕ) → List ℤ → (slots : ℕ) → Table
back_table n x l slots = length_table n l ++ ((15, AnchorOrShort n x slots ⊎ OfNoDistances n x l) ∷ [])

-- of a score looked up in C
abbrev pub score_table : (n : ℕ) → List ℤ → (i j : ℕ) → Table
score_table n l i j = length_table n l ++ ((15, NoEntries n i j) ∷ [])
