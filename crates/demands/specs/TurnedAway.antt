-- Each call of document 01 answers the number that its table in words gives; the requests' calls are in
-- their files of requests/specs. And the name of an entry, which has no number, and a value that is read.
use Rattle.std.specs.Prelude.{◌≡◌, ◌↔◌, List, [], ◌∷◌, ℕ, ◌+◌, ◌<◌, ◌≤◌, ℤ, pos, neg_ℤ, length, get_or, take, drop}
use Rattle.pairs.specs.declared.Carried.{Carried}
use Rattle.pairs.specs.declared.Carried.TheVariants.{Scored}
use Rattle.clusters.specs.Linkage.{Linkage}
use Rattle.answers.specs.Answers.{number_of, Answer, count_of}
use Rattle.answers.specs.Values.{ValueRead, read_pair, read_place}
use Rattle.interface.specs.Sheet.{names, entries}
use Rattle.interface.specs.Calls.{SheetCall, InC, NumbersCall, LinkageCall, AnchoredCall, BackCall}
use Rattle.interface.specs.Calls.{ReaderCall, NameCall, NameInC, ScoreInC, ValueCall}
use Rattle.demands.specs.Sentences.{CellSays, Cell, count, Pieces, Parted}
use Rattle.demands.specs.Tables.{
  Table,
  NoneGiven,
  Judged,
  reader_table,
  sheet_table,
  numbers_table,
  linkage_table,
  anchored_table,
  back_table,
  score_table,
}

-- "The name of an entry is handed back as its own part of the sheet; the answer is the empty part if checks 2 to 9
-- refuse the sheet or the entry number, counted from 0, is n or more." Its own: there it stands, and before it are i
-- spaces and no line feed.
pub record NameHanded (sheet : List ℕ) (i : ℕ) (part : List ℕ) (start : ℕ) : Type 0 where
  pub name : NoneGiven (reader_table sheet) → i < entries sheet
      → (part ≡ get_or (names sheet) i []) × (take (length part) (drop start sheet) ≡ part)
      × (count 32 (take start sheet) ≡ i) × (count 10 (take start sheet) ≡ 0)
  pub refused : (NoneGiven (reader_table sheet) → ⊥) → (part ≡ []) × (start ≡ 0)
  pub past : entries sheet ≤ i → (part ≡ []) × (start ≡ 0)

-- "a value is read with the place after it, or the line is refused": the value is the piece from a place of the line to
-- the next space or the line's end; a refusal is 8, and reads a score of 0
pub record ValueHanded (line : List ℕ) (at : ℕ) (r : ValueRead) : Type 0 where
  pub piece : List ℕ
  pub others : List (List ℕ)
  pub parted : Pieces 32 (drop at line) (piece ∷ others)
  pub value : (c : Carried) → CellSays piece c
      → (number_of r ≡ 0) × (read_pair r ≡ record { carries = c }) × (read_place r ≡ at + length piece)
  pub refused : (Cell piece → ⊥)
      → (number_of r ≡ 8) × (read_pair r ≡ record { carries = Scored (pos 0) }) × (read_place r ≡ 0)

-- "answers the listing's length in bytes, or minus the refusal number": the number in C of an answer with this
-- refusal's number, 0 for none, and this count. It determines both.
pub record NumberInC (number count : ℕ) (r : ℤ) : Type 0 where
  pub counted : (c : ℕ) → (r ≡ pos c) ↔ ((number ≡ 0) × (count ≡ c))
  pub refused : (k : ℕ) → 0 < k → (r ≡ neg_ℤ (pos k)) ↔ (number ≡ k)

-- a call that answers a count and writes to one slice lent: refused, it writes nothing and counts 0
abbrev pub JudgedBy : Table → Answer → {A : Type 0} → (lent after : List A) → Type 0
JudgedBy table r lent after = Judged table (number_of r) ((after ≡ lent) × (count_of r ≡ 0))

pub record TurnedAway : Type 1 where
  -- what the sentences speak of: the lines, names and values of a sheet by its bytes, in one way
  pub parted : (sheet : List ℕ) → Parted sheet
  pub one_way : {c : ℕ} {text : List ℕ} {v w : List (List ℕ)} → Pieces c text v → Pieces c text w → v ≡ w
  -- each call; the C call is in `Demand1`
  pub sheet_call : {kind : ℤ} {sheet lent after : List ℕ} {r : Answer} → SheetCall kind sheet lent r after
      → JudgedBy (sheet_table kind sheet (length lent)) r lent after
  pub reader : {sheet : List ℕ} {lent after : List ℤ} {r : Answer} → ReaderCall sheet lent r after
      → JudgedBy (reader_table sheet) r lent after
  pub numbers_call : {kind : ℤ} {n : ℕ} {l lent_indices indices : List ℤ} {lent_sets sets : List ℕ} {r : Answer}
      → NumbersCall kind n l lent_sets lent_indices r sets indices
      → Judged (numbers_table kind n l (length lent_sets) (length lent_indices)) (number_of r)
      ((sets ≡ lent_sets) × (indices ≡ lent_indices) × (count_of r ≡ 0))
  pub linkage_call : {linkage : Linkage} {n : ℕ} {l : List ℤ} {lent after : List ℕ} {r : Answer}
      → LinkageCall linkage n l lent r after → JudgedBy (linkage_table n l (length lent)) r lent after
  pub anchored_call : {n x : ℕ} {l lent after : List ℤ} {r : Answer} → AnchoredCall n x l lent r after
      → JudgedBy (anchored_table n x l (length lent)) r lent after
  pub back_call : {n x : ℕ} {l lent after : List ℤ} {r : Answer} → BackCall n x l lent r after
      → JudgedBy (back_table n x l (length lent)) r lent after
  -- and each of these in C: its number is that of an answer of which the call's outcome holds; so what is said of every
  -- answer of a call is said of its number in C
  pub in_C : {Outcome : Answer → Type 0} {r : ℤ} → InC Outcome r
      → (a : Answer) × Outcome a × NumberInC (number_of a) (count_of a) r
  -- those that answer otherwise: a score in C, a name, and a value
  pub score_in_C : {n : ℕ} {l : List ℤ} {i j : ℕ} {lent r after : ℤ} → ScoreInC n l i j lent r after
      → (number : ℕ) × (r ≡ pos number) × Judged (score_table n l i j) number (after ≡ lent)
  pub name_call : {sheet part : List ℕ} {at place : ℕ × ℕ} {i : ℕ} → NameCall sheet at i part place
      → (start : ℕ) × NameHanded sheet i part start × (place ≡ (at.0, start + at.1))
  pub name_in_C : {sheet : List ℕ} {i r start : ℕ} → NameInC sheet i r start
      → NameHanded sheet i (take r (drop start sheet)) start × (length (take r (drop start sheet)) ≡ r)
  pub value_call : {line : List ℕ} {at : ℕ} {r : ValueRead} → ValueCall line at r → ValueHanded line at r
