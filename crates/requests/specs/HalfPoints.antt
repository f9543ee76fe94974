-- Request 2.6, half points, said of what the calls read and write. `InPoints` and `CellSays` in demands/specs/Sentences
-- are what the bytes of a value say; by them 8, 9, 11 and 12 of a sheet are said.
use Rattle.std.specs.Prelude.{◌≡◌, ◌↔◌, List, [], ◌∷◌, ◌++◌, map, ℕ, ◌*◌, ◌<◌, ◌≤◌, ℤ, pos, neg_ℤ, ◌+ℤ◌, length, get_or}
use Rattle.std.proofs.Math.Option.{some}
use Rattle.pairs.specs.declared.Carried.{Carried}
use Rattle.pairs.specs.declared.Carried.TheVariants.{Scored, Unscored}
use Rattle.pairs.specs.Pairs.{carried}
use Rattle.clusters.specs.PairList.{Similarity, score, score_limit}
use Rattle.clusters.specs.Groups.{kind_of, HasLine}
use Rattle.clusters.specs.declared.Group.{Group}
use Rattle.clusters.specs.Doubled.{Doubles, doubled_group}
use Rattle.answers.specs.Answers.{number_of, Answer, count_of}
use Rattle.interface.specs.Sheet.{entries, value, pairs}
use Rattle.interface.specs.Listing.{Line, group_of, line_words, listing_read}
use Rattle.interface.specs.Calls.{ReaderCall}
use Rattle.demands.specs.Sentences.{DecimalSays, InPoints, CellSays, word_at, lower}
use Rattle.demands.specs.Tables.{NoneGiven, reader_table}
use Rattle.demands.specs.Demands.{Listed, Wrote, Positive}
use Rattle.requests.specs.Pool.{Pooled}
use Rattle.requests.specs.Refined.{Weighs}

-- "A sheet of whole points": no value ends in `.5`
abbrev pub WholePoints : (sheet : List ℕ) → Type 0
WholePoints sheet = (i j : ℕ) → i < entries sheet → j < entries sheet
    → (w : List ℕ) → word_at sheet i j ≡ w ++ (46 ∷ 53 ∷ []) → ⊥

-- what a value said before, in points: "an optional minus and .. decimal digits", or the mark
pub data WholeSays : (bytes : List ℕ) → Carried → Type 0 where
  natural : {w : List ℕ} {n : ℕ} → DecimalSays w n → WholeSays w (Scored (pos n))
  negative : {w : List ℕ} {n : ℕ} → DecimalSays w n → 0 < n → WholeSays (45 ∷ w) (Scored (neg_ℤ (pos n)))
  lone_minus : WholeSays (45 ∷ []) Unscored

-- "gives the listing it gave before", of the lines read back
pub record AsBefore (kind : ℤ) (sheet bytes : List ℕ) (ls : List Line) : Type 0 where
  -- the sheet reads as twice its whole values
  pub whole : Similarity
  pub says : (i j : ℕ) → i < entries sheet → j < entries sheet → WholeSays (word_at sheet i j) (carried (whole i j))
  pub twofold : Doubles (entries sheet) whole (score (pairs sheet))
  -- the sets that are listed are those of positive index of these values, with scores from −1,000,000 to 1,000,000
  pub listed : (A : ℕ) (z : ℤ)
      → HasLine (map group_of ls) A (z +ℤ z) ↔ Positive 1000000 (kind_of kind) (entries sheet) whole A z
  -- and the words of the indices are these whole numbers
  pub words : (i : ℕ) → i < length ls → (m : ℕ) × DecimalSays (get_or (get_or (line_words bytes) i []) 2 []) m
      × (get_or (map (λ l. l.index) ls) i (pos 0) ≡ pos m +ℤ pos m)

pub record Request2_6 : Type 0 where
  -- every number of half points is said by some bytes
  pub every_number : (z : ℤ) → (w : List ℕ) × InPoints w z
  -- in one way, and no other number
  pub one_text : {v w : List ℕ} {z : ℤ} → InPoints v z → InPoints w z → v ≡ w
  pub one_number : {w : List ℕ} {y z : ℤ} → InPoints w y → InPoints w z → y ≡ z
  -- "The value reader now answers in half points, and all that use it follow: the pair list": of every sheet that
  -- passes 2 to 9, and of what the reader writes
  pub cells : (sheet : List ℕ) → NoneGiven (reader_table sheet) → (i j : ℕ) → i < entries sheet → j < entries sheet
      → CellSays (word_at sheet i j) (carried (value sheet i j)) × (score (pairs sheet) i j ≡ value sheet i j)
  pub read : {sheet : List ℕ} {lent after : List ℤ} {r : Answer} → ReaderCall sheet lent r after → number_of r ≡ 0
      → (i j : ℕ) → i < count_of r → j ≤ i → CellSays (word_at sheet i j) (carried (lower after i j))
  -- "the range of 11 is the same in points", for fillings and pools too
  pub range : score_limit ≡ 2 * 1000000
  -- "Indices are written in points, with `.5` where needed": each index read back from a listing; and the pool's scores
  pub indices_in_points : (bytes : List ℕ) {ls : List Line} → listing_read bytes ≡ some ls → (i : ℕ) → i < length ls
      → InPoints (get_or (get_or (line_words bytes) i []) 2 []) (get_or (map (λ l. l.index) ls) i (pos 0))
  pub pool_in_points : {first second bytes : List ℕ} → Pooled first second bytes
      → (i j : ℕ) → i < entries first → j < entries first → CellSays (word_at bytes i j) (carried (value bytes i j))
  -- "A sheet of whole points gives the listing it gave before"
  pub as_before : {kind : ℤ} {sheet bytes : List ℕ} {ls : List Line} → Listed kind sheet bytes → WholePoints sheet
      → listing_read bytes ≡ some ls → AsBefore kind sheet bytes ls
  -- every index of doubled scores is twice the index, and so is every weight
  pub doubled : {kind : ℤ} {n : ℕ} {l l' : List ℤ} {found found' : List Group} → Wrote kind n l found
      → Wrote kind n l' found' → Doubles n (score l) (score l') → found' ≡ map doubled_group found
  pub weight_doubled : {n : ℕ} {l l' : List ℤ} {A : ℕ} {w w' : ℤ} → Weighs n l A w → Weighs n l' A w'
      → Doubles n (score l) (score l') → w' ≡ w +ℤ w
