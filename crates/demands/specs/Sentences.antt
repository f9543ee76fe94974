-- The sentences of the refusal table (document 01, Where a call is turned away), in words: of bytes, lengths, line
-- feeds counted, pieces between separators, and numbers with their bounds. No check of interface/specs/Refusals is
-- named here. What only a request's call checks is said in its file of requests/specs.
use Rattle.std.specs.Prelude.{◌≡◌, ◌⊎◌, ◌≢◌, List, [], ◌∷◌, ◌++◌, ℕ, suc, ◌+◌, ◌*◌, ◌/◌, ◌<◌, ◌≤◌, ℤ, pos, neg_ℤ, ◌≤ℤ◌}
use Rattle.std.specs.Prelude.{eqb, length, get_or}
use Rattle.lists.specs.Lists.{◌∈◌, keep}
use Rattle.integers.specs.Range.{Within}
use Rattle.pairs.specs.declared.Carried.{Carried}
use Rattle.pairs.specs.declared.Carried.TheVariants.{Scored, Unscored}
use Rattle.clusters.specs.Farris.{anchored_scores}
use Rattle.interface.specs.Sheet.{lines, names, entries, words}

-- "A to Z"; "0 to 9"
abbrev pub Upper : ℕ → Type 0
Upper b = (65 ≤ b) × (b ≤ 90)

abbrev pub Digit : ℕ → Type 0
Digit b = (48 ≤ b) × (b ≤ 57)

-- "A name is 1 to 8 bytes, first A to Z, then A to Z or 0 to 9."
pub record Name (w : List ℕ) : Type 0 where
  pub bytes : (1 ≤ length w) × (length w ≤ 8)
  pub first : Upper (get_or w 0 0)
  pub others : (b : ℕ) → b ∈ w → Upper b ⊎ Digit b

-- "decimal digits, without a leading zero unless it is `0`", and the number that they say
pub data DecimalSays : (bytes : List ℕ) → (n : ℕ) → Type 0 where
  one_digit : (d : ℕ) → d < 10 → DecimalSays ((48 + d) ∷ []) d
  one_more : {w : List ℕ} {n : ℕ} → DecimalSays w n → 0 < n → (d : ℕ) → d < 10
      → DecimalSays (w ++ ((48 + d) ∷ [])) (10 * n + d)

-- what the bytes of a value or an index say, counted in half points: "an optional minus" and digits; "`-0` is
-- ill-formed". "A value may end in `.5` .. and `-0.5` is well formed." (document 02, 2.6)
pub data InPoints : (bytes : List ℕ) → (halves : ℤ) → Type 0 where
  whole : {w : List ℕ} {n : ℕ} → DecimalSays w n → InPoints w (pos (n + n))
  half : {w : List ℕ} {n : ℕ} → DecimalSays w n → InPoints (w ++ (46 ∷ 53 ∷ [])) (pos (n + n + 1))
  minus_whole : {w : List ℕ} {n : ℕ} → DecimalSays w n → 0 < n → InPoints (45 ∷ w) (neg_ℤ (pos (n + n)))
  minus_half : {w : List ℕ} {n : ℕ} → DecimalSays w n
      → InPoints (45 ∷ (w ++ (46 ∷ 53 ∷ []))) (neg_ℤ (pos (n + n + 1)))

-- what stands where a value may stand: half points, with at most 7 digits before the point, or the mark, "a lone minus"
-- (document 02, 2.2)
pub data CellSays : (bytes : List ℕ) → Carried → Type 0 where
  points : {w : List ℕ} {z : ℤ} → InPoints w z → Within 19999999 z → CellSays w (Scored z)
  lone_minus : CellSays (45 ∷ []) Unscored

abbrev pub Cell : (bytes : List ℕ) → Type 0
Cell w = (c : Carried) × CellSays w c

-- how often a byte stands in a text
abbrev pub count : (c : ℕ) → List ℕ → ℕ
count c s = length (keep (λ b. eqb b c) s)

-- the pieces of a text between the bytes that equal c: none of them has that byte
pub data Pieces (c : ℕ) : (text : List ℕ) → (pieces : List (List ℕ)) → Type 0 where
  last_piece : {w : List ℕ} → (c ∈ w → ⊥) → Pieces c w (w ∷ [])
  first_piece : {w rest : List ℕ} {ws : List (List ℕ)} → (c ∈ w → ⊥) → Pieces c rest ws
      → Pieces c (w ++ (c ∷ rest)) (w ∷ ws)

-- "Line 1 holds the n entry names, single spaces between. Then n lines of n values": the lines, the names, n and the
-- values, by the bytes of the sheet
pub record Parted (sheet : List ℕ) : Type 0 where
  pub by_feeds : Pieces 10 sheet (lines sheet)
  pub by_spaces : Pieces 32 (get_or (lines sheet) 0 []) (names sheet)
  pub number : entries sheet ≡ length (names sheet)
  pub values_by_spaces : (i : ℕ) → Pieces 32 (get_or (lines sheet) (suc i) []) (words sheet i)

-- row i, column j of a sheet's values, as it is written
abbrev pub word_at : (sheet : List ℕ) → (i j : ℕ) → List ℕ
word_at sheet i j = get_or (words sheet i) j []

-- 1: "not 1, 2 or 3"
abbrev pub NoKind : ℤ → Type 0
NoKind kind = (kind ≢ pos 1) × (kind ≢ pos 2) × (kind ≢ pos 3)

-- 2: "0 bytes, or over 12,288"
abbrev pub NoneOrTooMany : List ℕ → Type 0
NoneOrTooMany sheet = (length sheet ≡ 0) ⊎ (12288 < length sheet)

-- 3: "a byte that is not A to Z, 0 to 9, minus, space or line feed"; "the point joins" them (document 02, 2.6)
pub record OtherByte (sheet : List ℕ) : Type 0 where
  pub byte : ℕ
  pub there : byte ∈ sheet
  pub no_upper : Upper byte → ⊥
  pub no_digit : Digit byte → ⊥
  pub none_of_four : (byte ≢ 45) × (byte ≢ 46) × (byte ≢ 32) × (byte ≢ 10)

-- 4: "no line feed, or not one or more names as above"
abbrev pub NoNames : List ℕ → Type 0
NoNames sheet = (10 ∈ sheet → ⊥) ⊎ ((w : List ℕ) × (w ∈ names sheet) × (Name w → ⊥))

-- 5: "two equal names"
pub record TwoEqual (ns : List (List ℕ)) : Type 0 where
  pub i : ℕ
  pub j : ℕ
  pub apart : i < j
  pub there : j < length ns
  pub same : get_or ns i [] ≡ get_or ns j []

-- 6: "n is 0 or over 32"
abbrev pub NoneOrOver32 : ℕ → Type 0
NoneOrOver32 n = (n ≡ 0) ⊎ (32 < n)

-- 7: after line 1 "not n line feeds, or the last byte is none"
abbrev pub EndsInFeed : List ℕ → Type 0
EndsInFeed sheet = (front : List ℕ) × (sheet ≡ front ++ (10 ∷ []))

abbrev pub NotSoManyLines : List ℕ → Type 0
NotSoManyLines sheet = (count 10 sheet ≢ suc (entries sheet)) ⊎ (EndsInFeed sheet → ⊥)

-- 8: "a line without exactly n well-formed values and single spaces between"
pub record IllFormed (sheet : List ℕ) : Type 0 where
  pub i : ℕ
  pub line : i < entries sheet
  pub ill : (length (words sheet i) ≢ entries sheet) ⊎ ((w : List ℕ) × (w ∈ words sheet i) × (Cell w → ⊥))

-- 9: "two mirrored values differ"; "Mirrored cells must both have" the mark (document 02, 2.2)
pub record MirroredDiffer (sheet : List ℕ) : Type 0 where
  pub i : ℕ
  pub j : ℕ
  pub here : (i < entries sheet) × (j < entries sheet)
  pub one : Carried
  pub other : Carried
  pub says : CellSays (word_at sheet i j) one
  pub mirrored_says : CellSays (word_at sheet j i) other
  pub differ : one ≢ other

-- 11, of a sheet: "a value below −1,000,000 or above 1,000,000", in points; the mark is "exempt" (document 02, 2.2)
pub record PointsOut (sheet : List ℕ) : Type 0 where
  pub i : ℕ
  pub j : ℕ
  pub here : (i < entries sheet) × (j < entries sheet)
  pub z : ℤ
  pub says : InPoints (word_at sheet i j) z
  pub out : Within (2 * 1000000) z → ⊥

-- 16: "a sheet with an unscored pair" (document 02, 2.2)
pub record Unmeasured (sheet : List ℕ) : Type 0 where
  pub i : ℕ
  pub j : ℕ
  pub here : (i < entries sheet) × (j < entries sheet)
  pub lone_minus : word_at sheet i j ≡ 45 ∷ []

-- 12, of a sheet: "a negative value, or an own value that is not 0"
pub record NoDistance (sheet : List ℕ) : Type 0 where
  pub i : ℕ
  pub j : ℕ
  pub here : (i < entries sheet) × (j < entries sheet)
  pub z : ℤ
  pub says : InPoints (word_at sheet i j) z
  pub wrong : (pos 0 ≤ℤ z → ⊥) ⊎ ((i ≡ j) × (z ≢ pos 0))

-- 14: "the listing has more bytes than the buffer"
abbrev pub ShortFor : (text : List ℕ) → (buffer : ℕ) → Type 0
ShortFor text buffer = buffer < length text

-- Of a pair list. 10: "length is not n(n+1)/2"
abbrev pub OtherLength : ℕ → List ℤ → Type 0
OtherLength n l = length l ≢ n * (n + 1) / 2

-- the mark "in the pair list .. is −2,147,483,648" (document 02, 2.2)
abbrev pub mark_number : ℤ
mark_number = neg_ℤ (pos 2147483648)

-- 11: "a value below −1,000,000 or above 1,000,000", in points; the mark is "exempt"
pub record BeyondMillion (l : List ℤ) : Type 0 where
  pub number : ℤ
  pub there : number ∈ l
  pub no_mark : number ≢ mark_number
  pub out : Within (2 * 1000000) number → ⊥

-- 16
abbrev pub HasMark : List ℤ → Type 0
HasMark l = mark_number ∈ l

-- row i, column j of the lower triangle
abbrev pub lower : List ℤ → (i j : ℕ) → ℤ
lower l i j = get_or l (i * (i + 1) / 2 + j) (pos 0)

-- 12: "a negative value, or an own value that is not 0"
abbrev pub NoDistances : ℕ → List ℤ → Type 0
NoDistances n l = ((z : ℤ) × (z ∈ l) × (pos 0 ≤ℤ z → ⊥)) ⊎ ((i : ℕ) × (i < n) × (lower l i i ≢ pos 0))

-- 13: "either has fewer than 2n slots"
abbrev pub FewerThan2n : ℕ → (sets indices : ℕ) → Type 0
FewerThan2n n sets indices = (sets < 2 * n) ⊎ (indices < 2 * n)

-- 15: "an anchor of n or more; a result slice shorter than the result; in the way back, a list that is not the anchored
-- scores, at that anchor, of any distances passing 11 and 12"
abbrev pub AnchorOrShort : ℕ → (anchor slots : ℕ) → Type 0
AnchorOrShort n x slots = (n ≤ x) ⊎ (slots < n * (n + 1) / 2)

pub record Distances (n : ℕ) (d : List ℤ) : Type 0 where
  pub natural : (z : ℤ) → z ∈ d → pos 0 ≤ℤ z
  pub own : (i : ℕ) → i < n → lower d i i ≡ pos 0

pub record DistanceList (n : ℕ) (d : List ℤ) : Type 0 where
  pub long : length d ≡ n * (n + 1) / 2
  pub range : (z : ℤ) → z ∈ d → Within (2 * 1000000) z
  pub distances : Distances n d

abbrev pub OfNoDistances : ℕ → (anchor : ℕ) → List ℤ → Type 0
OfNoDistances n x l = (d : List ℤ) → DistanceList n d → l ≡ anchored_scores n x d → ⊥

-- "an entry number of n or more" (document 02, 2.1)
abbrev pub NoEntries : ℕ → (i j : ℕ) → Type 0
NoEntries n i j = (n ≤ i) ⊎ (n ≤ j)
