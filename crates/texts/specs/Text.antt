-- What the readers of a text answer and write, by the definition's moves and readings.
use Rattle.std.specs.Prelude.{ℕ, ◌+◌, ◌≤◌, ◌<◌, ◌^◌, ◌≡◌, Bool, true, false, ◌||◌, List, [], ltb, length}
use Rattle.definition.specs.Numbers.{bodies_too_long}
use Rattle.definition.specs.Chars.{part, next}
use Rattle.definition.specs.Escapes.{Naming, Fault, fault, Read, got, refused}
use Rattle.definition.specs.Body.{Move, goes, stops, calls, ends, string_move, string_n, text_move, enough}
use Rattle.marks.specs.Marks.{refusal, fault_of}
use Rattle.plain.specs.Plain.{plain_end}
use Rattle.buffers.specs.Over.{over}
use Rattle.texts.specs.declared.Piece.{Piece}
use Rattle.texts.specs.declared.Piece.TheVariants.{On, Field, Over, Refused}
use Rattle.texts.specs.declared.Reached.{Reached}
use Rattle.texts.specs.declared.Text.{Text}
use Rattle.texts.specs.declared.Text.TheVariants.{Done, Refused as Not}
use Rattle.texts.specs.declared.Run.{Run}
use Rattle.texts.specs.declared.Run.TheVariants.{Field as AtField, Over as AtEnd, Refused as RunRefused}

-- a body or a used length with which no text is read
abbrev pub too_large : List ℕ → ℕ → Bool
too_large s used = ltb 1048576 (length s) || ltb 4294967296 used

-- and those with which no sum wraps
abbrev pub Room : List ℕ → ℕ → Type 0
Room s used = (length s ≤ 1048576) × (used ≤ 2 ^ 33)

-- a character stands at i, and j is after it
abbrev pub Taken : List ℕ → ℕ → ℕ → Type 0
Taken s i j = (i < length s) × (j ≡ next s i)

-- the move of a character at i, from an empty text: the buffer before and after it, and the answer
abbrev pub Does : Move (List ℕ) → List ℕ → ℕ → ℕ → List ℕ → List ℕ → Piece → Type 0
Does (goes j t) s i used text text' r = (r ≡ On (record { at = j }) (used + length t)) × (text' ≡ over text used t)
Does (stops x) s i used text text' r = (r ≡ Refused (refusal x)) × (text' ≡ text)
Does calls s i used text text' r = (r ≡ Field (record { at = next s i })) × (text' ≡ text)
Does ends s i used text text' r = (r ≡ Over) × (text' ≡ text)

-- the plain bytes from i on are written: the buffer before and after it, and the answer
abbrev pub PlainIs : ℕ → List ℕ → ℕ → ℕ → List ℕ → List ℕ → Reached → Type 0
PlainIs kind s i used text text' r =
    (r.cursor.at ≡ plain_end kind s i)
    × (r.used ≡ used + length (part s i r.cursor.at))
    × (text' ≡ over text used (part s i r.cursor.at))

-- the moves of the definition lead from a place and a text to another; since each is a function of them, to no two where it stops
pub data Leads (mover : ℕ → List ℕ → Move (List ℕ)) (i : ℕ) (t : List ℕ) : ℕ → List ℕ → Type 0 where
  here : Leads mover i t i t
  more : {j : ℕ} {u : List ℕ} {k : ℕ} {v : List ℕ} → Leads mover i t j u → mover j u ≡ goes k v → Leads mover i t k v

-- a text was read from `from` up to i and written
pub record Upto (mover : ℕ → List ℕ → Move (List ℕ)) (from used : ℕ) (text text' : List ℕ) (i end : ℕ) : Type 0 where
  pub content : List ℕ
  pub leads : Leads mover from [] i content
  pub wrote : text' ≡ over text used content
  pub ended : end ≡ used + length content

-- and stops there, by the move m
pub record Stops (mover : ℕ → List ℕ → Move (List ℕ)) (m : Move (List ℕ)) (from used : ℕ) (text text' : List ℕ) (i end : ℕ) : Type 0 where
  pub upto : Upto mover from used text text' i end
  pub move : mover i upto.content ≡ m

-- or at a place where it is refused: what was read before is written
pub record Halts (mover : ℕ → List ℕ → Move (List ℕ)) (x : Fault) (from used : ℕ) (text text' : List ℕ) : Type 0 where
  pub place : ℕ
  pub end : ℕ
  pub stops : Stops mover (Move.stops x) from used text text' place end

-- one statement, or another
abbrev pub Whether : Bool → Type 0 → Type 0 → Type 0
Whether true A B = A
Whether false A B = B

-- a string's or bytes' reading: the buffer before and after it, and the answer
abbrev pub StringBy : (look : Naming) → ℕ → List ℕ → Read (List ℕ) → ℕ → List ℕ → List ℕ → Text → Type 0
StringBy look kind s (got t j) used text text' r = (r ≡ Done (used + length t)) × (text' ≡ over text used t)
StringBy look kind s (refused x) used text text' r = (r ≡ Not (refusal x)) × Halts (string_move look kind s) x 0 used text text'

-- a string was begun: read from its front up to i, at a used length from which no sum wraps
pub record Begun (look : Naming) (kind : ℕ) (s text : List ℕ) (i end : ℕ) : Type 0 where
  pub used : ℕ
  pub lent : List ℕ
  pub few : used ≤ 2 ^ 32
  pub upto : Upto (string_move look kind s) 0 used lent text i end

-- however it was begun, the reading from i on ends it: the buffer before and after it, and the answer
abbrev pub FromIs : (look : Naming) → ℕ → List ℕ → ℕ → ℕ → List ℕ → List ℕ → Text → Type 0
FromIs look kind s i end text text' r =
    (used : ℕ) (lent : List ℕ) → Upto (string_move look kind s) 0 used lent text i end → StringBy look kind s (string_n look (enough s) kind s 0 []) used lent text' r

abbrev pub StringIs : (look : Naming) → ℕ → List ℕ → ℕ → List ℕ → List ℕ → Text → Type 0
StringIs look kind s used text text' r =
    Whether (too_large s used)
    ((r ≡ Not (refusal (fault bodies_too_long 0))) × (text' ≡ text))
    (StringBy look kind s (string_n look (enough s) kind s 0 []) used text text' r)

-- f-string text at a depth stops at i, by the move m
abbrev pub StopsBy : (look : Naming) → Move (List ℕ) → ℕ → List ℕ → (depth from used : ℕ) → List ℕ → List ℕ → ℕ → ℕ → Type 0
StopsBy look m kind s depth = Stops (text_move look kind s depth) m

-- it stops at a field, whose `{` stands before k
pub record OpensBefore (look : Naming) (kind : ℕ) (s : List ℕ) (depth from used : ℕ) (text text' : List ℕ) (k end : ℕ) : Type 0 where
  pub brace : ℕ
  pub there : brace < length s
  pub after : k ≡ next s brace
  pub stops : StopsBy look calls kind s depth from used text text' brace end

-- a run of text from `from` on: the buffer before and after it, and the answer
abbrev pub RunBy : (look : Naming) → ℕ → List ℕ → ℕ → ℕ → ℕ → List ℕ → List ℕ → Run → Type 0
RunBy look kind s depth from used text text' (AtField k end) = OpensBefore look kind s depth from used text text' k.at end
RunBy look kind s depth from used text text' (AtEnd k end) = StopsBy look ends kind s depth from used text text' k.at end
RunBy look kind s depth from used text text' (RunRefused x) = Halts (text_move look kind s depth) (fault_of x) from used text text'

abbrev pub RunIs : (look : Naming) → ℕ → List ℕ → ℕ → ℕ → ℕ → List ℕ → List ℕ → Run → Type 0
RunIs look kind s depth from used text text' r =
    Whether (too_large s used)
    ((r ≡ RunRefused (refusal (fault bodies_too_long 0))) × (text' ≡ text))
    (RunBy look kind s depth from used text text' r)
