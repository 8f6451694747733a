-- A field's head as the code reads it, in the definition's terms.
use Rattle.std.specs.Prelude.{ℕ, ◌+◌, ◌*◌, ◌^◌, ◌≤◌, ◌<◌, ◌≡◌, Bool, true, false, ◌&&◌, List, [], ◌++◌, ltb, eqb, length, if◌then◌else◌}
use Rattle.definition.specs.Numbers.{bodies_too_long, empty_expression}
use Rattle.definition.specs.Chars.{byte, part, next}
use Rattle.definition.specs.Escapes.{Naming, fault, refused}
use Rattle.definition.specs.Body.{signs, Move, goes, stops, calls, ends, Field, state, fresh, field_move, field_n, enough}
use Rattle.definition_laws.proofs.Moves.Moves.{field_size}
use Rattle.buffers.specs.Over.{over}
use Rattle.utf8.specs.declared.Cursor.{Cursor}
use Rattle.utf8.proofs.Steps.{Stepped}
use Rattle.marks.specs.declared.Refusal.{Refusal}
use Rattle.marks.specs.Marks.{passing, refusal, fault_of}
use Rattle.brackets.specs.Brackets.{brackets}
use Rattle.records.specs.declared.Head.{Head}
use Rattle.heads.specs.declared.State.{State}
use Rattle.heads.specs.declared.Turn.{Turn}
use Rattle.heads.specs.declared.Turn.TheVariants as turn
use Rattle.heads.specs.declared.Opened.{Opened}
use Rattle.heads.specs.declared.Opened.TheVariants as opened

-- of the expression, what is not written yet
abbrev pub pending : List ℕ → State → List ℕ
pending s f = part s f.run f.at

-- whether a place stands for a sign that was met; 0 is none
abbrev pub is_marked : ℕ → Bool
is_marked n = ltb 0 n

-- a place, or another where it is none
abbrev pub first_of : ℕ → ℕ → ℕ
first_of a b = if eqb a 0 then b else a

-- a state's signs stand before it, and what is still to come fits
pub record Room (s : List ℕ) (f : State) : Type 0 where
  pub run : f.run ≤ f.at
  pub text : f.used + length s < 2 ^ 40
  pub spaces : f.spaces + length s < 2 ^ 40
  pub deep : f.depth ≤ 64
  pub equals_in : f.equals ≤ f.at
  pub bang_in : f.bang ≤ f.at
  pub small : length s ≤ 1048576

-- and stands at a character
pub record Fits (s : List ℕ) (f : State) (c : ℕ) (k : Cursor) : Type 0 where
  pub room : Room s f
  pub here : Stepped s f.at c k

-- the state at another place, with the bytes up to there in the expression
abbrev pub kept_to : State → ℕ → ℕ → Bool → State
kept_to f place depth blank =
    record { at = place; run = f.run; used = f.used; depth = depth; spaces = f.spaces; equals = f.equals; bang = f.bang; conversion = f.conversion; blank = blank }

-- and without them, where what the expression has so far is written
abbrev pub skipped_to : List ℕ → State → ℕ → State
skipped_to s f place =
    record { at = place; run = place; used = f.used + length (pending s f); depth = f.depth; spaces = f.spaces; equals = f.equals; bang = f.bang; conversion = f.conversion; blank = f.blank }

-- the state after a run of bytes that have no rule of their own, which are in the expression; after a self-documenting `=` there is none
pub record Passed (s : List ℕ) (f r : State) : Type 0 where
  pub end : ℕ
  pub on : f.at ≤ end
  pub within : f.at < end → end ≤ length s
  pub all : (k : ℕ) → f.at ≤ k → k < end → passing (byte s k) ≡ true
  pub undocumented : f.at < end → is_marked f.equals ≡ false
  pub is : r ≡ kept_to f end f.depth (f.blank && eqb end f.at)

-- the head of a state, with the cursor after it
abbrev pub head_at : State → Cursor → Head
head_at f k =
    record { at = k; used = f.used; spaces = f.spaces; equals = f.equals; bang = f.bang; conversion = f.conversion; blank = f.blank }

-- the definition's state, whose expression is e
abbrev pub state_of : List ℕ → State → List ℕ → Field
state_of e f places = state e f.blank (brackets f.depth places) f.conversion (is_marked f.equals) f.spaces (signs f.equals f.bang 0 0)

-- and that of a head
abbrev pub head_state : List ℕ → Head → Field
head_state e h = state e h.blank [] h.conversion (is_marked h.equals) h.spaces (signs h.equals h.bang 0 0)

-- a reader of the definition
abbrev pub Mover : Type 0
Mover = List ℕ → ℕ → Field → Move Field

-- the head goes on at g; of the expression, `added` is written
pub record Went (m : Mover) (s : List ℕ) (f g : State) (places places' text text' : List ℕ) : Type 0 where
  pub added : List ℕ
  pub moves : (e : List ℕ) → m s f.at (state_of (e ++ pending s f) f places) ≡ goes g.at (state_of ((e ++ added) ++ pending s g) g places')
  pub run : g.run ≤ g.at
  pub wrote : text' ≡ over text f.used added
  pub grown : g.used ≡ f.used + length added
  pub deep : g.depth ≤ 64
  pub equals_in : g.equals ≤ g.at
  pub bang_in : g.bang ≤ g.at
  pub full : length places' ≡ length places

-- the head ends as h, with the expression written
pub record Stopped (m : Mover) (move : Move Field) (s : List ℕ) (f : State) (h : Head) (places text text' : List ℕ) : Type 0 where
  pub moves : (e : List ℕ) → m s f.at (state_of e f places) ≡ move
  pub out : f.depth ≡ 0
  pub head : h ≡ head_at (skipped_to s f (next s f.at)) (record { at = next s f.at })
  pub wrote : text' ≡ over text f.used (pending s f)

-- what a turn's answer says of a reader's move from the state f, of the places and of the text
abbrev pub TurnIs : Mover → List ℕ → State → Turn → List ℕ → List ℕ → List ℕ → List ℕ → Type 0
TurnIs m s f (turn.On g) places places' text text' = Went m s f g places places' text text'
TurnIs m s f (turn.Formats h) places places' text text' = Stopped m calls s f h places text text'
TurnIs m s f (turn.Closes h) places places' text text' = Stopped m ends s f h places text text'
TurnIs m s f (turn.Refused x) places places' text text' = (text' ≡ text) × ((e : List ℕ) → m s f.at (state_of e f places) ≡ stops (fault_of x))

-- a head that a `}` ends: a blank expression is refused after it
abbrev pub closed_as : Head → Opened
closed_as h =
    if h.blank then opened.Refused (refusal (fault empty_expression h.at.at)) else opened.Ended h 0

-- the moves of the definition lead from a field's begin to a place and a state; since each is a function of them, to no two where it stops
pub data Leads (s : List ℕ) (from : ℕ) : ℕ → Field → Type 0 where
  here : Leads s from from fresh
  more : {i : ℕ} {f : Field} {j : ℕ} {g : Field} → Leads s from i f → field_move s i f ≡ goes j g → Leads s from j g

-- the head h of the field that began at `from`: the definition comes to its end, and makes the move there
pub record HeadIs (move : Move Field) (s : List ℕ) (from used : ℕ) (h : Head) (text text' : List ℕ) : Type 0 where
  pub expression : List ℕ
  pub place : ℕ
  pub leads : Leads s from place (head_state expression h)
  pub moves : field_move s place (head_state expression h) ≡ move
  pub there : place < length s
  pub later : from ≤ place
  pub after : h.at.at ≡ next s place
  pub wrote : text' ≡ over text used expression
  pub grown : h.used ≡ used + length expression
  pub small : field_size (head_state expression h) + 4 * from ≤ 4 * place
  pub equals_in : h.equals ≤ place
  pub bang_in : h.bang ≤ place

-- how a head ends, by the number of its field's parts: 0 at a `}`, 1 at a `:`
abbrev pub end_of : ℕ → Move Field
end_of parts = if eqb parts 0 then ends else calls

-- a head that ended so; a `}` does not end a blank one
pub record EndedIs (s : List ℕ) (from used : ℕ) (h : Head) (parts : ℕ) (text text' : List ℕ) : Type 0 where
  pub head : HeadIs (end_of parts) s from used h text text'
  pub few : parts ≤ 1
  pub full : parts ≡ 0 → h.blank ≡ false

-- the expression of a state
abbrev pub expression_of : Field → List ℕ
expression_of (state e b o c d w g) = e

-- the definition refuses the field that began at `from`; of the expression up to a place that its moves lead to, a front is written
pub record RefusedIs (s : List ℕ) (from used : ℕ) (x : Refusal) (text text' : List ℕ) : Type 0 where
  pub reads : (look : Naming) (kind depth : ℕ) → field_n look (enough s) kind s depth from from fresh ≡ refused (fault_of x)
  pub place : ℕ
  pub reached : Field
  pub leads : Leads s from place reached
  pub front : List ℕ
  pub rest : List ℕ
  pub expression : expression_of reached ≡ front ++ rest
  pub wrote : text' ≡ over text used front

-- what the answer says of the field that began at `from`, and of the text
abbrev pub OpenedBy : List ℕ → ℕ → ℕ → Opened → List ℕ → List ℕ → Type 0
OpenedBy s from used (opened.Ended h parts) text text' = EndedIs s from used h parts text text'
OpenedBy s from used (opened.Refused x) text text' = RefusedIs s from used x text text'

-- for every body and place: a body that is over the size limit is refused, and nothing is written
abbrev pub OpenedIs : List ℕ → ℕ → ℕ → Opened → List ℕ → List ℕ → Type 0
OpenedIs s from used r text text' =
    (length s ≤ 1048576 → OpenedBy s from used r text text')
    × (1048576 < length s → (r ≡ opened.Refused (refusal (fault bodies_too_long 0))) × (text' ≡ text))
