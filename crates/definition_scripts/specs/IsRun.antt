-- WHAT A LITERAL IS, AND WHAT A RUN OF ADJACENT ONES IS, without a word of how they are found.
use Rattle.std.specs.Prelude.{ℕ, ◌+◌, ◌≤◌, ◌<◌, ◌≡◌, true, false, List, [], ◌∷◌, ◌++◌, length}
use Rattle.definition.specs.Numbers.{never_closed, newline_in_literal}
use Rattle.definition.specs.Chars.{◌is◌, byte, part}
use Rattle.definition.specs.Entry.{Literal, opening, Refusal, refusal}
use Rattle.definition_scripts.specs.Opening.{no_kind, opens, quotes, quote_of, flag_of, body_of, quotes_at, breaks_at, is_space, is_sign, line_end}

-- The units of a body from i up to j: a backslash with what it takes, or one byte; none of them closes it or may not stand in it
pub data Units (s : List ℕ) (quote flag : ℕ) : ℕ → ℕ → Type 0 where
  done : {i : ℕ} → Units s quote flag i i
  pair : {i j : ℕ} → (byte s i is "\\") ≡ true → Units s quote flag (i + 2) j → Units s quote flag i j
  single : {i j : ℕ} → i < length s → (byte s i is "\\") ≡ false → quotes_at s quote flag i ≡ false → breaks_at s flag i ≡ false → Units s quote flag (i + 1) j → Units s quote flag i j

abbrev pub body_end : Literal → ℕ
body_end l = l.offset + l.size

-- A LITERAL: a prefix, one or three equal quotes, a body that does not close before its end, the same quotes
pub record IsLiteral (s : List ℕ) (l : Literal) : Type 0 where
  pub known : l.kind ≤ 6
  pub opened : opens s l.start ≡ l.kind
  pub flagged : flag_of s l.start ≡ l.triple
  pub begun : l.offset ≡ l.start + opening l
  pub units : Units s (quote_of s l.start) l.triple l.offset (body_end l)
  pub ended : quotes_at s (quote_of s l.start) l.triple (body_end l) ≡ true
  pub last : l.end ≡ body_end l + quotes l.triple

-- a body from i on that never closes, by the number that says so: its units run to the end of the script, or with one quote to a newline
pub data Unclosed (s : List ℕ) (quote flag i : ℕ) : ℕ → Type 0 where
  to_end : {j : ℕ} → Units s quote flag i j → length s ≤ j → Unclosed s quote flag i never_closed
  to_newline : {j : ℕ} → Units s quote flag i j → breaks_at s flag j ≡ true → Unclosed s quote flag i newline_in_literal

-- the literal that opens at i never closes
abbrev pub NeverCloses : List ℕ → (number i : ℕ) → Type 0
NeverCloses s number i = Unclosed s (quote_of s i) (flag_of s i) (body_of s i) number

-- Spaces, tabs, newlines and comments from i up to j
pub data Blanks (s : List ℕ) : ℕ → ℕ → Type 0 where
  none : {i : ℕ} → Blanks s i i
  space : {i j : ℕ} → is_space (byte s i) ≡ true → Blanks s (i + 1) j → Blanks s i j
  comment : {i j : ℕ} → is_sign (byte s i) ≡ true → Blanks s (line_end s i) j → Blanks s i j

-- all that stand there: none begins at j
pub record Passed (s : List ℕ) (i j : ℕ) : Type 0 where
  pub blanks : Blanks s i j
  pub no_space : is_space (byte s j) ≡ false
  pub no_sign : is_sign (byte s j) ≡ false

-- what comes after some literals: the next one, or a place where they end
abbrev pub next_place : List Literal → ℕ → ℕ
next_place [] stop = stop
next_place (l ∷ ls) stop = l.start

-- literals with what is passed over after each, up to a place
abbrev pub Adjacent : List ℕ → List Literal → ℕ → Type 0
Adjacent s [] stop = Unit {0}
Adjacent s (l ∷ ls) stop = IsLiteral s l × Passed s l.end (next_place ls stop) × Adjacent s ls stop

-- A RUN FROM AN OFFSET ON: adjacent literals, up to where none opens
pub record IsRun (s : List ℕ) (offset : ℕ) (ls : List Literal) (stop : ℕ) : Type 0 where
  pub first : next_place ls stop ≡ offset
  pub adjacent : Adjacent s ls stop
  pub ended : no_kind ≤ opens s stop

-- none from an offset on, by a refusal: after adjacent literals one opens at its place that never closes
pub record NoRun (s : List ℕ) (offset : ℕ) (r : Refusal) : Type 0 where
  pub earlier : List Literal
  pub first : next_place earlier r.place ≡ offset
  pub adjacent : Adjacent s earlier r.place
  pub opened : opens s r.place ≤ 6
  pub unclosed : NeverCloses s r.number r.place
  pub bare : r ≡ refusal r.number 0 r.place 0 0

-- the bytes of literals and of what is passed over after each, up to a place
unfoldable pub bytes_to : List ℕ → List Literal → ℕ → List ℕ
bytes_to s [] stop = []
bytes_to s (l ∷ ls) stop = part s l.start l.end ++ part s l.end (next_place ls stop) ++ bytes_to s ls stop
