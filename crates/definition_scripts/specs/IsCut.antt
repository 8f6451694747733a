-- WHAT THE CUT OF A SCRIPT INTO GAPS AND LITERALS IS, without a word of how it is made.
use Rattle.std.specs.Prelude.{ℕ, ◌+◌, ◌≤◌, ◌<◌, ◌≡◌, true, false, List, [], ◌∷◌, ◌++◌, length, drop}
use Rattle.definition.specs.Numbers.{prefix}
use Rattle.definition.specs.Chars.{byte, part}
use Rattle.definition.specs.Entry.{Literal}
use Rattle.definition_scripts.specs.Opening.{is_quote, opens, is_sign, is_line_end, apart}
use Rattle.definition_scripts.specs.IsRun.{IsLiteral, NeverCloses}

-- In the gap that begins at `from` a `#` stands before i in the same line
pub record Hidden (s : List ℕ) (from i : ℕ) : Type 0 where
  pub sign : ℕ
  pub in_gap : from ≤ sign
  pub earlier : sign < i
  pub signed : is_sign (byte s sign) ≡ true
  pub same_line : (m : ℕ) → sign ≤ m → m < i → is_line_end (byte s m) ≡ false

-- (a) every quote of the gap from `from` up to `end` has a `#` before it in the same line of that gap
abbrev pub QuotesHidden : List ℕ → (from end : ℕ) → Type 0
QuotesHidden s from end = (j : ℕ) → from ≤ j → j < end → is_quote (byte s j) ≡ true → Hidden s from j

-- A literal begins at i after the gap that begins at `from`
pub record Begins (s : List ℕ) (from i : ℕ) : Type 0 where
  pub after : from ≤ i
  pub opened : opens s i ≤ 6
  -- (a), and (b) the last line of the gap has no `#`
  pub quotes_hidden : QuotesHidden s from i
  pub line_clear : Hidden s from i → ⊥
  -- (d) before a prefix stands no letter, digit or underscore; without one it does not directly follow a word that is a prefix
  pub prefix_apart : 1 ≤ opens s i → apart s i ≡ true
  pub no_prefix : opens s i ≡ 0 → (w : ℕ) → from ≤ w → w < i → opens s w ≤ 6 → w + prefix (opens s w) ≡ i → apart s w ≡ true → ⊥

-- How a cut ends: with the script, or by 50 or 51 at a place
pub data Ending : Type 0 where
  reaches_end : Ending
  breaks_off : (number place : ℕ) → Ending

-- THE CUT from `from` on: (c) each literal is one by its bytes; (e) at a 50 or 51 a literal opens that never closes
abbrev pub IsCut : List ℕ → ℕ → List Literal → Ending → Type 0
IsCut s from [] reaches_end = QuotesHidden s from (length s)
IsCut s from [] (breaks_off number place) = Begins s from place × NeverCloses s number place
IsCut s from (l ∷ ls) e = Begins s from l.start × IsLiteral s l × IsCut s l.end ls e

-- gaps and literals put together, from `from` on: the last is a gap, or at a 50 or 51 a gap and the rest
unfoldable pub together : List ℕ → ℕ → List Literal → List ℕ
together s from [] = drop from s
together s from (l ∷ ls) = part s from l.start ++ part s l.start l.end ++ together s l.end ls

-- what each of some literals has
abbrev pub EachLiteral : (Literal → Type 0) → List Literal → Type 0
EachLiteral P [] = Unit {0}
EachLiteral P (l ∷ ls) = P l × EachLiteral P ls
