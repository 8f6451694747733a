-- What the code writes of fields: the lines of those that lie in words, with their rows.
use Rattle.std.specs.Prelude.{ℕ, zero, suc, ◌+◌, ◌*◌, ◌≤◌, ◌≡◌, Bool, List, [], ◌++◌, eqb, length, get_or, if◌then◌else◌}
use Rattle.definition.specs.Chars.{part}
use Rattle.definition_lines.specs.Why.{why_line, body_why}
use Rattle.buffers.specs.Over.{over}
use Rattle.lines.specs.Written.{longest}

-- whether the record at a record place is a field
abbrev pub is_field : List ℕ → ℕ → Bool
is_field words i = eqb (get_or words (i * 8) 0) 2

-- how many fields there are up to it, after so many before it
abbrev pub fields_after : List ℕ → ℕ → ℕ → ℕ
fields_after words i k = if is_field words i then k + 1 else k

unfoldable pub fields_in : List ℕ → ℕ → ℕ
fields_in words zero = 0
fields_in words (suc n) = fields_after words n (fields_in words n)

-- the line of a field at a record place, whose row is at a row's place; nothing for any other record
unfoldable pub why_place : (words text rows : List ℕ) (i k : ℕ) → List ℕ
why_place words text rows i k =
    let offset = get_or words (i * 8 + 1) 0 in
    if is_field words i then why_line (part text offset (offset + get_or words (i * 8 + 2) 0)) (get_or rows (k * 10 + 2) 0) (get_or rows (k * 10) 0) (get_or rows (k * 10 + 6) 0) else []

-- the lines of the first n records
unfoldable pub why_places : (words text rows : List ℕ) → ℕ → List ℕ
why_places words text rows zero = []
why_places words text rows (suc n) = why_places words text rows n ++ why_place words text rows n (fields_in words n)

-- a record place lies in words, its text in the text, and a row's place in rows if it is a field
pub record Lies (words text rows : List ℕ) (i k : ℕ) : Type 0 where
  pub place : i * 8 + 8 ≤ length words
  pub inside : get_or words (i * 8 + 1) 0 + get_or words (i * 8 + 2) 0 ≤ length text
  pub row : fields_after words i k * 10 ≤ length rows

-- a body's lines over a buffer from its front on, and how long they are
pub record Explains (body buffer after : List ℕ) (r : ℕ) : Type 0 where
  pub wrote : after ≡ over buffer 0 (body_why body)
  pub size : r ≡ length (body_why body)
  pub short : length (body_why body) ≤ longest
