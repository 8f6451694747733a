-- What the code writes: the lines of records that lie in words.
use Rattle.std.specs.Prelude.{ℕ, zero, suc, ◌+◌, ◌*◌, ◌≤◌, ◌<◌, ◌≡◌, List, [], ◌++◌, length, get_or}
use Rattle.definition.specs.Chars.{part}
use Rattle.buffers.specs.Over.{over}
use Rattle.definition_lines.specs.Lines.{line_of, body_lines}

-- the line of the record at a record place of words
unfoldable pub place_line : List ℕ → List ℕ → ℕ → List ℕ
place_line words text i =
    let offset = get_or words (i * 8 + 1) 0 in
    line_of (get_or words (i * 8) 0) (part text offset (offset + get_or words (i * 8 + 2) 0)) (get_or words (i * 8 + 5) 0) (get_or words (i * 8 + 6) 0) (get_or words (i * 8 + 7) 0)

-- the lines of the first n of them
unfoldable pub place_lines : List ℕ → List ℕ → ℕ → List ℕ
place_lines words text zero = []
place_lines words text (suc n) = place_lines words text n ++ place_line words text n

-- so many records lie in words, each with its text in the text
pub record Lie (words text : List ℕ) (count : ℕ) : Type 0 where
  pub places : count * 8 ≤ length words
  pub inside : (i : ℕ) → i < count → get_or words (i * 8 + 1) 0 + get_or words (i * 8 + 2) 0 ≤ length text

-- the lines of a body are never longer: 70 bytes for each of 1,025 records, and six for each of 2,048 bytes of text
abbrev pub longest : ℕ
longest = 84038

-- a body's lines over a buffer from its front on, and how long they are
pub record Lists (body buffer after : List ℕ) (r : ℕ) : Type 0 where
  pub wrote : after ≡ over buffer 0 (body_lines body)
  pub size : r ≡ length (body_lines body)
  pub short : length (body_lines body) ≤ longest

-- words and text with room for whatever a body of at most 1,024 bytes needs: a record for each byte and one more, two text bytes for each
pub record Room (body words text : List ℕ) : Type 0 where
  pub few : length body ≤ 1024
  pub words_room : (length body + 1) * 8 ≤ length words
  pub text_room : 2 * length body ≤ length text
