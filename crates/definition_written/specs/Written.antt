-- A BODY WRITTEN BACK from the records and text of a joined answer: what may be written, its one spelling, and when that reads back alike.
use Rattle.std.specs.Prelude.{ℕ, zero, suc, ◌+◌, Bool, true, false, ◌&&◌, List, [], ◌∷◌, ◌++◌, leb, eqb, length, replicate, if◌then◌else◌}
use Rattle.definition.specs.Numbers.{not_writable, not_read_back, too_little_body_room}
use Rattle.definition.specs.Chars.{◌is◌, part, same}
use Rattle.definition.specs.Escapes.{Naming}
use Rattle.definition.specs.Records.{Record, Answer}
use Rattle.definition.specs.Reading.{Outcome, accepts, refuses, read_alone, in_front, zeros}
use Rattle.definition.specs.Words.{word}
use Rattle.definition_formed.specs.Formed.{Lent, lent_answer, is_formed}

-- WHAT RECORDS HOLD, in order: texts, and fields without and with a spec, which holds the same
pub data Content : Type 0 where
  empty : Content
  says : (text : List ℕ) (rest : Content) → Content
  puts : (expression : List ℕ) (conversion : ℕ) (rest : Content) → Content
  forms : (expression : List ℕ) (conversion : ℕ) (spec rest : Content) → Content

-- the first n things that some hold, and those after them
unfoldable pub first_parts : ℕ → Content → Content
first_parts zero p = empty
first_parts (suc n) empty = empty
first_parts (suc n) (says t p) = says t (first_parts n p)
first_parts (suc n) (puts e c p) = puts e c (first_parts n p)
first_parts (suc n) (forms e c q p) = forms e c q (first_parts n p)

unfoldable pub later_parts : ℕ → Content → Content
later_parts zero p = p
later_parts (suc n) empty = empty
later_parts (suc n) (says t p) = later_parts n p
later_parts (suc n) (puts e c p) = later_parts n p
later_parts (suc n) (forms e c q p) = later_parts n p

-- the parts of the record that comes next
unfoldable pub next_parts : List Record → ℕ
next_parts [] = 0
next_parts (r ∷ rs) = r.parts

-- a record's text
unfoldable pub own_text : (text : List ℕ) → Record → List ℕ
own_text text r = part text r.offset (r.offset + r.size)

-- a record of a kind before others, which hold p: a field with a spec takes as many as the spec, which comes next, has parts
unfoldable pub holding : (kind : ℕ) (text : List ℕ) (mode parts next : ℕ) → Content → Content
holding kind t mode parts next p =
    if eqb kind 1 then says t p else
    if eqb kind 2 && eqb parts 0 then puts t mode p else
    if eqb kind 2 then forms t mode (first_parts next p) (later_parts next p) else p

unfoldable pub content_from : (text : List ℕ) → List Record → Content
content_from text [] = empty
content_from text (r ∷ rs) = holding r.kind (own_text text r) r.mode r.parts (next_parts rs) (content_from text rs)

-- what an answer holds
unfoldable pub content : Answer → Content
content x = content_from x.text x.records

-- ALIKE: empty texts are dropped and touching ones joined, in specs too; `t` is the text since the last field
unfoldable pub filled_with : List ℕ → Content → Content
filled_with [] p = p
filled_with (b ∷ t) p = says (b ∷ t) p

unfoldable pub alike_after : List ℕ → Content → Content
alike_after t empty = filled_with t empty
alike_after t (says u p) = alike_after (t ++ u) p
alike_after t (puts e c p) = filled_with t (puts e c (alike_after [] p))
alike_after t (forms e c q p) = filled_with t (forms e c (alike_after [] q) (alike_after [] p))

abbrev pub alike : Content → Content
alike p = alike_after [] p

-- the same things in the same order
unfoldable pub same_content : Content → Content → Bool
same_content empty empty = true
same_content (says t p) (says t' p') = same t t' && same_content p p'
same_content (puts e c p) (puts e' c' p') = same e e' && eqb c c' && same_content p p'
same_content (forms e c q p) (forms e' c' q' p') = same e e' && eqb c c' && same_content q q' && same_content p p'
same_content empty (says t p) = false
same_content empty (puts e c p) = false
same_content empty (forms e c q p) = false
same_content (says t p) empty = false
same_content (says t p) (puts e c p') = false
same_content (says t p) (forms e c q p') = false
same_content (puts e c p) empty = false
same_content (puts e c p) (says t p') = false
same_content (puts e c p) (forms e' c' q p') = false
same_content (forms e c q p) empty = false
same_content (forms e c q p) (says t p') = false
same_content (forms e c q p) (puts e' c' p') = false

-- THE SPELLING. Where a text stands: at the top, in a spec before its first field, or after that
pub data Where : Type 0 where
  top early late : Where

unfoldable pub past_field : Where → Where
past_field top = top
past_field early = late
past_field late = late

-- one byte of a text: at the top braces and backslashes are doubled; late in a spec backslashes are, and braces are \x7b and \x7d
unfoldable pub spelled_byte : Where → ℕ → List ℕ
spelled_byte top b = if b is "{}\\" then b ∷ b ∷ [] else b ∷ []
spelled_byte early b = b ∷ []
spelled_byte late b =
    if b is "\\" then b ∷ b ∷ [] else
    if b is "{" then 92 ∷ 120 ∷ 55 ∷ 98 ∷ [] else
    if b is "}" then 92 ∷ 120 ∷ 55 ∷ 100 ∷ [] else b ∷ []

unfoldable pub spelled_text : Where → List ℕ → List ℕ
spelled_text w [] = []
spelled_text w (b ∷ t) = spelled_byte w b ++ spelled_text w t

-- `!` and a conversion, if there is one
unfoldable pub spelled_conversion : ℕ → List ℕ
spelled_conversion zero = []
spelled_conversion (suc c) = 33 ∷ suc c ∷ []

-- field as `{` expression, conversion, `:` and spec, `}`
unfoldable pub spelled : Where → Content → List ℕ
spelled w empty = []
spelled w (says t p) = spelled_text w t ++ spelled w p
spelled w (puts e c p) = 123 ∷ (e ++ (spelled_conversion c ++ 125 ∷ spelled (past_field w) p))
spelled w (forms e c q p) = 123 ∷ (e ++ (spelled_conversion c ++ 58 ∷ (spelled early q ++ 125 ∷ spelled (past_field w) p)))

-- READ BACK: what is held is read from its spelling alone, alike
unfoldable pub held_alike : Content → Outcome Answer → Bool
held_alike p (accepts x) = same_content (alike (content x)) (alike p)
held_alike p (refuses r) = false

unfoldable pub reads_alike : Naming → Content → Bool
reads_alike look p = held_alike p (read_alone look (spelled top p))

-- WHAT MAY BE WRITTEN: an answer that is well formed, of the sort joined
unfoldable pub writable : Lent → Bool
writable x = is_formed x && eqb (word x.numbers 1) 1

-- A writing: the body; or a refusal's number and how many bytes are needed, 0 for none told
pub data Writing : Type 0 where
  writes : (body : List ℕ) → Writing
  stops : (number needed : ℕ) → Writing

-- THE BODY, in a buffer of so many bytes
unfoldable pub written : Naming → Lent → (room : ℕ) → Writing
written look x room =
    let p = content (lent_answer x) in
    let s = spelled top p in
    elim (writable x) [
      | false ↦ stops not_writable 0
      | true ↦ elim (reads_alike look p) [
        | false ↦ stops not_read_back 0
        | true ↦ elim (leb (length s) room) [ false ↦ stops too_little_body_room (length s) | true ↦ writes s ]
      ]
    ]

-- what the buffer holds afterwards
unfoldable pub body_after : Writing → List ℕ → List ℕ
body_after (writes s) buffer = in_front s buffer
body_after (stops n k) buffer = zeros buffer

-- WHAT A CALL RETURNS AND LEAVES
pub record WrittenCall : Type 0 where
  pub result : Writing
  pub body : List ℕ

unfoldable pub written_into : Naming → Lent → (body : List ℕ) → WrittenCall
written_into look x body = let o = written look x (length body) in record { result = o; body = body_after o body }

-- The numbers: 0 and the bytes written; a refusal's, at 9 the bytes needed
unfoldable pub written_numbers : Writing → List ℕ
written_numbers (writes s) = 0 ∷ length s ∷ []
written_numbers (stops n k) = n ∷ replicate 8 0 ++ (k ∷ [])
