-- Where a field opens in a body of kind 1, and where one ends behind its spec.
use Rattle.std.specs.Prelude.{ℕ, ◌≡◌, Bool, List, [], Result, Ok, Err, if◌then◌else◌}
use Rattle.definition.specs.Chars.{at_end, next}
use Rattle.definition.specs.Numbers.{unclosed_lbrace, empty_expression, in_field}
use Rattle.definition.specs.Escapes.{held_names, fault, detail}
use Rattle.definition.specs.Body.{calls, text_move}
use Rattle.marks.specs.Marks.{refusal}
use Rattle.utf8.specs.declared.Cursor.{Cursor}
use Rattle.marks.specs.declared.Refusal.{Refusal}

-- a field opens at i
abbrev pub Opens : List ℕ → ℕ → Type 0
Opens s i = text_move held_names 1 s 0 i [] ≡ calls

-- the end of a field after its spec
abbrev pub field_end : List ℕ → ℕ → Bool → Result Cursor Refusal
field_end s j blank =
    if at_end s j then Err (refusal (detail unclosed_lbrace j in_field)) else
    if blank then Err (refusal (fault empty_expression (next s j))) else Ok (record { at = next s j })
