-- The character step with a cursor by value.
use Rattle.std.specs.Prelude.{ℕ, List, if◌then◌else◌}
use Rattle.definition.specs.Chars.{at_end, code, next}
use Rattle.utf8.specs.declared.Step.{Step}
use Rattle.utf8.specs.declared.Step.TheVariants.{Char, End}

-- at the end: End; else the character's code, and the cursor after it
unfoldable pub step_at : List ℕ → ℕ → Step
step_at s i = if at_end s i then End else Char (code s i) (record { at = next s i })
