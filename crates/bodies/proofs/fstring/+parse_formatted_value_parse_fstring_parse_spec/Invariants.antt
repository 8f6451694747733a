use mathlib.Core.Path.{◌≡◌}
use Prim.Native.Nat.{◌+◌, ◌-◌}
use lib.ListN.{length}
use Rattle.escapes.specs.Answers.{names_by}
use Rattle.bodies.proofs.RowLaws.{Rowing}
use mathlib.Core.Bool.{true}
use Rattle.bodies.proofs.fstring.+parse_formatted_value_parse_fstring_parse_spec.Given as goal

abbrev pub decreases-parse_formatted_value : goal.decreases-parse_formatted_value
decreases-parse_formatted_value l = (length l.s.now - l.at.at) + (2 - l.nested)

abbrev pub decreases-parse_fstring : goal.decreases-parse_fstring
decreases-parse_fstring l = (length l.s.now - l.at.at) + (2 - l.nested)

abbrev pub decreases-parse_spec : goal.decreases-parse_spec
decreases-parse_spec l = (length l.s.now - l.at.at) + (2 - l.nested)

abbrev pub invariant-parse_fstring-loop-r : goal.invariant-parse_fstring-loop-r
invariant-parse_fstring-loop-r l = (length l.words ≡ length l.initial.words)
    × (length l.text ≡ length l.initial.text)
    × (length l.rows ≡ length l.initial.rows)
    × Rowing (names_by l.names.file.now l.names.index.now) l.s l.fr.kind l.nested l.initial.cursor.at l.fr l.initial.words l.initial.text l.words l.text l.initial.rows l.rows l.initial.sink l.fields l.cursor.at l.sink l.count
    × (l.once ≡ true → l.cursor.at ≡ l.initial.cursor.at)

abbrev pub decreases-parse_fstring-loop-r : goal.decreases-parse_fstring-loop-r
decreases-parse_fstring-loop-r l = length l.s - l.cursor.at
