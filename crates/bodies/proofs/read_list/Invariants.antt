use mathlib.Core.Path.{◌≡◌}
use lib.ListN.{length}
use Rattle.escapes.specs.Answers.{names_by}
use Rattle.bodies.specs.Sinks.{whole_of}
use Rattle.bodies.proofs.ListLaws.{Listing}
use Rattle.bodies.proofs.RowCalls.{Rowing}
use Rattle.bodies.proofs.read_list.Given as goal

abbrev pub invariant-loop-i : goal.invariant-loop-i
invariant-loop-i l = (length l.words ≡ length l.initial.words)
    × (length l.text ≡ length l.initial.text)
    × (length l.rows ≡ length l.initial.rows)
    × Listing (names_by l.names.file.now l.names.index.now) l.script l.numbers l.count (whole_of l.whole) l.initial.words l.initial.text l.words l.text l.i l.sink
    × Rowing (names_by l.names.file.now l.names.index.now) l.window l.script l.numbers l.count l.initial.rows l.rows l.i l.fields l.sink
