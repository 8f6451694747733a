use Prim.Native.Nat.{◌-◌}
use lib.ListN.{length}
use Rattle.definition.specs.Body.{text_move}
use Rattle.escapes.specs.Answers.{names_by}
use Rattle.texts.specs.Text.{Upto}
use Rattle.texts.proofs.fstring_text.Given as goal

abbrev pub invariant-loop-text : goal.invariant-loop-text
invariant-loop-text l = Upto (text_move (names_by l.names.file.now l.names.index.now) l.kind l.s l.nested) l.initial.cursor.at l.used l.initial.text l.text l.cursor.at l.end

abbrev pub decreases-loop-text : goal.decreases-loop-text
decreases-loop-text l = length l.s - l.cursor.at
