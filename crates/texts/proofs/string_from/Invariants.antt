use mathlib.Core.List.{List}
use Prim.Native.Nat.{ℕ, ◌-◌}
use lib.ListN.{length}
use Rattle.definition.specs.Body.{string_move}
use Rattle.escapes.specs.Answers.{names_by}
use Rattle.texts.specs.Text.{Upto}
use Rattle.texts.proofs.string_from.Given as goal

-- whatever was read and written up to the loop is read on
abbrev pub invariant-loop-text : goal.invariant-loop-text
invariant-loop-text l = (first : ℕ) (lent : List ℕ) → Upto (string_move (names_by l.names.file.now l.names.index.now) l.kind l.s) 0 first lent l.initial.text l.initial.cursor.at l.initial.end → Upto (string_move (names_by l.names.file.now l.names.index.now) l.kind l.s) 0 first lent l.text l.cursor.at l.end

abbrev pub decreases-loop-text : goal.decreases-loop-text
decreases-loop-text l = length l.s - l.cursor.at
