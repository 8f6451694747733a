use borrow.Author.Tests.{le-leb, lt-leb}
use Rattle.utf8.specs.Steps.{step_at}
use Rattle.definition.proofs.Moves.CharLaws.{code_ascii, next_ascii}
use Rattle.utf8.proofs.Cursor.next_char.Goals as goal
use Rattle.utf8.proofs.Cursor.next_char.Goals.{Then-b-lt128}

plain : goal.returns-then-b-lt128
unfolding step_at
plain c =
    let h = rw c.byte_at-b.ensures at c.if-b-lt128.true in
    rw (lt-leb _ _ c.if-s-at.false, code_ascii _ _ h, next_ascii _ _ h, c.byte_at-b.ensures)

pub returns-then-s-at : goal.returns-then-s-at
unfolding step_at
returns-then-s-at c = rw (le-leb _ _ c.if-s-at.true)

pub returns-then-b-lt128 : goal.returns-then-b-lt128
unfolding step_at
returns-then-b-lt128 c = plain (goal.at.returns-then-b-lt128 c).Then-b-lt128

pub returns : goal.returns
unfolding step_at
returns c = c.next_wide.ensures
