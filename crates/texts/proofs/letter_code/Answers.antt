use borrow.Author.Tests.{lt-leb}
use Rattle.definition.specs.Escapes.{escape_case}
use Rattle.texts.proofs.letter_code.Goals as goal

pub returns-in-92 : goal.returns-in-92
unfolding escape_case
returns-in-92 c = λ kind s i h e. rw (lt-leb _ _ h, e, c.in-92.is, escape_case)

pub returns-in-39 : goal.returns-in-39
unfolding escape_case
returns-in-39 c = λ kind s i h e. rw (lt-leb _ _ h, e, c.in-39.is, escape_case)

pub returns-in-34 : goal.returns-in-34
unfolding escape_case
returns-in-34 c = λ kind s i h e. rw (lt-leb _ _ h, e, c.in-34.is, escape_case)

pub returns-in-97 : goal.returns-in-97
unfolding escape_case
returns-in-97 c = λ kind s i h e. rw (lt-leb _ _ h, e, c.in-97.is, escape_case)

pub returns-in-98 : goal.returns-in-98
unfolding escape_case
returns-in-98 c = λ kind s i h e. rw (lt-leb _ _ h, e, c.in-98.is, escape_case)

pub returns-in-102 : goal.returns-in-102
unfolding escape_case
returns-in-102 c = λ kind s i h e. rw (lt-leb _ _ h, e, c.in-102.is, escape_case)

pub returns-in-110 : goal.returns-in-110
unfolding escape_case
returns-in-110 c = λ kind s i h e. rw (lt-leb _ _ h, e, c.in-110.is, escape_case)

pub returns-in-114 : goal.returns-in-114
unfolding escape_case
returns-in-114 c = λ kind s i h e. rw (lt-leb _ _ h, e, c.in-114.is, escape_case)

pub returns-in-116 : goal.returns-in-116
unfolding escape_case
returns-in-116 c = λ kind s i h e. rw (lt-leb _ _ h, e, c.in-116.is, escape_case)

pub returns-in-118 : goal.returns-in-118
unfolding escape_case
returns-in-118 c = λ kind s i h e. rw (lt-leb _ _ h, e, c.in-118.is, escape_case)
