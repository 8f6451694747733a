use native.Mathlib.Omega.{arith}
use borrow.Author.Tests.{le-leb, lt-leb}
use Rattle.definition.specs.Escapes.{scalar}
use Rattle.definition.proofs.Moves.CharLaws.{inside_yes, inside_not}
use Rattle.escapes.proofs.char_of.Goals as goal

pub returns-in-0-to-55295 : goal.returns-in-0-to-55295
unfolding scalar
returns-in-0-to-55295 c = let x = c.args.v in rw (inside_not 0xD800 0xDFFF x (omega arith), le-leb x 0x10FFFF (omega arith))

pub returns-in-55296-to-57343 : goal.returns-in-55296-to-57343
unfolding scalar
returns-in-55296-to-57343 c = let x = c.args.v in rw (inside_yes 0xD800 0xDFFF x (omega arith) (omega arith))

pub returns-in-0-to-55295-2 : goal.returns-in-0-to-55295-2
unfolding scalar
returns-in-0-to-55295-2 c = let x = c.args.v in rw (inside_not 0xD800 0xDFFF x (omega arith), le-leb x 0x10FFFF (omega arith))

pub returns-in_default : goal.returns-in_default
unfolding scalar
returns-in_default c = let x = c.args.v in rw (inside_not 0xD800 0xDFFF x (omega arith), lt-leb x 0x10FFFF (omega arith)) c.refuse.ensures
