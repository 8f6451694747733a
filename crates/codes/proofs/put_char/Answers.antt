use borrow.Author.Tests.{lt-ltb, le-ltb}
use mathlib.Core.Path.{refl}
use native.Mathlib.Omega.{arith}
use Rattle.definition.specs.Chars.{utf8}
use Rattle.buffers.specs.Over.{over}
use Rattle.codes.proofs.put_char.Goals as goal

pub returns-in-0-to-127 : goal.returns-in-0-to-127
unfolding utf8 over
returns-in-0-to-127 c = rw (lt-ltb c.args.code 0x80 (omega arith)) (refl, c.put.ensures)

pub returns-in-0-to-2047 : goal.returns-in-0-to-2047
unfolding utf8 over
returns-in-0-to-2047 c =
    rw (le-ltb c.args.code 0x80 (omega arith), lt-ltb c.args.code 0x800 (omega arith))
    (refl, rw (c.put-in-0-to-2047-2.ensures, c.trailing.ensures, c.put-in-0-to-2047.ensures))

pub returns-in-0-to-65535 : goal.returns-in-0-to-65535
unfolding utf8 over
returns-in-0-to-65535 c =
    rw (le-ltb c.args.code 0x80 (omega arith), le-ltb c.args.code 0x800 (omega arith), lt-ltb c.args.code 0x10000 (omega arith))
    (refl, rw (c.put-in-0-to-65535-3.ensures, c.trailing-in-0-to-65535-2.ensures, c.put-in-0-to-65535-2.ensures, c.trailing-in-0-to-65535.ensures, c.put-in-0-to-65535.ensures))

pub returns-in_default : goal.returns-in_default
unfolding utf8 over
returns-in_default c =
    rw (le-ltb c.args.code 0x80 (omega arith), le-ltb c.args.code 0x800 (omega arith), le-ltb c.args.code 0x10000 (omega arith))
    (refl, rw (c.put-in_default-4.ensures, c.trailing-in_default-3.ensures, c.put-in_default-3.ensures, c.trailing-in_default-2.ensures, c.put-in_default-2.ensures, c.trailing-in_default.ensures, c.put-in_default.ensures))
