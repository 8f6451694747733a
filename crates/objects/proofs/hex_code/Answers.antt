use borrow.Author.Tests.{lt-ltb, le-ltb}
use native.Mathlib.Omega.{arith}
use Rattle.definition_lines.specs.Lines.{hex_code}
use Rattle.objects.proofs.hex_code.Goals as goal

pub returns-in-0-to-9 : goal.returns-in-0-to-9
unfolding hex_code
returns-in-0-to-9 c = rw (lt-ltb c.args.digit 10 (omega arith))

pub returns-in_default : goal.returns-in_default
unfolding hex_code
returns-in_default c = rw (le-ltb c.args.digit 10 (omega arith))
