use native.Mathlib.Omega.{arith}
use Rattle.definition.specs.Escapes.{octal_digit}
use Rattle.definition.proofs.Moves.CharLaws.{inside_yes, inside_not}
use Rattle.escapes.proofs.octal_digit.Goals as goal

pub returns-in-48-to-55-clause-value : goal.returns-in-48-to-55-clause-value
unfolding octal_digit
returns-in-48-to-55-clause-value c = let x = c.args.c in rw (inside_yes 48 55 x (omega arith) (omega arith))

pub returns-in_default-clause-value : goal.returns-in_default-clause-value
unfolding octal_digit
returns-in_default-clause-value c = let x = c.args.c in rw (inside_not 48 55 x (omega arith))

pub returns-in_default-2-clause-value : goal.returns-in_default-2-clause-value
unfolding octal_digit
returns-in_default-2-clause-value c = let x = c.args.c in rw (inside_not 48 55 x (omega arith))
