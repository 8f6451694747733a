use native.Mathlib.Omega.{arith}
use Rattle.definition.proofs.Moves.CharLaws.{byte_is}
use Rattle.utf8.proofs.byte_at.Goals as goal

pub overflow_cast-result : goal.overflow_cast-result
overflow_cast-result c = omega (arith, c.type_inv.s c.args.i)

pub returns : goal.returns
returns c = byte_is c.args.s.now c.args.i c.requires
