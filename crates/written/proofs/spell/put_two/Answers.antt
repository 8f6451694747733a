use native.Mathlib.Omega.{arith}
use Rattle.written.proofs.PutLaws.{puts_then}
use Rattle.written.proofs.spell.put_two.Goals as goal

pub put_one-requires : goal.put_one-requires
put_one-requires c = let z = c.put_one-next.ensures.up in omega (arith, c.requires)

pub returns : goal.returns
returns c = puts_then c.put_one-next.ensures c.put_one.ensures
