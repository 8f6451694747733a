use native.Mathlib.Omega.{arith}
use Rattle.written.proofs.PutLaws.{puts_then}
use Rattle.written.proofs.spell.put_hex.Goals as goal

pub put_one-second-requires : goal.put_one-second-requires
put_one-second-requires c = let z = c.put_one-first.ensures.up in omega (arith, c.requires)

pub put_one-third-requires : goal.put_one-third-requires
put_one-third-requires c = let z = c.put_one-first.ensures.up in let y = c.put_one-second.ensures.up in omega (arith, c.requires)

pub put_one-requires : goal.put_one-requires
put_one-requires c = let z = c.put_one-first.ensures.up in let y = c.put_one-second.ensures.up in let x = c.put_one-third.ensures.up in omega (arith, c.requires)

pub returns : goal.returns
returns c = puts_then c.put_one-first.ensures (puts_then c.put_one-second.ensures (puts_then c.put_one-third.ensures c.put_one.ensures))
