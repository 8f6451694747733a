use native.Mathlib.Omega.{arith}
use Rattle.written.proofs.PutLaws.{puts_none, puts_same, puts_then, conversion_none, conversion_some}
use Rattle.written.proofs.spell.put_conversion.Goals as goal

pub returns-then-c-eq0 : goal.returns-then-c-eq0
returns-then-c-eq0 c = puts_same (conversion_none c.args.c c.if-c-eq0.true) (puts_none _ _)

pub put_one-requires : goal.put_one-requires
put_one-requires c = let z = c.put_one-next.ensures.up in omega (arith, c.requires)

pub returns : goal.returns
returns c = puts_same (conversion_some c.args.c c.if-c-eq0.false) (puts_then c.put_one-next.ensures c.put_one.ensures)
