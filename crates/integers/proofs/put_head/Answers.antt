use native.Mathlib.Omega.{arith}
use Rattle.integers.proofs.Joined.{sign_short, head_of_lem}
use Rattle.integers.proofs.put_head.Goals as goal

pub put_prefix-requires : goal.put_prefix-requires
put_prefix-requires c = let s = sign_short c.args.sign c.args.negative in let e = c.put_sign-next.ensures.0 in omega arith

pub returns : goal.returns
returns c = head_of_lem _ c.args.at c.args.sign c.args.alternate c.args.kind c.args.negative c.put_sign-next.ensures.0 c.put_sign-next.ensures.1 c.put_prefix.ensures.0 c.put_prefix.ensures.1
