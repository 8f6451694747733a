use borrow.Author.Rules.{rules}
use native.Mathlib.Omega.{arith}
use Rattle.utf8.proofs.Classes.{class_is, class_small}
use Rattle.utf8.proofs.class_in.Goals as goal

pub overflow_sub-result : goal.overflow_sub-result
overflow_sub-result c = let e = class_is c.args.b (search rules) in rw c.requires (omega (arith, e))

pub overflow_cast-result-2 : goal.overflow_cast-result-2
overflow_cast-result-2 c = let e = class_is c.args.b (search rules) in rw c.requires (omega (arith, e, class_small c.args.b))

pub returns : goal.returns
returns c = let e = class_is c.args.b (search rules) in rw c.requires (omega (arith, e))
