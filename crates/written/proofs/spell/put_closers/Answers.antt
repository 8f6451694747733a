use borrow.Author.Rules.{rules}
use Rattle.written.proofs.PutLaws.{puts_none, puts_same, closers_none, closers_one, closers_two}
use Rattle.written.proofs.spell.put_closers.Goals as goal

pub returns-in-0 : goal.returns-in-0
returns-in-0 c = puts_same (closers_none c.args.count c.in-0.is) (puts_none _ _)

pub returns-in-1 : goal.returns-in-1
returns-in-1 c = puts_same (closers_one c.args.count c.in-1.is) c.put_one.ensures

pub returns-in_default : goal.returns-in_default
returns-in_default c = puts_same (closers_two c.args.count c.requires.1 (search rules) (search rules)) c.put_two.ensures
