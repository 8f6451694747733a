use borrow.Author.Rules.{rules}
use Rattle.written.proofs.PutLaws.{puts_same, late_two, late_open, late_close, late_one}
use Rattle.written.proofs.spell.put_late.Goals as goal

pub returns-in-92 : goal.returns-in-92
returns-in-92 c = puts_same (late_two c.args.b c.in-92.is) c.put_two.ensures

pub returns-in-123 : goal.returns-in-123
returns-in-123 c = puts_same (late_open c.args.b (search rules) c.in-123.is) c.put_hex.ensures

pub returns-in-125 : goal.returns-in-125
returns-in-125 c = puts_same (late_close c.args.b (search rules) (search rules) c.in-125.is) c.put_hex-in-125.ensures

pub returns-in_default : goal.returns-in_default
returns-in_default c = puts_same (late_one c.args.b (search rules) (search rules) (search rules)) c.put_one.ensures
