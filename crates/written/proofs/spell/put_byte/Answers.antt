use Rattle.written.proofs.PutLaws.{puts_same, at_top_lem, at_late, at_early}
use Rattle.written.proofs.spell.put_byte.Goals as goal

pub returns-then-depth-eq0 : goal.returns-then-depth-eq0
returns-then-depth-eq0 c = puts_same (at_top_lem c.args.b c.args.depth c.args.late c.if-depth-eq0.true) c.put_top.ensures

pub returns-then-late : goal.returns-then-late
returns-then-late c = puts_same (at_late c.args.b c.args.depth c.args.late c.if-depth-eq0.false c.if-late.true) c.put_late.ensures

pub returns-else-late : goal.returns-else-late
returns-else-late c = puts_same (at_early c.args.b c.args.depth c.args.late c.if-depth-eq0.false c.if-late.false) c.put_one.ensures
