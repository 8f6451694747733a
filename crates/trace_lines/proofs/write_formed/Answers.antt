use Rattle.trace_lines.proofs.Lining.{written_result}
use Rattle.trace_lines.proofs.write_formed.Goals as goal

pub returns : goal.returns
returns c = written_result _ c.args.form c.requires c.args.negative c.args.size _ c.write_by.ensures
