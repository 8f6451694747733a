use Rattle.templates.proofs.Items.{said_laid}
use Rattle.templates.proofs.check_template.Goals as goal

pub returns : goal.returns
returns c = said_laid _ c.args.count _ c.check_all.result c.records_in-most.ensures c.check_all.ensures
