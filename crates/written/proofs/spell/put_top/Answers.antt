use mathlib.Core.Path.{sym, ◌∙◌}
use Rattle.written.proofs.PutLaws.{puts_same, top_two, top_one}
use Rattle.written.proofs.spell.put_top.Goals as goal

pub returns-then-is_doubled : goal.returns-then-is_doubled
returns-then-is_doubled c = puts_same (top_two c.args.b (sym c.is_doubled.ensures ∙ c.if-is_doubled.true)) c.put_two.ensures

pub returns-else-is_doubled : goal.returns-else-is_doubled
returns-else-is_doubled c = puts_same (top_one c.args.b (sym c.is_doubled.ensures ∙ c.if-is_doubled.false)) c.put_one.ensures
