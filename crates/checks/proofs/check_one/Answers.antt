use Rattle.std.proofs.Common.{sym, ◌∙◌}
use Rattle.entry.specs.Answers.{described}
use Rattle.entry.specs.Literals.{literals, literal_at}
use Rattle.checks.proofs.OnePass.{one_checked, one_passes}
use Rattle.checks.proofs.check_one.Goals as goal

pub returns-in-Some : goal.returns-in-Some
returns-in-Some c = one_passes c.args.script.now c.args.l c.in-Some.chars c.in-Some.ensures

pub returns-in-None : goal.returns-in-None
unfolding literals literal_at described
returns-in-None c = c.in_order.ensures ∙ sym (one_checked c.args.script.now c.args.l)
