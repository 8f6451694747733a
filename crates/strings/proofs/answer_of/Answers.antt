use mathlib.Core.Path.{ap}
use Rattle.strings.proofs.answer_of.Goals as goal

pub sort_of-requires : goal.sort_of-requires
sort_of-requires c = (c.requires.few, ap (λ w. w.kind) c.requires.whole)

pub returns : goal.returns
returns c = let w = c.requires.whole in λ i. record { sort = c.sort_of.ensures i; mark = (w i).mark; start = (w i).start; end = (w i).end; records = c.args.records; text = c.args.text; chars = c.args.w.chars }
