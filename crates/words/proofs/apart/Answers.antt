use Rattle.std.proofs.Common.{eq-eqb, ne_eqb}
use Rattle.definition_scripts.specs.Opening.{apart}
use Rattle.words.proofs.apart.Goals as goal

pub returns-then-at-eq0 : goal.returns-then-at-eq0
unfolding apart
returns-then-at-eq0 c = rw (eq-eqb c.args.at 0 c.if-at-eq0.true)

pub returns-else-at-eq0 : goal.returns-else-at-eq0
unfolding apart
returns-else-at-eq0 c = rw (ne_eqb c.args.at 0 c.if-at-eq0.false, c.is_word_at.ensures)
