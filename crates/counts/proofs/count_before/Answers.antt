use native.Mathlib.Omega.{arith}
use mathlib.Core.Path.{sym, ◌∙◌}
use Rattle.definition.proofs.Moves.CharLaws.{next_past}
use Rattle.definition_laws.proofs.Moves.Counted.{count_begins, count_stops, count_ends}
use Rattle.utf8.proofs.Steps.{step_char, step_end}
use Rattle.counts.proofs.Counting.{step_counts}
use Rattle.counts.proofs.count_before.Goals as goal

pub loop-at-init : goal.loop-at-init
loop-at-init c = count_begins _ _

pub returns-in_default : goal.returns-in_default
returns-in_default c = sym (count_ends _ _ _ _ c.loop-at.invariant (step_end _ _ (sym c.next_char.ensures ∙ c.in_default.is)))

pub more-k-requires : goal.more-k-requires
more-k-requires c = (c.loop-at.invariant.lines, omega (arith, c.loop-at.invariant.small, (step_char _ _ _ _ (sym c.next_char.ensures ∙ c.in-Char.is)).there))

pub loop-at-smaller : goal.loop-at-smaller
loop-at-smaller c =
    let S = step_char _ _ _ _ (sym c.next_char.ensures ∙ c.in-Char.is) in
    omega (arith, S.next_is, next_past c.args.s.now c.loop-at.at S.there, S.there)

pub loop-at-preserved : goal.loop-at-preserved
loop-at-preserved c = rw c.more-k.ensures (step_counts _ _ _ _ _ _ c.loop-at.invariant c.loop-at-test.true (sym c.next_char.ensures ∙ c.in-Char.is))

pub returns : goal.returns
returns c = sym (count_stops _ _ _ _ c.loop-at.invariant c.loop-at-test.false)
