use borrow.Author.Rules.{rules}
use mathlib.Core.Path.{sym, ◌∙◌}
use Rattle.definition_names.specs.Names.{name_of}
use Rattle.definition_names.proofs.NameSearch.{goes_start, goes_end, goes_down, goes_up}
use Rattle.ordering.proofs.bound.Goals as goal

pub loop-low-init : goal.loop-low-init
unfolding name_of
loop-low-init c = (search rules, goes_start _ _ _)

pub loop-low-preserved-then-at_most : goal.loop-low-preserved-then-at_most
unfolding name_of
loop-low-preserved-then-at_most c = (search rules, goes_down _ _ _ _ _ c.loop-low.invariant.1 c.loop-low-test.true (rw (← c.name_at-at.ensures) (sym c.at_most.ensures ∙ c.if-at_most.true)))

pub loop-low-preserved : goal.loop-low-preserved
unfolding name_of
loop-low-preserved c = (search rules, goes_up _ _ _ _ _ c.loop-low.invariant.1 c.loop-low-test.true (rw (← c.name_at-at.ensures) (sym c.at_most.ensures ∙ c.if-at_most.false)))

pub returns : goal.returns
unfolding name_of
returns c = goes_end _ _ _ _ _ c.loop-low.invariant.1 c.loop-low-test.false
