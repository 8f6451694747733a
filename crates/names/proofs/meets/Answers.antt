use Rattle.std.proofs.Common.{sym, refl, ◌∙◌}
use Rattle.names.proofs.Runs.{entry_name, found_within, missed_past, meeting, meet_more, meet_here, meet_end}
use Rattle.names.proofs.meets.Goals as goal

pub loop-at-init : goal.loop-at-init
loop-at-init c = meeting _ _ _

pub returns-then-is_some : goal.returns-then-is_some
returns-then-is_some c =
    let h = rw c.if-line.true at c.in-Some.ensures in
    meet_here _ _ _ _ c.loop-at.invariant _ _ h.2 (entry_name _ _ _ _ _ c.requires.1 c.name_at-name.ensures refl) (found_within _ _ _ c.entry_of.ensures.entry c.entry_of.ensures.inside (sym c.is_some.ensures ∙ c.if-is_some.true))

pub loop-at-preserved-else-is_some : goal.loop-at-preserved-else-is_some
loop-at-preserved-else-is_some c =
    let h = rw c.if-line.true at c.in-Some.ensures in
    meet_more _ _ _ _ c.loop-at.invariant _ _ h.2 (entry_name _ _ _ _ _ c.requires.1 c.name_at-name.ensures refl) (missed_past _ _ _ c.entry_of.ensures.entry (sym c.is_some.ensures ∙ c.if-is_some.false))

pub returns : goal.returns
returns c = meet_end _ _ _ _ c.loop-at.invariant c.loop-at-test.false
