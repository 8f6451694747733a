use Rattle.std.proofs.Common.{◌∙◌, sym}
use Rattle.gaps.proofs.Gaps.{stays}
use Rattle.found.proofs.Cuts.{cutting_over, cutting_comment, next_here}
use Rattle.found.proofs.next_literal.Goals as goal

pub loop-at-init : goal.loop-at-init
loop-at-init c = stays _ _

pub loop-at-smaller : goal.loop-at-smaller
loop-at-smaller c = let h = c.in-Some-eq35.ensures.lookup in (cutting_comment _ _ _ _ c.loop-at.invariant c.near-here.ensures _ c.comment_end-at.ensures h.3.0 (sym (h.3.1 0) ∙ c.in-Some-eq35.field-0-test)).0

pub loop-at-preserved : goal.loop-at-preserved
loop-at-preserved c = let h = c.in-Some-eq35.ensures.lookup in (cutting_comment _ _ _ _ c.loop-at.invariant c.near-here.ensures _ c.comment_end-at.ensures h.3.0 (sym (h.3.1 0) ∙ c.in-Some-eq35.field-0-test)).1

pub returns-in-Some : goal.returns-in-Some
returns-in-Some c = let h = c.in-Some.ensures.lookup in next_here _ _ _ _ c.loop-at.invariant c.near-here.ensures h.3.0 (λ e. c.in-Some.field-0-test.1 (h.3.1 0 ∙ e)) _ c.literal_here.ensures

pub returns-in-None : goal.returns-in-None
returns-in-None c = (c.if-script-gt-MOST_BYTES.false, cutting_over _ _ _ _ c.loop-at.invariant c.near-here.ensures c.in-None.ensures.lookup.3)
