use Rattle.std.proofs.Common.{◌+◌}
use borrow.Author.Rules.{rules}
use native.Mathlib.Omega.{arith}
use mathlib.Core.Path.{◌≡◌, ◌∙◌, ap}
use Rattle.definition.specs.Words.{owing}
use Rattle.revisions.proofs.Walking.{walk_start, walk_ends, walk_goes, walk_over}
use Rattle.revisions.proofs.item_end.Goals as goal

pub loop-i-init : goal.loop-i-init
loop-i-init c = (search rules, search rules, search rules, λ text. walk_start _ text _ _)

pub returns-then-owed-eq0 : goal.returns-then-owed-eq0
returns-then-owed-eq0 c =
    let a = c.args in
    record {
      ahead = search rules;
      within = search rules;
      first = λ text. c.loop-i.invariant.3 text ∙ walk_ends _ text _ a.at c.loop-i.i c.loop-i.owed _ c.loop-i.invariant.0 (omega (arith, c.loop-i-test.true)) (ap (λ n. n + c.record_at.result.parts) c.saturating_sub.ensures ∙ ap (λ h. owing c.loop-i.owed h.parts) c.record_at.ensures) c.if-owed-eq0.true;
    }

pub loop-i-preserved : goal.loop-i-preserved
loop-i-preserved c =
    let a = c.args in
    (search rules, search rules, search rules, λ text. c.loop-i.invariant.3 text ∙ walk_goes _ text _ a.at c.loop-i.i c.loop-i.owed _ c.loop-i.invariant.0 (omega (arith, c.loop-i-test.true)) (ap (λ n. n + c.record_at.result.parts) c.saturating_sub.ensures ∙ ap (λ h. owing c.loop-i.owed h.parts) c.record_at.ensures) c.if-owed-eq0.false)

pub returns : goal.returns
returns c =
    let a = c.args in
    let e : c.loop-i.i ≡ a.count = omega arith in
    record {
      ahead = search rules;
      within = search rules;
      first = λ text. rw e at (c.loop-i.invariant.3 text ∙ walk_over a.words.now text a.count a.at c.loop-i.i c.loop-i.owed (omega arith) e);
    }
