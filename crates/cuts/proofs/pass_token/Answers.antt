use borrow.Author.Rules.{rules}
use native.Mathlib.Omega.{arith}
use mathlib.Core.Path.{sym, ◌∙◌}
use Rattle.cuts.proofs.Checking.{passing, passed_all, passed, at_start, among, not_octal, too_early}
use Rattle.cuts.proofs.pass_token.Goals as goal
use Rattle.cuts.proofs.pass_token.Goals.{then-not-octal_at-via-then-not-octal_at, then-not-octal_at-via-else-not-octal_at+then-c-i-2}

pub loop-k-init : goal.loop-k-init
loop-k-init c = passing _ _ _ _ _ _ (search rules)

pub returns-then-j-c : goal.returns-then-j-c
returns-then-j-c c = passed _ _ _ _ _ _ _ _ c.loop-k.invariant c.loop-k-test.true c.if-j-c.true

pub loop-k-preserved-then-c-i : goal.loop-k-preserved-then-c-i
loop-k-preserved-then-c-i c = at_start _ _ _ _ _ _ _ _ c.loop-k.invariant c.loop-k-test.true c.if-j-c.false c.if-c-i.true

pub returns-then-not-octal_at : goal.returns-then-not-octal_at
returns-then-not-octal_at c =
    elim c.then-not-octal_at.branch [
      | then-not-octal_at-via-then-not-octal_at w ↦ not_octal _ _ _ _ _ _ _ _ c.loop-k.invariant c.loop-k-test.true c.if-j-c.false c.if-c-i.false (sym c.octal_at.ensures ∙ w.if-not-octal_at.true)
      | then-not-octal_at-via-else-not-octal_at+then-c-i-2 w ↦ too_early _ _ _ _ _ _ _ _ c.loop-k.invariant c.loop-k-test.true c.if-j-c.false c.if-c-i.false (sym c.octal_at.ensures ∙ w.if-not-octal_at.false) w.if-c-i-2.true
    ]

pub loop-k-preserved : goal.loop-k-preserved
loop-k-preserved c = among _ _ _ _ _ _ _ _ c.loop-k.invariant c.loop-k-test.true c.if-j-c.false c.if-c-i.false (sym c.octal_at.ensures ∙ c.if-not-octal_at.false) c.if-c-i-2.false

pub returns : goal.returns
returns c = let m = c.loop-k.invariant in passed_all _ _ _ _ _ _ _ _ m (omega arith)
