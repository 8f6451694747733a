use Rattle.std.proofs.Common.{sym, refl, ◌∙◌, arith}
use Rattle.ordering.proofs.Compare.{first_ends, first_marked, second_ends, second_marked, unlike, equal}
use Rattle.ordering.proofs.at_most.Goals as goal
use Rattle.ordering.proofs.at_most.Goals.{then-t-j-via-then-t-j, then-t-j-via-else-t-j+then-t-j-eq59}

pub loop-i-init : goal.loop-i-init
loop-i-init c = refl

pub returns-then-x-eq59 : goal.returns-then-x-eq59
returns-then-x-eq59 c = sym (c.loop-i.invariant ∙ first_marked _ _ c.args.t.now c.loop-i.j c.loop-i-test.true c.if-x-eq59.true)

pub returns-then-t-j : goal.returns-then-t-j
returns-then-t-j c =
    sym (c.loop-i.invariant ∙ elim c.then-t-j.branch [
      | then-t-j-via-then-t-j w ↦ second_ends _ _ _ _ c.loop-i-test.true c.if-x-eq59.false w.if-t-j.true
      | then-t-j-via-else-t-j+then-t-j-eq59 w ↦ second_marked _ _ _ _ c.loop-i-test.true c.if-x-eq59.false w.if-t-j.false w.if-t-j-eq59.true
    ])

pub returns-then-x-t : goal.returns-then-x-t
returns-then-x-t c = sym (c.loop-i.invariant ∙ unlike _ _ _ _ c.loop-i-test.true c.if-x-eq59.false c.if-t-j.false c.if-t-j-eq59.false c.if-x-t.true)

pub loop-i-preserved : goal.loop-i-preserved
loop-i-preserved c = c.loop-i.invariant ∙ equal _ _ _ _ c.loop-i-test.true c.if-x-eq59.false c.if-t-j.false c.if-t-j-eq59.false (omega arith) (omega arith)

pub returns : goal.returns
returns c = sym (c.loop-i.invariant ∙ first_ends _ _ c.args.t.now c.loop-i.j c.loop-i-test.false)
