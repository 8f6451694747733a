use borrow.Author.Rules.{rules}
use mathlib.Core.Path.{sym, ◌∙◌}
use native.Mathlib.Omega.{arith}
use Rattle.tokens.proofs.Lessening.{token_less, cut_less, found_less}
use Rattle.tokens.proofs.TokenLaws.{no_end, an_end}
use Rattle.tokens.proofs.PlainTokens.{found_later}
use Rattle.plans.proofs.Planning.{planning, same_list, done, found, run_on, run_cut, run_none, refused, on, too_long_lem, cut}
use Rattle.plans.proofs.plan_into.Goals as goal

pub loop-i-init : goal.loop-i-init
loop-i-init c = planning _ _ _ c.requires.1

pub loop-i-smaller-then-plain-end : goal.loop-i-smaller-then-plain-end
loop-i-smaller-then-plain-end c = token_less _ _ _ _ _ _ _ c.if-i-plain.true c.loop-i.invariant.run.within (omega arith)

pub loop-i-preserved-then-plain-end : goal.loop-i-preserved-then-plain-end
loop-i-preserved-then-plain-end c = run_on _ _ _ _ _ _ _ _ c.loop-i.invariant c.if-i-plain.true (search rules)

pub start_at-c-requires : goal.start_at-c-requires
start_at-c-requires c = let w = c.loop-i.invariant.run.within in (c.loop-i.invariant.reach, search rules)

pub shape_of-list-then-c-start : goal.shape_of-list-then-c-start
shape_of-list-then-c-start c = same_list _ _ _ _ _ _ _ _ c.loop-i.invariant

pub returns-then-c-start : goal.returns-then-c-start
returns-then-c-start c = run_none _ _ _ _ _ _ _ _ c.loop-i.invariant c.if-i-plain.true _ c.start_at-c.ensures (search rules) c.if-c-start.true

pub overflow_cast-c : goal.overflow_cast-c
overflow_cast-c c = let w = c.loop-i.invariant.run.within in let f = c.start_at-c.ensures.within in search rules

pub loop-i-smaller-then-i-plain : goal.loop-i-smaller-then-i-plain
loop-i-smaller-then-i-plain c = let b = c.loop-i.invariant.begun in let w = c.loop-i.invariant.run.within in cut_less _ _ _ _ _ _ _ c.start_at-c.ensures.on c.if-c-start.false (search rules)

pub loop-i-preserved-then-i-plain : goal.loop-i-preserved-then-i-plain
loop-i-preserved-then-i-plain c = run_cut _ _ _ _ _ _ _ _ c.loop-i.invariant c.if-i-plain.true _ c.start_at-c.ensures (search rules) c.if-c-start.false _ c.put.ensures

pub loop-i-smaller-then-is_plain_at : goal.loop-i-smaller-then-is_plain_at
loop-i-smaller-then-is_plain_at c = found_less _ _ _ _ _ _ c.if-i-plain.false (found_later _ _ _ c.is_plain_at.ensures c.if-is_plain_at.true _ c.plain_end-plain.ensures)

pub loop-i-preserved-then-is_plain_at : goal.loop-i-preserved-then-is_plain_at
loop-i-preserved-then-is_plain_at c = found _ _ _ _ _ _ _ _ c.loop-i.invariant _ c.plain_end-plain.ensures

pub shape_of-list-in_err-j : goal.shape_of-list-in_err-j
shape_of-list-in_err-j c = same_list _ _ _ _ _ _ _ _ c.loop-i.invariant

pub returns-in_err-j : goal.returns-in_err-j
returns-in_err-j c = rw c.from_residual.ensures (refused _ _ _ _ _ _ _ _ c.loop-i.invariant c.loop-i-test.true (no_end _ _ _ c.token_end.ensures c.requires.0 (sym c.ok.ensures.value ∙ c.in_err-j.was)))

pub loop-i-smaller-then-j-end : goal.loop-i-smaller-then-j-end
loop-i-smaller-then-j-end c = let h = an_end _ _ _ c.token_end.ensures _ (sym c.ok.ensures.value ∙ c.in_ok-j.was) in token_less _ _ _ _ _ _ _ h.1 h.2 (omega arith)

pub loop-i-preserved-then-j-end : goal.loop-i-preserved-then-j-end
loop-i-preserved-then-j-end c = let h = an_end _ _ _ c.token_end.ensures _ (sym c.ok.ensures.value ∙ c.in_ok-j.was) in on _ _ _ _ _ _ _ _ c.loop-i.invariant c.loop-i-test.true _ h.0 h.1 h.2 c.if-j-end.true

pub shape_of-list-then-i-room : goal.shape_of-list-then-i-room
shape_of-list-then-i-room c = same_list _ _ _ _ _ _ _ _ c.loop-i.invariant

pub returns-then-i-room : goal.returns-then-i-room
returns-then-i-room c = let h = an_end _ _ _ c.token_end.ensures _ (sym c.ok.ensures.value ∙ c.in_ok-j.was) in too_long_lem _ _ _ _ _ _ _ _ c.loop-i.invariant c.loop-i-test.true _ h.0 h.1 h.2 (search rules) c.if-i-room.true

pub loop-i-smaller : goal.loop-i-smaller
loop-i-smaller c = let h = an_end _ _ _ c.token_end.ensures _ (sym c.ok.ensures.value ∙ c.in_ok-j.was) in token_less _ _ _ _ _ _ _ h.1 h.2 c.loop-i.invariant.begun

pub loop-i-preserved : goal.loop-i-preserved
loop-i-preserved c = let h = an_end _ _ _ c.token_end.ensures _ (sym c.ok.ensures.value ∙ c.in_ok-j.was) in cut _ _ _ _ _ _ _ _ c.loop-i.invariant c.loop-i-test.true _ h.0 h.1 h.2 (search rules) (search rules) _ c.put-else-is_plain_at.ensures

pub shape_of-list : goal.shape_of-list
shape_of-list c = same_list _ _ _ _ _ _ _ _ c.loop-i.invariant

pub returns : goal.returns
returns c = done _ _ _ _ _ _ _ _ c.loop-i.invariant c.loop-i-test.false
