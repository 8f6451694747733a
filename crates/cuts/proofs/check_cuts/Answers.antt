use borrow.Author.Rules.{rules}
use mathlib.Core.Path.{refl, sym, ◌∙◌}
use native.Mathlib.Omega.{arith}
use lib.ListN.{get_or}
use Rattle.tokens.proofs.Lessening.{token_less, cut_less, found_less}
use Rattle.tokens.proofs.TokenLaws.{no_end, an_end}
use Rattle.tokens.proofs.PlainTokens.{found_later, tail_at}
use Rattle.cuts.proofs.Checking.{checking, check_done, run_starts, none_left, next_behind, next_before, next_in_run, next_within, token_refused, cut_inside, next_token}
use Rattle.cuts.proofs.check_cuts.Goals as goal
use Rattle.cuts.proofs.check_cuts.Goals.{then-c-i-via-then-c-i, then-c-i-via-else-c-i+then-is_tail}

pub loop-i-init : goal.loop-i-init
loop-i-init c = checking _ _ c.requires.1

pub loop-i-smaller-then-cuts-k : goal.loop-i-smaller-then-cuts-k
loop-i-smaller-then-cuts-k c = token_less _ _ _ _ _ _ _ c.if-i-plain.true c.loop-i.invariant.run.within (omega arith)

pub loop-i-preserved-then-cuts-k : goal.loop-i-preserved-then-cuts-k
loop-i-preserved-then-cuts-k c = none_left _ _ _ _ _ _ c.loop-i.invariant c.if-i-plain.true c.if-cuts-k.true

pub loop-i-smaller-then-plain-c : goal.loop-i-smaller-then-plain-c
loop-i-smaller-then-plain-c c = token_less _ _ _ _ _ _ _ c.if-i-plain.true c.loop-i.invariant.run.within (omega arith)

pub loop-i-preserved-then-plain-c : goal.loop-i-preserved-then-plain-c
loop-i-preserved-then-plain-c c = next_behind _ _ _ _ _ _ c.loop-i.invariant c.if-i-plain.true c.if-cuts-k.false _ refl c.if-plain-c.true

pub returns-then-c-i : goal.returns-then-c-i
returns-then-c-i c =
    elim c.then-c-i.branch [
      | then-c-i-via-then-c-i w ↦ next_before _ _ _ _ _ _ c.loop-i.invariant c.if-i-plain.true c.if-cuts-k.false _ refl w.if-c-i.true
      | then-c-i-via-else-c-i+then-is_tail w ↦
          let within = c.loop-i.invariant.run.within in
          next_within _ _ _ _ _ _ c.loop-i.invariant c.if-i-plain.true c.if-cuts-k.false _ refl w.if-c-i.false c.if-plain-c.false (tail_at c.args.s.now (get_or c.args.cuts.now c.loop-i.k 0) (omega (arith, within, c.if-plain-c.false)) w.is_tail.ensures w.if-is_tail.true)
    ]

pub bounds-s-c : goal.bounds-s-c
bounds-s-c c = let w = c.loop-i.invariant.run.within in search rules

pub loop-i-smaller-then-i-plain : goal.loop-i-smaller-then-i-plain
loop-i-smaller-then-i-plain c = cut_less _ _ _ _ _ _ _ c.if-c-i.false (omega arith) c.if-cuts-k.false

pub loop-i-preserved-then-i-plain : goal.loop-i-preserved-then-i-plain
loop-i-preserved-then-i-plain c = next_in_run _ _ _ _ _ _ c.loop-i.invariant c.if-i-plain.true c.if-cuts-k.false _ refl c.if-c-i.false c.if-plain-c.false (tail_at c.args.s.now (get_or c.args.cuts.now c.loop-i.k 0) (let w = c.loop-i.invariant.run.within in search rules) c.is_tail.ensures c.if-is_tail.false)

pub loop-i-smaller-then-is_plain_at : goal.loop-i-smaller-then-is_plain_at
loop-i-smaller-then-is_plain_at c = found_less _ _ _ _ _ _ c.if-i-plain.false (found_later _ _ _ c.is_plain_at.ensures c.if-is_plain_at.true _ c.plain_end-plain.ensures)

pub loop-i-preserved-then-is_plain_at : goal.loop-i-preserved-then-is_plain_at
loop-i-preserved-then-is_plain_at c = run_starts _ _ _ _ _ _ c.loop-i.invariant _ c.plain_end-plain.ensures

pub returns-in_err-j : goal.returns-in_err-j
returns-in_err-j c =
    rw c.from_residual.ensures (token_refused _ _ _ _ _ _ c.loop-i.invariant c.loop-i-test.true (no_end _ _ _ c.token_end.ensures c.requires.0 (sym c.ok.ensures.value ∙ c.in_err-j.was)))

pub pass_token-requires : goal.pass_token-requires
pass_token-requires c = (c.loop-i-test.true, search rules, c.loop-i.invariant.few)

pub returns-in_err-passed : goal.returns-in_err-passed
returns-in_err-passed c =
    let h = an_end _ _ _ c.token_end.ensures _ (sym c.ok.ensures.value ∙ c.in_ok-j.was) in
    rw c.from_residual-in_err-passed.ensures (cut_inside _ _ _ _ _ _ c.loop-i.invariant c.loop-i-test.true _ h.0 h.1 h.2 c.in_err-passed.ensures)

pub loop-i-smaller : goal.loop-i-smaller
loop-i-smaller c = let h = an_end _ _ _ c.token_end.ensures _ (sym c.ok.ensures.value ∙ c.in_ok-j.was) in let p = c.in_ok-passed.ensures in token_less _ _ _ _ _ _ _ h.1 h.2 p.1

pub loop-i-preserved : goal.loop-i-preserved
loop-i-preserved c = let h = an_end _ _ _ c.token_end.ensures _ (sym c.ok.ensures.value ∙ c.in_ok-j.was) in next_token _ _ _ _ _ _ c.loop-i.invariant c.loop-i-test.true _ h.0 h.1 h.2 _ _ c.in_ok-passed.ensures

pub returns : goal.returns
returns c = check_done _ _ _ _ _ _ c.loop-i.invariant c.loop-i-test.false
