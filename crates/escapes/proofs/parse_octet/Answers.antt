use Rattle.std.proofs.Common.{arith, ◌≡◌, ◌+◌, ◌-◌, sym, ◌∙◌, add-one, lit<, le_refl}
use Rattle.utf8.proofs.Steps.{step_char, step_end}
use Rattle.escapes.proofs.Digits.{digits_below, digits_fit, octal_end, octal_done, octal_none, octal_more}
use Rattle.escapes.proofs.parse_octet.Goals as goal

pub returns-in_default : goal.returns-in_default
returns-in_default c = sym (c.loop-done.invariant.1 ∙ octal_none _ _ _ _ (omega arith) (octal_end _ _ (step_end _ _ (sym c.next_char.ensures ∙ c.in_default.is))))

pub returns-in_default-octal_digit : goal.returns-in_default-octal_digit
returns-in_default-octal_digit c =
    sym (c.loop-done.invariant.1
    ∙ octal_none _ _ _ _ (omega arith) (rw ((step_char _ _ _ _ (sym c.next_char.ensures ∙ c.in-Char.is)).code_is, ← c.in_default-octal_digit.ensures.value) (le_refl 8)))

pub overflow_mul-p : goal.overflow_mul-p
overflow_mul-p c = let h = digits_fit 8 (c.loop-done._done + 1) 3 _ _ (lit< tt) (omega arith) c.loop-done.invariant.0 c.in-Some.ensures.digit in omega arith

pub overflow_add-p : goal.overflow_add-p
overflow_add-p c = let h = digits_fit 8 (c.loop-done._done + 1) 3 _ _ (lit< tt) (omega arith) c.loop-done.invariant.0 c.in-Some.ensures.digit in omega arith

pub loop-done-preserved : goal.loop-done-preserved
loop-done-preserved c =
    let e : 2 - c.loop-done._done - 1 ≡ 2 - (c.loop-done._done + 1) = omega arith in (
      rw (add-one (c.loop-done._done + 1)) (digits_below 8 _ _ _ c.loop-done.invariant.0 c.in-Some.ensures.digit),
      c.loop-done.invariant.1 ∙ (rw e at (octal_more (2 - c.loop-done._done) c.loop-done.p _ _ _ (omega arith) (step_char _ _ _ _ (sym c.next_char.ensures ∙ c.in-Char.is)) c.in-Some.ensures.value c.in-Some.ensures.digit)),
    )

pub returns : goal.returns
returns c = sym (c.loop-done.invariant.1 ∙ octal_done _ _ _ _ (omega arith))
