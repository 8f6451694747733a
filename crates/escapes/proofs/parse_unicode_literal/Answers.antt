use Rattle.std.proofs.Common.{arith, ◌≡◌, ◌+◌, ◌-◌, sym, ◌∙◌, add-one, lit<, le_refl}
use Rattle.utf8.proofs.Steps.{step_char, step_end}
use Rattle.escapes.proofs.Digits.{digits_below, digits_fit, hex_end, hex_done, hex_none, hex_more}
use Rattle.escapes.proofs.parse_unicode_literal.Goals as goal

pub returns-in_default : goal.returns-in_default
returns-in_default c = c.refuse.ensures ∙ sym (c.loop-done.invariant.1 ∙ hex_none _ _ _ _ _ (omega arith) (hex_end _ _ (step_end _ _ (sym c.next_char.ensures ∙ c.in_default.is))))

pub returns-in_default-hex_digit : goal.returns-in_default-hex_digit
returns-in_default-hex_digit c =
    c.refuse-in_default-hex_digit.ensures ∙ sym (c.loop-done.invariant.1
    ∙ hex_none _ _ _ _ _ (omega arith) (rw ((step_char _ _ _ _ (sym c.next_char.ensures ∙ c.in-Char.is)).code_is, ← c.in_default-hex_digit.ensures.value) (le_refl 16)))

pub overflow_mul-p : goal.overflow_mul-p
overflow_mul-p c = let h = digits_fit 16 (c.loop-done._done) 8 _ _ (lit< tt) (omega arith) c.loop-done.invariant.0 c.in-Some.ensures.digit in omega arith

pub overflow_add-p : goal.overflow_add-p
overflow_add-p c = let h = digits_fit 16 (c.loop-done._done) 8 _ _ (lit< tt) (omega arith) c.loop-done.invariant.0 c.in-Some.ensures.digit in omega arith

pub loop-done-preserved : goal.loop-done-preserved
loop-done-preserved c =
    let e : c.args.digits - c.loop-done._done - 1 ≡ c.args.digits - (c.loop-done._done + 1) = omega arith in (
      rw (add-one (c.loop-done._done)) (digits_below 16 c.loop-done._done c.loop-done.p c.in-Some.d c.loop-done.invariant.0 c.in-Some.ensures.digit),
      c.loop-done.invariant.1 ∙ (rw e at (hex_more (c.args.digits - c.loop-done._done) c.loop-done.p c.args.s.now c.loop-done.cursor.at c.args.from.at c.in-Some.d (omega arith) (step_char _ _ _ _ (sym c.next_char.ensures ∙ c.in-Char.is)) c.in-Some.ensures.value c.in-Some.ensures.digit)),
    )

pub returns : goal.returns
returns c = c.char_of.ensures ∙ sym (c.loop-done.invariant.1 ∙ hex_done _ _ _ _ _ (omega arith))
