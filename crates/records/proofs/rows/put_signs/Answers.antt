use Rattle.std.proofs.Common.{sym, ◌∙◌, length, arith}
use borrow.Author.Tests.{eqb-true}
use Rattle.definition.specs.Rows.{row_numbers}
use Rattle.records.proofs.Windowing.{none_lent, left_out, shown}
use Rattle.records.proofs.rows.put_signs.Goals as goal

pub returns-then-is_empty : goal.returns-then-is_empty
unfolding row_numbers
returns-then-is_empty c = none_lent _ _ _ _ (omega (arith, eqb-true (length c.args.rows.now) 0 (sym c.is_empty.ensures ∙ c.if-is_empty.true)))

pub returns-then-fields-skip : goal.returns-then-fields-skip
unfolding row_numbers
returns-then-fields-skip c = left_out _ _ _ _ (omega (arith, c.if-fields-skip.true))

pub returns : goal.returns
unfolding row_numbers
returns c = rw (← c.sign_at-equals.ensures, ← c.sign_at-bang.ensures, ← c.sign_at-spec.ensures, ← c.sign_at-end.ensures, ← c.conversion_of.ensures, ← c.place_in.ensures, ← c.word.ensures, ← c.reason_of.ensures _) (shown _ _ _ _ _ (omega (arith, c.if-fields-skip.false)) c.put_row.ensures)
