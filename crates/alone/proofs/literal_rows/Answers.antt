use native.Mathlib.Omega.{arith}
use mathlib.Core.Path.{sym, ◌∙◌}
use Rattle.told.proofs.Rows.{unknown_most}
use Rattle.alone.proofs.Written.{puts_none, front_none, not_read, puts_own, front_own}
use Rattle.alone.proofs.literal_rows.Goals as goal

pub overflow_add-past : goal.overflow_add-past
overflow_add-past c = let m = unknown_most _ _ _ _ _ _ _ c.put_unknown.ensures in omega arith

pub fstring_rows-requires : goal.fstring_rows-requires
fstring_rows-requires c = let m = unknown_most _ _ _ _ _ _ _ c.put_unknown.ensures in (sym c.is_fstring.ensures ∙ c.if-is_fstring.true, omega arith)

pub returns-then-is_fstring : goal.returns-then-is_fstring
returns-then-is_fstring c =
    let u = c.put_unknown.ensures in
    let f = c.fstring_rows.ensures in
    (puts_own _ _ _ _ _ _ _ u _ _ _ f.0, front_own _ _ _ _ _ _ _ u _ _ f.1)

pub returns : goal.returns
returns c =
    let u = c.put_unknown.ensures in
    (puts_own _ _ _ _ _ _ _ u _ _ _ (rw (not_read _ _ _ _ (sym c.is_fstring.ensures ∙ c.if-is_fstring.false)) (puts_none _ _)), front_own _ _ _ _ _ _ _ u _ _ (front_none _ _ _))
