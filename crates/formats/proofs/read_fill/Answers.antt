use mathlib.Core.Path.{sym, ◌∙◌}
use Rattle.utf8.proofs.Steps.{step_char, step_end}
use Rattle.formats.proofs.Sets.{fill_end, fill_short, fill_there, fill_not}
use Rattle.formats.proofs.read_fill.Goals as goal
use Rattle.formats.proofs.read_fill.Goals.{else-size-s-via-then-size-s+else-is_align, else-size-s-via-else-size-s}

pub returns-in_default : goal.returns-in_default
returns-in_default c = fill_end _ (step_end _ _ (sym c.next_char.ensures ∙ c.in_default.is))

pub returns-then-is_align : goal.returns-then-is_align
returns-then-is_align c = let t = step_char _ _ _ _ (sym c.next_char.ensures ∙ c.in-Char.is) in fill_there _ t.code_is t.next_is c.if-size-s.true c.is_align.ensures c.if-is_align.true

pub returns : goal.returns
returns c =
    let t = step_char _ _ _ _ (sym c.next_char.ensures ∙ c.in-Char.is) in
    elim c.else-size-s.branch [
      | else-size-s-via-then-size-s+else-is_align w ↦ fill_not _ t.code_is t.next_is w.if-size-s.true w.is_align.ensures w.if-is_align.false
      | else-size-s-via-else-size-s w ↦ fill_short _ t.code_is t.next_is w.if-size-s.false
    ]
