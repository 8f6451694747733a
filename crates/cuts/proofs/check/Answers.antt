use mathlib.Core.Path.{sym, ◌∙◌}
use Rattle.cuts.proofs.Walking.{wrong_offsets_lem, piece_long, a_piece_refused, longer}
use Rattle.cuts.proofs.check.Goals as goal

pub returns-then-not-rises : goal.returns-then-not-rises
returns-then-not-rises c = wrong_offsets_lem _ _ _ (sym c.if-not-rises.true ∙ c.rises.ensures)

pub all_short-requires : goal.all_short-requires
all_short-requires c = sym c.rises.ensures ∙ c.if-not-rises.false

pub returns-then-not-all_short : goal.returns-then-not-all_short
returns-then-not-all_short c = piece_long _ _ _ (sym c.if-not-rises.false ∙ c.rises.ensures) (sym c.if-not-all_short.true ∙ c.all_short.ensures)

pub check_short-requires : goal.check_short-requires
check_short-requires c = (c.if-s-le-LARGEST_BODY.true, sym c.rises.ensures ∙ c.if-not-rises.false, sym c.all_short.ensures ∙ c.if-not-all_short.false)

pub returns-then-s-le-LARGEST_BODY : goal.returns-then-s-le-LARGEST_BODY
returns-then-s-le-LARGEST_BODY c = c.check_short.ensures

pub all_read-requires : goal.all_read-requires
all_read-requires c = sym c.rises.ensures ∙ c.if-not-rises.false

pub returns-then-all_read : goal.returns-then-all_read
returns-then-all_read c = longer _ _ _ (sym c.if-not-rises.false ∙ c.rises.ensures) (sym c.if-not-all_short.false ∙ c.all_short.ensures) c.if-s-le-LARGEST_BODY.false (sym c.if-all_read.true ∙ c.all_read.ensures)

pub returns-else-all_read : goal.returns-else-all_read
returns-else-all_read c = a_piece_refused _ _ _ (sym c.if-not-rises.false ∙ c.rises.ensures) (sym c.if-not-all_short.false ∙ c.all_short.ensures) (sym c.if-all_read.false ∙ c.all_read.ensures)
